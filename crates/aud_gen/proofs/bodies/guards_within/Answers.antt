use Rattle.std.proofs.Common.{ap, ◌∙◌}
use Rattle.aud_typed.specs.Ties.View.{handlers_in}
use Rattle.aud_layout.specs.Layout.{guards_of_by}
use Rattle.aud_layout.specs.Written.{flat_step}
use Rattle.aud_gen.proofs.Loops.{if_ok}
use Rattle.aud_gen.proofs.bodies.guards_within.Goals as goal

pub returns : goal.returns
returns c = if_ok c.guards.result (λ gs h. h ∙ ap (λ n. guards_of_by flat_step (handlers_in c.args.handlers.now) c.args.place n) c.in_ok-count.ensures) c.guards.ensures
