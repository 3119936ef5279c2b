use Rattle.std.proofs.Common.{ap, ◌∙◌}
use Rattle.aud_typed.specs.Ties.View.{alternatives_in}
use Rattle.aud_layout.specs.Layout.{bodies_from_by, parts_from_by}
use Rattle.aud_layout.specs.Written.{flat_step}
use Rattle.aud_gen.proofs.Loops.{if_ok}
use Rattle.aud_gen.proofs.entries.offers_within.Goals as goal

pub returns : goal.returns
returns c =
    let offered = alternatives_in c.args.alternatives.now in
    if_ok c.offers.result (λ os h. (h.0 ∙ ap (λ n. parts_from_by flat_step offered c.args.place c.args.next n) c.in_ok-count.ensures, h.1 ∙ ap (λ n. bodies_from_by flat_step offered c.args.place c.args.next n) c.in_ok-count.ensures)) c.offers.ensures
