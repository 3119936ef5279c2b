use Rattle.std.proofs.Common.{None, ap, ◌∙◌}
use Rattle.aud_typed.specs.Ties.View.{plain_program}
use Rattle.aud_meaning.specs.Configuration.{All}
use Rattle.aud_meaning.specs.Effects.{out_of}
use Rattle.aud_meaning.specs.Parts.{on_own}
use Rattle.aud_meaning.specs.Tasks as effect
use Rattle.aud_code.specs.Control.{going}
use Rattle.aud_code.specs.Flat.{barrier_at}
use Rattle.aud_code.specs.Places.{Spot}
use Rattle.aud_tasks.proofs.leave.leave.Goals as goal

pub returns-clause-does : goal.returns-clause-does
returns-clause-does c =
    let plan = (plain_program c.args.compiled.program.now).plan in
    let code = c.args.compiled.code.now in
    c.out_of.ensures
    ∙ ap (λ (s : All Spot). on_own c.args.n (out_of c.args.loops) s)
    (c.in_ok-ticks.ensures.does ∙ ap (λ s. effect.at_end (going code) plan (barrier_at code) c.args.alternative None c.args.n s) c.pass_end.ensures)
