use Rattle.std.proofs.Common.{ap, sym, ◌∙◌}
use Rattle.aud_meaning.specs.Configuration.{All}
use Rattle.aud_meaning.specs.Tasks as effect
use Rattle.aud_code.specs.Control.{going}
use Rattle.aud_code.specs.Places.{Spot}
use Rattle.aud_text.specs.declared.raise.Raise.TheVariants.{Program}
use Rattle.aud_typed.specs.declared.program.Exception.TheVariants.{Predefined}
use Rattle.aud_meaning.specs.Parts.{end_action, fails}
use Rattle.aud_protected.proofs.starting.meet.Goals as goal

pub returns-in_ok-calls-in-Err-clause-does : goal.returns-in_ok-calls-in-Err-clause-does
returns-in_ok-calls-in-Err-clause-does g c =
    let go = going c.args.code.now in
    let plan = g.B.Barriers.plan c.args.barriers.now in
    let barrier = g.B.Barriers.barrier c.args.barriers.now in
    let object = c.args.object in
    let n = c.args.n in
    let old = c.args.state.now in
    let id = c.args.id in
    let over : All Spot = effect.end_call go plan barrier (fails (Predefined Program)) id old in
    c.end_action.ensures
    ∙ ap (λ (s : All Spot). end_action n object s) (c.refuse.ensures plan barrier)
    ∙ ap (λ (s : All Spot). end_action n object (effect.refuse go plan barrier Program c.deref.result.now s)) (c.caller_fails.ensures plan barrier)
    ∙ ap (λ ids. end_action n object (effect.refuse go plan barrier Program ids over)) (c.deref.ensures.value ∙ c.in_ok-calls-in-Err.ensures)
    ∙ ap (λ m. effect.barrier_met go plan barrier m c.args.at object id n old) (sym c.in-Err.is)
