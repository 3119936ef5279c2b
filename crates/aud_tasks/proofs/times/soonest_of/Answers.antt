use Rattle.std.proofs.Common.{Some, refl, ap, sym, ◌∙◌}
use Rattle.aud_meaning.specs.declared.state.OpenDelay.{OpenDelay}
use Rattle.aud_meaning.specs.Parts.{call_of, own_of}
use Rattle.std.specs.Prelude.{map}
use Rattle.aud_tasks.specs.declared.turn.Turn.TheVariants.{Cancelling, Expiring}
use Rattle.aud_tasks.specs.Moving.{soonest}
use Rattle.aud_tasks.proofs.MoveLaws.Moving.{call_times, listed, times_told}
use Rattle.aud_tasks.proofs.MoveLaws.Soonest.{times_none}
use Rattle.aud_tasks.proofs.times.soonest_of.Goals as goal

pub returns-in-Expiring : goal.returns-in-Expiring
returns-in-Expiring c = λ plan.
    let code = c.args.code.now in
    let s = c.args.state.now in
    let n = c.args.task in
    c.soonest_delay.ensures
    ∙ ap (λ ds. soonest c.args.found (map (λ (d : OpenDelay). d.time) ds)) c.delays.ensures
    ∙ ap (soonest c.args.found) (sym (times_told plan code s n c.turn_of.result Expiring (c.turn_of.ensures plan) c.in-Expiring.is))

pub returns-in-Some : goal.returns-in-Some
returns-in-Some c = λ plan.
    let code = c.args.code.now in
    let s = c.args.state.now in
    let n = c.args.task in
    ap Some c.sooner.ensures
    ∙ ap (λ o. soonest c.args.found (listed plan code s o)) (sym c.in-Some.is ∙ c.cancelled_from.ensures)
    ∙ ap (soonest c.args.found) (sym (times_told plan code s n c.turn_of.result Cancelling (c.turn_of.ensures plan) c.in-Cancelling.is ∙ call_times plan code s (call_of (own_of n s).call s)))

pub returns-in-None : goal.returns-in-None
returns-in-None c = λ plan.
    let code = c.args.code.now in
    let s = c.args.state.now in
    let n = c.args.task in
    ap (λ o. soonest c.args.found (listed plan code s o)) (sym c.in-None.is ∙ c.cancelled_from.ensures)
    ∙ ap (soonest c.args.found) (sym (times_told plan code s n c.turn_of.result Cancelling (c.turn_of.ensures plan) c.in-Cancelling.is ∙ call_times plan code s (call_of (own_of n s).call s)))

pub returns-in_default : goal.returns-in_default
returns-in_default c = λ plan.
    let code = c.args.code.now in
    let s = c.args.state.now in
    let n = c.args.task in
    ap (soonest c.args.found) (sym (times_told plan code s n c.turn_of.result c.turn_of.result (c.turn_of.ensures plan) refl ∙ times_none plan code n s c.turn_of.result c.in_default.not-Expiring c.in_default.not-Cancelling))
