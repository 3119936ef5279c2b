use Rattle.std.proofs.Common.{◌++◌, ◌∷◌, [], List, length, map, ap, sym, subst, ◌∙◌}
use Rattle.std.proofs.lemmas.List.{length-map, map-append}
use Rattle.aud_meaning.specs.Configuration as meaning
use Rattle.aud_meaning.specs.Parts.{is_queued}
use Rattle.aud_calls.specs.Queues.{AreInLine}
use Rattle.aud_calls.specs.View.{Kept, plain_slot}
use Rattle.aud_calls.proofs.CallLaws.InLine.{made_lines}
use Rattle.aud_calls.proofs.calls.Calls.push.Goals as goal

pub invariant_of-self-2 : goal.invariant_of-self-2
invariant_of-self-2 c =
    let i = c.self.inside in
    subst (λ cs. AreInLine cs i.arrivals i.queues)
    (sym (ap (map plain_slot) c.in_ok-push.ensures.items ∙ map-append plain_slot i.calls.items (c.in_ok-slot.slot ∷ [])))
    (made_lines (map plain_slot i.calls.items) i.arrivals i.queues c.self.invariant (plain_slot c.in_ok-slot.slot) (ap (λ (a : meaning.Call). is_queued a.state) c.in_ok-slot.ensures))

pub returns-clause-pushed : goal.returns-clause-pushed
returns-clause-pushed c =
    let i = c.self.inside in
    let with : List meaning.Call → Kept = λ cs. record { calls = cs; arrivals = i.arrivals } in
    ap (λ cs. with (map plain_slot cs)) c.in_ok-push.ensures.items
    ∙ ap with (map-append plain_slot i.calls.items (c.in_ok-slot.slot ∷ []))
    ∙ ap (λ (w : Kept). record w { calls = w.calls ++ plain_slot c.in_ok-slot.slot ∷ [] }) c.self.view_is
    ∙ ap (λ a. record c.args.self.now { calls = c.args.self.now.calls ++ a ∷ [] }) c.in_ok-slot.ensures

pub returns-clause-number : goal.returns-clause-number
returns-clause-number c =
    c.len-id.ensures
    ∙ c.self.inside.calls.ok.0
    ∙ sym (length-map c.self.inside.calls.items plain_slot)
    ∙ ap (λ (w : Kept). length w.calls) c.self.view_is
