use Rattle.std.proofs.Common.{◌≡◌, length, map}
use Rattle.aud_meaning.specs.Parts.{contains}
use Rattle.aud_calls.specs.View.{plain_slot}
use Rattle.aud_calls.proofs.CallLaws.GivenBack.{left_first}
use Rattle.aud_calls.proofs.calls.give_back.Given as goal

abbrev pub invariant-loop-id : goal.invariant-loop-id
invariant-loop-id l =
    (map plain_slot l.calls.items ≡ left_first (λ n. contains n l.served) 0 l.id-counter (map plain_slot l.initial.calls.items))
    × (length l.calls.items ≡ length l.initial.calls.items)
