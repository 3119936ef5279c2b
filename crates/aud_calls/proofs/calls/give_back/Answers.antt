use Rattle.std.proofs.Common.{◌≡◌, ℕ, true, false, map, ap, ◌∙◌, arith}
use Rattle.std.proofs.lemmas.Grind.{common_steps}
use Rattle.std.proofs.lemmas.List.{length-map, length-set}
use Rattle.aud_meaning.specs.Parts.{changed, contains}
use Rattle.aud_calls.specs.View.{plain_slot}
use Rattle.aud_calls.proofs.CallLaws.GivenBack.{all_left, left, left_alone, more_left, none_left}
use Rattle.aud_calls.proofs.Lists.{changed_at, contains_same}
use Rattle.aud_calls.proofs.calls.give_back.Goals as goal
use Rattle.aud_calls.proofs.calls.give_back.Goals.{then-not-contains, else-not-contains}

pub loop-id-preserved : goal.loop-id-preserved
loop-id-preserved c =
    let n = c.loop-id.id-counter in
    let items = c.loop-id.calls.items in
    let old = map plain_slot c.args.calls.now.items in
    let served = λ (k : ℕ). contains k c.args.served.now in
    let here : c.contains.result ≡ served n = c.contains.ensures.value ∙ contains_same n c.args.served.now in
    elim c.if-not-contains.branch [
      | then-not-contains w ↦
          let m = w.index_mut.result.now in
          let y = w.give_back.new.self in
          let out : served n ≡ false = grind (arith, common_steps, here, w.if-not-contains.true) in
          rw w.calls-is (
            changed_at plain_slot (left served n) items n m y (omega arith) (w.give_back.ensures ∙ left_alone served n (plain_slot m) out ∙ ap (λ z. left served n (plain_slot z)) w.index_mut.ensures.value)
                ∙ ap (changed n (left served n)) c.loop-id.invariant.0
                ∙ more_left served n old,
            length-set items n y ∙ c.loop-id.invariant.1,
          )
      | else-not-contains w ↦
          let in_it : served n ≡ true = grind (arith, common_steps, here, w.if-not-contains.false) in
          rw w.calls-is (c.loop-id.invariant.0 ∙ none_left served n old in_it, c.loop-id.invariant.1)
    ]

pub returns : goal.returns
returns c =
    let old = map plain_slot c.args.calls.now.items in
    c.loop-id.invariant.0
    ∙ all_left (λ k. contains k c.args.served.now) c.loop-id.id-counter old (omega (arith, length-map c.args.calls.now.items plain_slot))
