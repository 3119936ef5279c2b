use Rattle.std.proofs.Common.{◌≡◌, ◌<◌, ◌+◌, ◌++◌, ◌∷◌, [], List, ℕ, suc, length, map, set, false, slice_index_or, ap, sym, subst, ◌∙◌, arith, get_or, if◌then◌else◌, nat_eq}
use Rattle.std.specs.Prelude.{◌&&◌}
use Rattle.std.proofs.lemmas.Grind.{common_steps}
use Rattle.std.proofs.lemmas.List.{get_or-set_same, length-map, set-set}
use Rattle.aud_meaning.specs.declared.state.CallState.TheVariants.{Queued}
use Rattle.aud_meaning.specs.Configuration as meaning
use Rattle.aud_meaning.specs.Parts.{changed, is_queued, no_call, owner_number}
use Rattle.aud_calls.specs.Queues.{AreInLine, waiting}
use Rattle.aud_calls.specs.View.{Kept, plain_slot}
use Rattle.aud_calls.proofs.Lists.{changed_at, seen_same, unchanged}
use Rattle.aud_calls.proofs.CallLaws.InLine.{arrived_lines, later_lines, read_at, same_lines, seen_at}
use Rattle.aud_calls.proofs.calls.Calls.put_last.Goals as goal

-- what a call has once it has arrived
abbrev arrives : ℕ → ℕ → Kept → Kept
arrives id k w = record w { calls = changed id (λ (a : meaning.Call). record a { state = Queued; arrival = k }) w.calls; arrivals = suc k }

pub invariant_of-self : goal.invariant_of-self
invariant_of-self c =
    let i = c.self.inside in
    let made : c.in_ok-arrivals.arrivals ≡ i.arrivals + 1 = grind (arith, common_steps, c.checked_add.ensures, c.ok_or.ensures, c.in_ok-arrivals.ensures) in
    let next : suc i.arrivals ≡ c.in_ok-arrivals.arrivals = omega (arith, made) in
    subst (λ k. AreInLine (map plain_slot i.calls.items) k i.queues) next
    (later_lines (map plain_slot i.calls.items) i.arrivals i.queues c.self.invariant)

pub returns-then-id-len : goal.returns-then-id-len
returns-then-id-len c =
    let i = c.self.inside in
    let made : c.in_ok-arrivals.arrivals ≡ i.arrivals + 1 = grind (arith, common_steps, c.checked_add.ensures, c.ok_or.ensures, c.in_ok-arrivals.ensures) in
    let next : suc i.arrivals ≡ c.in_ok-arrivals.arrivals = omega (arith, made) in
    let with : List meaning.Call → ℕ → Kept = λ cs k. record { calls = cs; arrivals = k } in
    ap (with (map plain_slot i.calls.items)) (sym next)
    ∙ ap (λ cs. with cs (suc i.arrivals)) (unchanged plain_slot (λ (a : meaning.Call). record a { state = Queued; arrival = i.arrivals }) i.calls.items c.args.id (omega arith))
    ∙ ap (λ (w : Kept). arrives c.args.id w.arrivals w) c.self.view_is

-- the call is kept from then on, and looks the same
pub invariant_of-self-in_err-keep : goal.invariant_of-self-in_err-keep
invariant_of-self-in_err-keep c =
    let i = c.self.inside in
    let m = c.index_mut.result.now in
    subst (λ cs. AreInLine cs i.arrivals i.queues) (sym (seen_same plain_slot i.calls.items c.args.id m c.keep.new.self (omega arith) (c.keep.ensures.same ∙ ap plain_slot c.index_mut.ensures.value))) c.self.invariant

pub invariant_of-self-in_err-join : goal.invariant_of-self-in_err-join
invariant_of-self-in_err-join c =
    let i = c.self.inside in
    let m = c.index_mut.result.now in
    subst (λ cs. AreInLine cs i.arrivals c.join.new.self) (sym (seen_same plain_slot i.calls.items c.args.id m c.keep.new.self (omega arith) (c.keep.ensures.same ∙ ap plain_slot c.index_mut.ensures.value)))
    (same_lines (map plain_slot i.calls.items) i.arrivals i.queues c.self.invariant c.join.new.self c.in_err-join.ensures.kept)

pub invariant_of-self-2 : goal.invariant_of-self-2
invariant_of-self-2 c =
    let i = c.self.inside in
    let n = c.args.id in
    let m = c.index_mut.result.now in
    let y = c.keep.new.self in
    let x = plain_slot m in
    let arrived : meaning.Call → meaning.Call = λ a. record a { state = Queued; arrival = i.arrivals } in
    let within : n < length i.calls.items = omega arith in
    let made : c.in_ok-arrivals.arrivals ≡ i.arrivals + 1 = grind (arith, common_steps, c.checked_add.ensures, c.ok_or.ensures, c.in_ok-arrivals.ensures) in
    let next : suc i.arrivals ≡ c.in_ok-arrivals.arrivals = omega (arith, made) in
    let there : plain_slot c.index-slot.result.now ≡ x = ap plain_slot (c.index-slot.ensures ∙ get_or-set_same i.calls.items n y c.index-slot.result.now within) ∙ c.keep.ensures.same in
    let queued : plain_slot c.queue.new.self ≡ arrived (plain_slot (get_or i.calls.items n m)) =
    c.queue.ensures ∙ ap (λ z. arrived (plain_slot z)) (c.index_mut-2.ensures.value ∙ get_or-set_same i.calls.items n y c.index_mut-2.result.now within) ∙ ap arrived (c.keep.ensures.same ∙ ap plain_slot c.index_mut.ensures.value) in
    let idle : is_queued x.state ≡ false =
    sym (ap (λ (z : meaning.Call). is_queued z.state) (read_at plain_slot i.calls.items n m no_call within c.index_mut.ensures.value))
    ∙ ap (λ (w : Kept). is_queued (slice_index_or w.calls n no_call).state) c.self.view_is ∙ c.requires in
    let on : (o e : ℕ) → (nat_eq c.entry.result e && nat_eq c.number_of.result o) ≡ (nat_eq x.entry e && nat_eq (owner_number x.owner) o) =
    λ o e. ap (λ k. nat_eq k e && nat_eq c.number_of.result o) (c.entry.ensures ∙ ap (λ (a : meaning.Call). a.entry) there)
    ∙ ap (λ k. nat_eq x.entry e && nat_eq k o) (c.number_of.ensures ∙ ap owner_number (c.owner.ensures ∙ ap (λ (a : meaning.Call). a.owner) there)) in
    subst (λ k. AreInLine (map plain_slot (set (set i.calls.items n y) n c.queue.new.self)) k c.join.new.self) next
    (subst (λ cs. AreInLine cs (suc i.arrivals) c.join.new.self)
    (sym (ap (map plain_slot) (set-set i.calls.items n y c.queue.new.self) ∙ changed_at plain_slot arrived i.calls.items n m c.queue.new.self within queued))
    (arrived_lines (map plain_slot i.calls.items) i.arrivals i.queues c.self.invariant n x (omega (arith, length-map i.calls.items plain_slot)) (seen_at plain_slot i.calls.items n m within c.index_mut.ensures.value) c.join.new.self idle
    (λ o e. c.in_ok-join.ensures.joined o e ∙ ap (λ b. if b then waiting o e i.queues ++ n ∷ [] else waiting o e i.queues) (on o e))))

pub returns : goal.returns
returns c =
    let i = c.self.inside in
    let n = c.args.id in
    let m = c.index_mut.result.now in
    let y = c.keep.new.self in
    let arrived : meaning.Call → meaning.Call = λ a. record a { state = Queued; arrival = i.arrivals } in
    let within : n < length i.calls.items = omega arith in
    let made : c.in_ok-arrivals.arrivals ≡ i.arrivals + 1 = grind (arith, common_steps, c.checked_add.ensures, c.ok_or.ensures, c.in_ok-arrivals.ensures) in
    let next : suc i.arrivals ≡ c.in_ok-arrivals.arrivals = omega (arith, made) in
    let with : List meaning.Call → ℕ → Kept = λ cs k. record { calls = cs; arrivals = k } in
    let queued : plain_slot c.queue.new.self ≡ arrived (plain_slot (get_or i.calls.items n m)) =
    c.queue.ensures ∙ ap (λ z. arrived (plain_slot z)) (c.index_mut-2.ensures.value ∙ get_or-set_same i.calls.items n y c.index_mut-2.result.now within) ∙ ap arrived (c.keep.ensures.same ∙ ap plain_slot c.index_mut.ensures.value) in
    ap (with (map plain_slot (set (set i.calls.items n y) n c.queue.new.self))) (sym next)
    ∙ ap (λ cs. with cs (suc i.arrivals)) (ap (map plain_slot) (set-set i.calls.items n y c.queue.new.self) ∙ changed_at plain_slot arrived i.calls.items n m c.queue.new.self within queued)
    ∙ ap (λ (w : Kept). arrives n w.arrivals w) c.self.view_is
