use Rattle.std.proofs.Common.{◌≡◌, ◌<◌, false, length, map, ap, sym, subst, refl, slice_index_or, ◌∙◌, arith}
use Rattle.std.proofs.lemmas.List.{length-map}
use Rattle.aud_meaning.specs.Configuration as meaning
use Rattle.aud_meaning.specs.Parts.{is_queued, no_call}
use Rattle.aud_meaning.specs.Tasks as effect
use Rattle.aud_calls.specs.Queues.{AreInLine, waiting}
use Rattle.aud_calls.specs.View.{Kept, plain_slot}
use Rattle.aud_calls.proofs.CallLaws.Changed.{call_changed, no_call_there}
use Rattle.aud_calls.proofs.Lists.{changed_at, seen_same}
use Rattle.aud_calls.proofs.CallLaws.InLine.{read_at, seen_at, settled_lines, stays}
use Rattle.aud_calls.proofs.calls.Calls.give_to.Goals as goal

pub invariant_of-self : goal.invariant_of-self
invariant_of-self c =
    let i = c.self.inside in
    let m = c.index_mut.result.now in
    subst (λ cs. AreInLine cs i.arrivals i.queues) (sym (seen_same plain_slot i.calls.items c.args.id m c.set_owner.new.self (omega arith) (c.in_err-set_owner.ensures.same ∙ ap plain_slot c.index_mut.ensures.value))) c.self.invariant

pub invariant_of-self-2 : goal.invariant_of-self-2
invariant_of-self-2 c =
    let i = c.self.inside in
    let n = c.args.id in
    let m = c.index_mut.result.now in
    let x = plain_slot m in
    let f : meaning.Call → meaning.Call = λ a. plain_slot c.set_owner.new.self in
    let within : n < length i.calls.items = omega arith in
    let idle : is_queued x.state ≡ false =
    sym (ap (λ (z : meaning.Call). is_queued z.state) (read_at plain_slot i.calls.items n m no_call within c.index_mut.ensures.value))
    ∙ ap (λ (w : Kept). is_queued (slice_index_or w.calls n no_call).state) c.self.view_is ∙ c.requires in
    subst (λ cs. AreInLine cs i.arrivals i.queues)
    (sym (changed_at plain_slot f i.calls.items n m c.set_owner.new.self within refl))
    (settled_lines (map plain_slot i.calls.items) i.arrivals i.queues c.self.invariant n x (omega (arith, length-map i.calls.items plain_slot)) (seen_at plain_slot i.calls.items n m within c.index_mut.ensures.value) i.queues f (λ z. c.in_ok-set_owner.ensures.settled) (λ o e. stays o e n x (waiting o e i.queues) idle))

pub returns-then-id-len : goal.returns-then-id-len
returns-then-id-len c = λ go plan barrier.
    let i = c.self.inside in
    no_call_there (effect.called_of go plan barrier c.args.owner) i.calls.items i.arrivals c.args.id c.args.self.now (omega arith) c.self.view_is

pub returns : goal.returns
returns c = λ go plan barrier.
    let i = c.self.inside in
    let m = c.index_mut.result.now in
    call_changed (effect.called_of go plan barrier c.args.owner) i.calls.items i.arrivals c.args.id m c.set_owner.new.self c.args.self.now (omega arith) c.index_mut.ensures.value (c.in_ok-set_owner.ensures.does go plan barrier) c.self.view_is
