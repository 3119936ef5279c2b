use Rattle.std.proofs.Common.{◌<◌, length, map, ap, sym, subst, ◌∙◌, arith}
use Rattle.std.proofs.lemmas.List.{length-map}
use Rattle.aud_meaning.specs.Configuration as meaning
use Rattle.aud_calls.specs.Queues.{AreInLine}
use Rattle.aud_calls.specs.View.{plain_slot}
use Rattle.aud_calls.proofs.CallLaws.Changed.{call_changed, no_call_there}
use Rattle.aud_calls.proofs.Lists.{changed_at}
use Rattle.aud_calls.proofs.CallLaws.InLine.{seen_at, settled_lines}
use Rattle.aud_calls.proofs.calls.Calls.settle.Goals as goal

pub invariant_of-self : goal.invariant_of-self
invariant_of-self c =
    let i = c.self.inside in
    let n = c.args.id in
    let f : meaning.Call → meaning.Call = λ a. record a { state = c.args.state } in
    let x = c.index.result.now in
    let m = c.index_mut.result.now in
    let within : n < length i.calls.items = omega arith in
    subst (λ cs. AreInLine cs i.arrivals c.leave.new.queues)
    (sym (changed_at plain_slot f i.calls.items n m c.set_state.new.self within (c.set_state.ensures ∙ ap (λ z. f (plain_slot z)) c.index_mut.ensures.value)))
    (settled_lines (map plain_slot i.calls.items) i.arrivals i.queues c.self.invariant n (plain_slot x) (omega (arith, length-map i.calls.items plain_slot)) (seen_at plain_slot i.calls.items n x within c.index.ensures) c.leave.new.queues f (λ z. c.requires) c.leave.ensures)

pub returns-then-id-len : goal.returns-then-id-len
returns-then-id-len c =
    let i = c.self.inside in
    let m = c.index_mut.result.now in
    call_changed (λ a. record a { state = c.args.state }) i.calls.items i.arrivals c.args.id m c.set_state.new.self c.args.self.now (omega arith) c.index_mut.ensures.value c.set_state.ensures c.self.view_is

pub returns-else-id-len : goal.returns-else-id-len
returns-else-id-len c =
    let i = c.self.inside in
    no_call_there (λ a. record a { state = c.args.state }) i.calls.items i.arrivals c.args.id c.args.self.now (omega arith) c.self.view_is
