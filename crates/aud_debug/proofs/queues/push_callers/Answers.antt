use Rattle.std.proofs.Common.{◌++◌, ap, sym, ◌∙◌, arith, append-nil}
use Rattle.aud_debug.proofs.Queued.{next_caller, no_caller}
use Rattle.aud_debug.proofs.queues.push_callers.Goals as goal

pub loop-call-preserved : goal.loop-call-preserved
loop-call-preserved c =
    next_caller _ _ _ _ _ _ c.args.calls.now c.loop-call.call-index c.args.state.now (omega arith) c.in_ok-extend_from_slice.ensures.items c.in_ok-push_decimal.ensures c.in_ok-number_of.ensures c.caller.ensures c.loop-call.invariant

pub returns : goal.returns
returns c =
    let out = c.loop-call.out.items in
    let none = no_caller c.args.calls.now c.loop-call.call-index c.args.state.now (omega (arith, c.loop-call-test.false)) in
    sym (append-nil out) ∙ ap (λ l. out ++ l) (sym none) ∙ c.loop-call.invariant
