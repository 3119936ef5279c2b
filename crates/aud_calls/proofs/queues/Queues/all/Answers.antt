use Rattle.std.proofs.Common.{Bool, get_or, ap, sym, ◌∙◌, arith}
use Rattle.aud_meaning.specs.Parts.{contains}
use Rattle.aud_calls.specs.declared.queues.Queue.{Queue}
use Rattle.aud_calls.proofs.Lists.{all_more, around_more, one_more}
use Rattle.aud_calls.proofs.queues.Queues.all.Goals as goal

pub loop-queue-preserved : goal.loop-queue-preserved
loop-queue-preserved c = λ id.
    let p : Queue → Bool = λ q. contains id q.calls.items in
    one_more p c.args.self.now.queues.items c.loop-queue.queue-index c.queue-item.result (contains id c.loop-queue.ids.items) (contains id c.extend_from_slice.new.self.items) (omega arith) (c.queue-item.is ∙ ap (λ qs. get_or qs c.loop-queue.queue-index c.queue-item.result) c.deref-queue-items.ensures.value)
    (around_more id c.loop-queue.ids.items c.deref.result.now c.extend_from_slice.new.self.items c.queue-item.result.calls.items c.in_ok-extend_from_slice.ensures.items c.deref.ensures.value)
    ∙ c.loop-queue.invariant id

pub returns : goal.returns
returns c = λ id.
    let p : Queue → Bool = λ q. contains id q.calls.items in
    sym (all_more p c.args.self.now.queues.items c.loop-queue.queue-index (contains id c.loop-queue.ids.items) (omega arith))
    ∙ c.loop-queue.invariant id
