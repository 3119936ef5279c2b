use Rattle.std.proofs.Common.{length, ap, sym, ◌∙◌, arith}
use Rattle.aud_calls.proofs.CallLaws.Lines.{first_there, others_all, others_more}
use Rattle.aud_calls.proofs.queues.Queues.find.Goals as goal

pub returns-then-is_of-clause-found : goal.returns-then-is_of-clause-found
returns-then-is_of-clause-found c =
    first_there c.args.owner c.args.entry c.args.self.now.queues.items c.loop-at.at c.queue-item.result (omega (arith, c.loop-at-test.true, ap length c.deref-queue-items.ensures.value)) (rw c.deref-queue-items.ensures.value at c.queue-item.is) (sym c.is_of.ensures ∙ c.if-is_of.true) c.loop-at.invariant

pub loop-at-preserved : goal.loop-at-preserved
loop-at-preserved c =
    others_more c.args.owner c.args.entry c.args.self.now.queues.items c.loop-at.at c.queue-item.result (omega (arith, c.loop-at-test.true, ap length c.deref-queue-items.ensures.value)) (rw c.deref-queue-items.ensures.value at c.queue-item.is) (sym c.is_of.ensures ∙ c.if-is_of.false) c.loop-at.invariant

pub returns-clause-absent : goal.returns-clause-absent
returns-clause-absent c = others_all c.args.owner c.args.entry c.args.self.now.queues.items c.loop-at.at (omega arith) c.loop-at.invariant
