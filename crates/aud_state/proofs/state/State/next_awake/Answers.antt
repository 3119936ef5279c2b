use Rattle.std.proofs.Common.{⊎_elim, subst, sym, arith}
use Rattle.std.proofs.lemmas.Bool.Decides.{eqb_tells}
use Rattle.aud_state.specs.Resting.{Rests}
use Rattle.aud_state.proofs.state.State.next_awake.Goals as goal

pub loop-task-init : goal.loop-task-init
loop-task-init c = λ n low high. absurd (omega (arith, low, high))

pub loop-task-preserved : goal.loop-task-preserved
loop-task-preserved c = λ n low high.
    ⊎_elim (λ h. subst (λ k. Rests k c.args.self.now) (sym h.1) (c.rests.ensures c.if-not-rests.false))
    (λ h. c.loop-task.invariant n low (omega (arith, high, h.1)))
    (eqb_tells n c.loop-task.task)

pub returns-then-not-rests-clause-rest : goal.returns-then-not-rests-clause-rest
returns-then-not-rests-clause-rest c = c.loop-task.invariant

pub returns-clause-rest : goal.returns-clause-rest
returns-clause-rest c = λ n low high. c.loop-task.invariant n low (omega (arith, low, high))
