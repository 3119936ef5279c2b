use Rattle.std.proofs.Common.{◌≡◌, ℕ, Result, Bool, drop}
use Rattle.aud_text.specs.declared.raise.Raise.{Raise as RaiseOf}
use Rattle.aud_typed.specs.Tree.{Plan}
use Rattle.aud_meaning.specs.Evaluation.{Sight}
use Rattle.aud_meaning.specs.Tasks as effect
use Rattle.aud_code.specs.Control.{going}
use Rattle.aud_abort.proofs.aborting.terminate_created.Given as goal

abbrev pub invariant-loop-task : goal.invariant-loop-task
invariant-loop-task l =
    (plan : Plan) → (barrier : ℕ → Sight → Result Bool RaiseOf) →
    effect.each (going l.code) plan barrier (effect.terminates_created (going l.code) plan barrier) (drop l.task-index l.hit) l.state ≡ effect.each (going l.code) plan barrier (effect.terminates_created (going l.code) plan barrier) l.hit l.fn.state
