use Rattle.std.proofs.Common.{◌≡◌, ◌++◌, ◌-◌, ℕ, Bool, Result, map}
use Rattle.aud_text.specs.declared.raise.Raise.{Raise as RaiseOf}
use Rattle.aud_typed.specs.Tree.{Plan}
use Rattle.aud_typed.specs.Ties.View.{plain_tasks}
use Rattle.aud_meaning.specs.Evaluation.{Sight}
use Rattle.aud_meaning.specs.Parts.{task_plan}
use Rattle.aud_meaning.specs.Tasks as effect
use Rattle.aud_code.specs.Control.{going}
use Rattle.aud_sequential.specs.Shown.{plans_of}
use Rattle.aud_state.specs.View.{plain_task}
use Rattle.aud_state.proofs.creation.all_created.Given as goal

abbrev pub invariant-loop-index : goal.invariant-loop-index
invariant-loop-index l =
    (plan : Plan) → plan.units ≡ plans_of l.units → (task_plan plan l.tasks.task_type).unit ≡ l.unit → (barrier : ℕ → Sight → Result Bool RaiseOf) →
    map plain_task l.all.items ++ effect.all_created (going l.code) plan barrier (plain_task l.creator).own (plain_tasks l.tasks) l.index (l.tasks.length - l.index)
    ≡ effect.all_created (going l.code) plan barrier (plain_task l.creator).own (plain_tasks l.tasks) 0 l.tasks.length
