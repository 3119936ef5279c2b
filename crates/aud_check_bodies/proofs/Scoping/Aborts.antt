-- The tasks that an abort statement names have been elaborated.
use Rattle.std.proofs.Common.{◌++◌, Option, Some, None, List, refl}
use Rattle.aud_text.specs.declared.place.Pos.{Pos}
use Rattle.aud_syntax.specs.Plain as plain
use Rattle.aud_typed.specs.Tree as tree
use Rattle.aud_typed.specs.Why.Scoped.{Scope, AllTasksScoped}
use Rattle.aud_names.specs.declared.names.Meaning.TheVariants.{Task}
use Rattle.aud_names.specs.Names.{Place}
use Rattle.aud_typing.specs.Expressions.{Entity, entity, task_of}
use Rattle.aud_check_bodies.specs.Aborts.{aborted, named_task, listed, other_tasks, typed_abort}
use Rattle.aud_check_bodies.proofs.Scoping.Names.{Known, Sees}
use Rattle.aud_check_bodies.proofs.Scoping.Expressions.{EntityScoped, denoting_scoped, arguments_scoped}
use Rattle.aud_check_bodies.proofs.Scoping.Single.{IsStatement}

module _ (known : Known) (scope : Scope) where
  aborted_scoped : (x : Entity) → EntityScoped known scope x → AllTasksScoped known.plan (listed (aborted x)) scope
  aborted_scoped (entity (Task t)) h = (h, tt)
  aborted_scoped (task_of a index) h = (h, tt)
  aborted_scoped _ h = tt

  with_listed : (x : Option tree.TaskName) (ts : List tree.TaskName) → AllTasksScoped known.plan (listed x) scope → AllTasksScoped known.plan ts scope → AllTasksScoped known.plan (listed x ++ ts) scope
  with_listed None ts h i = i
  with_listed (Some t) ts h i = (h.0, i)

module _ (known : Known) (scope : Scope) (n : Place) (sees : Sees known scope n) where
  named_scoped : (x : plain.Name) → AllTasksScoped known.plan (listed (named_task x n)) scope
  named_scoped x = aborted_scoped known scope _ (denoting_scoped known scope n sees x _ (arguments_scoped known scope n sees x))

  others_scoped : (xs : plain.Names) → AllTasksScoped known.plan (other_tasks xs n) scope
  others_scoped plain.no_names = tt
  others_scoped (plain.more_names x xs) = with_listed known scope (named_task x n) (other_tasks xs n) (named_scoped x) (others_scoped xs)

  pub abort_scoped : (at : Pos) (x : plain.Name) (xs : plain.Names) → IsStatement known scope (typed_abort at x xs n)
  abort_scoped at x xs = (with_listed known scope (named_task x n) (other_tasks xs n) (named_scoped x) (others_scoped xs), refl)
