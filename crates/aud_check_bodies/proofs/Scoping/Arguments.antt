-- Arguments without faults use what is elaborated, and there are as many as formals.
use Rattle.std.specs.Prelude.{IfSome}
use Rattle.std.proofs.Common.{◌≡◌, ℕ, suc, List, [], ◌∷◌, length, Option, Some, None, refl, ap}
use Rattle.aud_syntax.specs.Plain as plain
use Rattle.aud_typed.specs.declared.program.Subtype.{Subtype}
use Rattle.aud_typed.specs.declared.program.Variable.{Variable}
use Rattle.aud_typed.specs.Tree as tree
use Rattle.aud_typed.specs.Why.Scoped.{Scope, IsElaborated, ReferenceScoped, ArgumentScoped, ArgumentsScoped}
use Rattle.aud_names.specs.declared.names.Meaning.{Meaning}
use Rattle.aud_names.specs.declared.names.Meaning.TheVariants.{Object}
use Rattle.aud_names.specs.declared.names.NamedParameter.{NamedParameter}
use Rattle.aud_names.specs.declared.names.Parameter.{Parameter}
use Rattle.aud_names.specs.Names.{Place}
use Rattle.aud_typing.specs.Expressions as e
use Rattle.aud_typing.specs.Expressions.{Entity, no_entity, entity, element_of, task_of}
use Rattle.aud_check_bodies.specs.Declarations as d
use Rattle.aud_check_bodies.specs.Formals.{is_in}
use Rattle.aud_check_bodies.specs.Assignments.{target_of}
use Rattle.aud_check_bodies.specs.Arguments as a
use Rattle.aud_check_bodies.proofs.Scoping.Names.{Known, MeaningScoped, Sees, either}
use Rattle.aud_check_bodies.proofs.Scoping.Expressions.{EntityScoped, value_scoped, denoting_scoped, expression_scoped, arguments_scoped}

module _ (known : Known) (scope : Scope) where
  object_scoped : (v : Variable) (t : Option Subtype) → IsElaborated v scope → IfSome (a.object_reference v t) (λ r. ReferenceScoped known.plan r scope)
  object_scoped v None h = tt
  object_scoped v (Some t) h = h

  meaning_scoped : (m : Meaning) → MeaningScoped known scope m → IfSome (a.meaning_reference m) (λ r. ReferenceScoped known.plan r scope)
  meaning_scoped (Object o) h = object_scoped o.variable o.subtype h
  meaning_scoped _ h = tt

  pub reference_scoped : (x : Entity) → EntityScoped known scope x → IfSome (a.reference_of x) (λ r. ReferenceScoped known.plan r scope)
  reference_scoped no_entity h = tt
  reference_scoped (entity m) h = meaning_scoped m h
  reference_scoped (element_of x index None) h = tt
  reference_scoped (element_of x index (Some t)) h = h
  reference_scoped (task_of x index) h = tt

  copied_scoped : (p : Parameter) (r : Option tree.Reference) → IfSome r (λ x. ReferenceScoped known.plan x scope) → IfSome (a.copied_to p r) (λ x. ArgumentScoped known.plan x scope)
  copied_scoped p None h = tt
  copied_scoped p (Some r) h = h

  with_scoped : (x : Option tree.Argument) (rest : Option (List tree.Argument)) (n : ℕ) → IfSome x (λ y. ArgumentScoped known.plan y scope) → IfSome rest (λ ys. (length ys ≡ n) × ArgumentsScoped known.plan ys scope)
      → IfSome (a.with_passed x rest) (λ ys. (length ys ≡ suc n) × ArgumentsScoped known.plan ys scope)
  with_scoped None rest n h i = tt
  with_scoped (Some x) None n h i = tt
  with_scoped (Some x) (Some ys) n h i = (ap suc i.0, (h, i.1))

module _ (known : Known) (scope : Scope) (n : Place) (sees : Sees known scope n) where
  named_scoped : (p : Parameter) (x : Option plain.Name) → IfSome (a.copied p x n) (λ y. ArgumentScoped known.plan y scope)
  named_scoped p None = tt
  named_scoped p (Some x) =
      copied_scoped known scope p (a.reference_of (target_of x n).entity) (reference_scoped known scope (target_of x n).entity (denoting_scoped known scope n sees x (e.checked_arguments x n).typed (arguments_scoped known scope n sees x)))

  passed_scoped : (p : Parameter) (x : plain.Expression) → IfSome (a.passed p x n) (λ y. ArgumentScoped known.plan y scope)
  passed_scoped p x =
      either (λ (z : Option tree.Argument). IfSome z (λ y. ArgumentScoped known.plan y scope)) (is_in p.mode) _ _
      (value_scoped known scope (d.known p.subtype) (e.checked_expression x n).typed (expression_scoped known scope n sees x))
      (named_scoped p (a.expression_name x))

  pub all_passed_scoped : (ps : List NamedParameter) (xs : plain.Args) → IfSome (a.all_passed ps xs n) (λ ys. (length ys ≡ length ps) × ArgumentsScoped known.plan ys scope)
  all_passed_scoped [] plain.no_args = (refl, tt)
  all_passed_scoped [] (plain.more_args x xs) = tt
  all_passed_scoped (p ∷ ps) plain.no_args = tt
  all_passed_scoped (p ∷ ps) (plain.more_args x xs) = with_scoped known scope (a.passed p.parameter x n) (a.all_passed ps xs n) (length ps) (passed_scoped p.parameter x) (all_passed_scoped ps xs)
