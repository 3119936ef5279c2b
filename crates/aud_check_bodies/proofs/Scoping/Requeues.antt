-- The target of a requeue statement has been elaborated, and its body is there.
use Rattle.std.specs.Prelude.{IfSome}
use Rattle.std.proofs.Common.{◌≡◌, ◌⊎◌, inl, inr, ℕ, Bool, true, false, List, Option, Some, None, refl}
use Rattle.aud_text.specs.declared.place.Pos.{Pos}
use Rattle.aud_syntax.specs.Plain as plain
use Rattle.aud_typed.specs.declared.program.Variable.{Variable}
use Rattle.aud_typed.specs.Tree as tree
use Rattle.aud_typed.specs.Tree.{Plan}
use Rattle.aud_typed.specs.Why.Scoped.{Scope, Entry, entry_of, entry_unit, CalleeScoped, BodyAround, NamedOutside, NamedInside, CalledAgain}
use Rattle.aud_names.specs.declared.names.Entry as named_entry
use Rattle.aud_names.specs.declared.names.Meaning.{Meaning}
use Rattle.aud_names.specs.declared.names.Meaning.TheVariants as meaning
use Rattle.aud_names.specs.declared.names.Owner.{Owner}
use Rattle.aud_names.specs.declared.names.Owner.TheVariants as owner
use Rattle.aud_names.specs.declared.names.Owner.TheVariants.{Single, Element}
use Rattle.aud_names.specs.Names as names
use Rattle.aud_names.specs.Names.{Place}
use Rattle.aud_names.specs.Resolution as resolution
use Rattle.aud_typing.specs.Expressions.{Typed, number}
use Rattle.aud_check_bodies.specs.Tables.{Tables}
use Rattle.aud_check_bodies.specs.Calls as calls
use Rattle.aud_check_bodies.specs.Requeues as requeues
use Rattle.aud_check_bodies.proofs.Scoping.Names.{Known, IsEntry, NamedBy, OwnerScoped, VisibleScoped, Sees, Fits, regions_see, resolved_scoped}
use Rattle.aud_check_bodies.proofs.Scoping.Expressions.{TypedScoped, prefix_scoped}
use Rattle.aud_check_bodies.proofs.Scoping.Plans.{seen}
use Rattle.aud_check_bodies.proofs.Scoping.Single.{IsStatement}

module _ (known : Known) (scope : Scope) where
  abbrev TargetScoped : ℕ → tree.Callee → Type 0
  TargetScoped n c = CalleeScoped known.plan c scope × BodyAround known.plan known.entries c n scope × CalledAgain known.plan known.entries c n

  named_again : (inside : Bool) (v : Variable) (outer : Scope) → NamedBy inside v outer → NamedOutside v outer ⊎ NamedInside v outer
  named_again true v outer h = inr h
  named_again false v outer h = inl h

  target_scoped : known.complete ≡ true → (x : Owner) (n : ℕ) (t : Typed) → OwnerScoped known n x scope → TypedScoped known.plan scope t → IfSome (requeues.target_callee x t) (TargetScoped n)
  target_scoped whole (Single v) n t h i = (h.0, h.1, tt)
  target_scoped whole (Element a) n (number k) h i = ((h.0, i), h.1, tt)
  target_scoped whole (Element a) n _ h i = tt
  target_scoped whole (owner.Object x) n t h i = (h.0, (h.1.entered, h.1.outer whole), named_again (names.is_inside x.access) x.variable (entry_of known.entries (entry_unit known.plan n)).outer (h.2 whole))

  requeued_to_scoped : (at : Pos) (x : named_entry.Entry) (with_abort : Bool) (c : Option tree.Callee) (t : Tables) → IsEntry known x.number → IfSome c (TargetScoped x.number) → IsStatement known scope (requeues.requeued_to at x with_abort c t)
  requeued_to_scoped at x with_abort None t h i = (tt, refl)
  requeued_to_scoped at x with_abort (Some c) t h i = ((h.0, i.0, i.1, i.2), refl)

module _ (plan : Plan) (entries : List Entry) where
  pub requeue_scoped : (at : Pos) (x : plain.Name) (with_abort : Bool) (n : Place) (t : Tables) (scope : Scope) → Fits (seen plan entries t) scope n → IsStatement (seen plan entries t) scope (requeues.typed_requeue at x with_abort n t)
  requeue_scoped at x with_abort n t scope fits = by (resolution.resolved x n).denoted.meaning (resolved_scoped (seen plan entries t) scope n sees x)
    where
      sees : Sees (seen plan entries t) scope n
      sees = regions_see (seen plan entries t) scope n fits.regions

      index : (o : Owner) → TypedScoped plan scope (calls.index_checked o x n).typed
      index (Single v) = tt
      index (Element a) = prefix_scoped (seen plan entries t) scope n sees x
      index (owner.Object z) = tt

      by : (m : Option Meaning) → VisibleScoped (seen plan entries t) scope m → IsStatement (seen plan entries t) scope (requeues.requeued at m x with_abort n t)
      by (Some (meaning.Entry e)) h =
          requeued_to_scoped (seen plan entries t) scope at e with_abort (requeues.target_callee e.owner (calls.index_checked e.owner x n).typed) t h.0
          (target_scoped (seen plan entries t) scope refl e.owner e.number (calls.index_checked e.owner x n).typed h.1 (index e.owner))
      by _ h = (tt, refl)
