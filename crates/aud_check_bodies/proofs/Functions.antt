-- Whether the values of functions that are assigned have faults.
use Rattle.std.specs.Prelude.{Bool, true, false, not, List, [], ◌∷◌, Option, Some, None, is_some}
use Rattle.std.proofs.Common.{◌≡◌, ◌∙◌, ap, refl, sym}
use Rattle.aud_fault.specs.declared.fault.Fault.{Fault}
use Rattle.aud_fault.specs.Least.{noted}
use Rattle.aud_check_bodies.specs.Values.{is_none}

some_noted : (fs : List Fault) (f : Fault) → is_some (noted (Some f) fs) ≡ true
some_noted [] f = refl
some_noted (g ∷ gs) f = some_noted gs _

-- something is noted exactly where there is a fault
pub none_noted : (fs : List Fault) → not (is_some (noted None fs)) ≡ is_none fs
none_noted [] = refl
none_noted (f ∷ fs) = rw (some_noted fs f) refl

not_not : (b : Bool) → b ≡ not (not b)
not_not true = refl
not_not false = refl

pub told_none : (b : Bool) (o : Option Fault) → is_some o ≡ not b → b ≡ not (is_some o)
told_none b o e = not_not b ∙ ap not (sym e)
