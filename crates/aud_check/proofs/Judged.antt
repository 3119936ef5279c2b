-- The fault that is reported is what the faults were noted to.
use Rattle.std.specs.Prelude.{List, [], ◌∷◌, Some, None, Ok, Err}
use Rattle.std.proofs.Common.{◌≡◌, refl, sym, ◌∙◌, ap}
use Rattle.aud_typed.specs.Tree as tree
use Rattle.aud_fault.specs.declared.fault.Fault.{Fault}
use Rattle.aud_fault.specs.Least.{earlier, least, noted}
use Rattle.aud_check.specs.Checked.{judged}

noted_least : (f : Fault) (fs : List Fault) → noted (Some f) fs ≡ Some (least f fs)
noted_least f [] = refl
noted_least f (g ∷ gs) = noted_least (earlier f g) gs

pub none_noted : (fs : List Fault) → noted None fs ≡ None → fs ≡ []
none_noted [] h = refl
none_noted (f ∷ fs) h = let e : Some (least f fs) ≡ None = sym (noted_least f fs) ∙ h in cc

pub judged_fine : (fs : List Fault) (p : tree.Program) → noted None fs ≡ None → judged fs p ≡ Ok p
judged_fine fs p h = ap (λ l. judged l p) (none_noted fs h)

pub judged_wrong : (fs : List Fault) (p : tree.Program) (f : Fault) → noted None fs ≡ Some f → judged fs p ≡ Err f
judged_wrong [] p f h = cc
judged_wrong (g ∷ gs) p f h = let e : Some (least g gs) ≡ Some f = sym (noted_least g gs) ∙ h in cc
