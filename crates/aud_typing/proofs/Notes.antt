-- Faults that are noted one after the other.
use Rattle.std.specs.Prelude.{List, [], ◌∷◌, ◌++◌, Option, Box, Result, Ok, Err, IfOk}
use Rattle.std.specs.Global.{Global}
use Rattle.std.specs.declared.alloc.AllocError.{AllocError}
use Rattle.std.proofs.Common.{◌≡◌, refl, sym, ◌∙◌, ap}
use Rattle.aud_fault.specs.declared.fault.Fault.{Fault}
use Rattle.aud_typing.specs.declared.typed.Typed as memory
use Rattle.aud_fault.specs.Least.{note, noted}
use Rattle.aud_typing.specs.Expressions.{Typed, Checked, after, with}
use Rattle.aud_typing.specs.Ties.Typing.{plain_typed, in_box, Leaves, Shows}

pub noted_append : (o : Option Fault) (fs gs : List Fault) → noted o (fs ++ gs) ≡ noted (noted o fs) gs
noted_append o [] gs = refl
noted_append o (f ∷ fs) gs = noted_append (note o f) fs gs

pub noted_then : (o m n : Option Fault) (fs gs : List Fault) → m ≡ noted o fs → n ≡ noted m gs → n ≡ noted o (fs ++ gs)
noted_then o m n fs gs p q = q ∙ ap (λ z. noted z gs) p ∙ sym (noted_append o fs gs)

pub leaves : {X Y : Type 0} (plain : X → Y) (r : Result X AllocError) (old new : Option Fault) (fs : List Fault) (y : Y) → new ≡ noted old fs → IfOk r (λ x. plain x ≡ y) → Leaves plain r old new fs y
leaves plain (Ok x) old new fs y p h = (p, h)
leaves plain (Err e) old new fs y p h = tt

-- faults that were noted before
pub leaves_after : {X Y : Type 0} (plain : X → Y) (r : Result X AllocError) (old mid new : Option Fault) (fs gs : List Fault) (y : Y) → mid ≡ noted old fs → Leaves plain r mid new gs y → Leaves plain r old new (fs ++ gs) y
leaves_after plain (Ok x) old mid new fs gs y p h = (noted_then old mid new fs gs p h.0, h.1)
leaves_after plain (Err e) old mid new fs gs y p h = tt

-- what is left of a part goes in a box
pub boxes : {X Y : Type 0} (plain : X → Y) (r : Result (Box X Global) AllocError) (x : X) (y : Y) → IfOk r (λ b. b.value ≡ x) → plain x ≡ y → IfOk r (λ b. plain b.value ≡ y)
boxes plain (Ok b) x y p q = ap plain p ∙ q
boxes plain (Err e) x y p q = tt

pub leaves_box : {X Y : Type 0} (plain : X → Y) (r : Result (Box X Global) AllocError) (old new : Option Fault) (fs : List Fault) (x : X) (y : Y) → new ≡ noted old fs → IfOk r (λ b. b.value ≡ x) → plain x ≡ y → Leaves (in_box plain) r old new fs y
leaves_box plain r old new fs x y p q e = leaves (in_box plain) r old new fs y p (boxes plain r x y q e)

-- a part is checked, and then the rest with the part's type
pub shows_with : (old mid new : Option Fault) (c : Checked) (f : Typed → Checked) (t : Box memory.Typed Global) (r : Result (Box memory.Typed Global) AllocError) → Shows (Ok t) old mid c → Shows r mid new (f (plain_typed t.value)) → Shows r old new (with c f)
shows_with old mid new c f t (Ok x) h k =
    (k.0 ∙ ap (λ o. noted o (f (plain_typed t.value)).faults) h.0 ∙ ap (λ y. noted (noted old c.faults) (f y).faults) h.1 ∙ sym (noted_append old c.faults (f c.typed).faults), k.1 ∙ ap (λ y. (f y).typed) h.1)
shows_with old mid new c f t (Err e) h k = tt

-- what is still to be checked, from some faults on, amounts to what was asked
pub record Ahead (now : Option Fault) (rest : Checked) (old : Option Fault) (all : Checked) : Type 0 where
  pub faults : noted now rest.faults ≡ noted old all.faults
  pub typed : rest.typed ≡ all.typed

pub ahead_all : (old : Option Fault) (all : Checked) → Ahead old all old all
ahead_all old all = record { faults = refl; typed = refl }

-- a part of it is checked
pub ahead_with : (old mid new : Option Fault) (all c : Checked) (f : Typed → Checked) (t : Box memory.Typed Global) → Ahead mid (with c f) old all → Shows (Ok t) mid new c → Ahead new (f (plain_typed t.value)) old all
ahead_with old mid new all c f t a h = record {
  faults = ap (λ o. noted o (f (plain_typed t.value)).faults) h.0 ∙ ap (λ y. noted (noted mid c.faults) (f y).faults) h.1 ∙ sym (noted_append mid c.faults (f c.typed).faults) ∙ a.faults;
  typed = ap (λ y. (f y).typed) h.1 ∙ a.typed;
}

-- faults are noted before it
pub ahead_after : (old mid new : Option Fault) (all c : Checked) (fs : List Fault) → Ahead mid (after fs c) old all → new ≡ noted mid fs → Ahead new c old all
ahead_after old mid new all c fs a p = record {
  faults = ap (λ o. noted o c.faults) p ∙ sym (noted_append mid fs c.faults) ∙ a.faults;
  typed = a.typed;
}
