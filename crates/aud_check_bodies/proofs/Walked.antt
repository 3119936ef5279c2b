-- Checks of parts one after the other.
use Rattle.std.specs.Prelude.{List, [], ◌∷◌, ◌++◌, map, Option, Result, Ok, Err, IfOk}
use Rattle.std.specs.declared.alloc.AllocError.{AllocError}
use Rattle.std.proofs.Common.{◌≡◌, refl, sym, ◌∙◌, ap, subst, append_assoc, append-nil}
use Rattle.std.proofs.lemmas.List.{map-append}
use Rattle.aud_fault.specs.declared.fault.Fault.{Fault}
use Rattle.aud_fault.specs.Least.{noted}
use Rattle.aud_check_bodies.specs.Tables.{Tables, Outcome, fine, after, and_then}
use Rattle.aud_typing.specs.Ties.Typing.{Leaves}
use Rattle.aud_check_bodies.specs.Ties.Within.{Checks}
use Rattle.aud_typing.proofs.Notes.{noted_append}

-- the faults of an outcome are noted, its tables are there, and it is made
abbrev pub Is : {Y : Type 0} → Option Fault → Option Fault → Tables → Y → Outcome Y → Type 0
Is old new t y o = (new ≡ noted old o.faults) × (t ≡ o.tables) × (y ≡ o.made)

pub is_fine : {Y : Type 0} (old : Option Fault) (t : Tables) (y z : Y) → y ≡ z → Is old old t y (fine z t)
is_fine old t y z e = (refl, refl, e)

pub is_after : {Y : Type 0} (old mid new : Option Fault) (t : Tables) (y : Y) (fs : List Fault) (o : Outcome Y) → mid ≡ noted old fs → Is mid new t y o → Is old new t y (after fs o)
is_after old mid new t y fs o h k = (k.0 ∙ ap (λ z. noted z o.faults) h ∙ sym (noted_append old fs o.faults), k.1, k.2)

-- a part is checked, and then the rest with what was made of it
pub is_then : {X Y : Type 0} (old mid new : Option Fault) (t u : Tables) (x : X) (y : Y) (o : Outcome X) (next : X → Tables → Outcome Y) → Is old mid t x o → Is mid new u y (next x t) → Is old new u y (and_then o next)
is_then old mid new t u x y o next h k = (
  k.0 ∙ ap (λ z. noted z (next x t).faults) h.0 ∙ ap (λ z. noted (noted old o.faults) (next z t).faults) h.2 ∙ ap (λ z. noted (noted old o.faults) (next o.made z).faults) h.1 ∙ sym (noted_append old o.faults (next o.made o.tables).faults),
  k.1 ∙ ap (λ z. (next z t).tables) h.2 ∙ ap (λ z. (next o.made z).tables) h.1,
  k.2 ∙ ap (λ z. (next z t).made) h.2 ∙ ap (λ z. (next o.made z).made) h.1,
)

-- what is made at last
pub checks : {X Y : Type 0} (plain : X → Y) (r : Result X AllocError) (old new : Option Fault) (t : Tables) (y : Y) (o : Outcome Y) → Is old new t y o → IfOk r (λ x. plain x ≡ y) → Checks plain r old new t o
checks plain (Ok x) old new t y o h e = (h.0, h.1, e ∙ h.2)
checks plain (Err e) old new t y o h i = tt

-- faults that were noted before a check
pub checks_after : {X Y : Type 0} (plain : X → Y) (r : Result X AllocError) (old mid new : Option Fault) (t : Tables) (fs : List Fault) (o : Outcome Y) → mid ≡ noted old fs → Checks plain r mid new t o → Checks plain r old new t (after fs o)
checks_after plain (Ok x) old mid new t fs o p h = is_after old mid new t (plain x) fs o p h
checks_after plain (Err e) old mid new t fs o p h = tt

-- a check that leaves the tables as they are
pub checks_leaf : {X Y : Type 0} (plain : X → Y) (r : Result X AllocError) (old new : Option Fault) (t : Tables) (fs : List Fault) (y : Y) → Leaves plain r old new fs y → Checks plain r old new t (after fs (fine y t))
checks_leaf plain (Ok x) old new t fs y h = (h.0 ∙ ap (noted old) (sym (append-nil fs)), refl, h.1)
checks_leaf plain (Err e) old new t fs y h = tt

-- Lists of parts: some are checked, and the rest is still to be.

-- a part, and those behind it
abbrev pub each : {Y : Type 0} → Outcome Y → (Tables → Outcome (List Y)) → Outcome (List Y)
each o more = and_then o (λ y t. and_then (more t) (λ ys u. fine (y ∷ ys) u))

pub record Left {Y : Type 0} (items : List Y) (now : Option Fault) (rest : Outcome (List Y)) (old : Option Fault) (all : Outcome (List Y)) : Type 0 where
  pub faults : noted now rest.faults ≡ noted old all.faults
  pub tables : rest.tables ≡ all.tables
  pub made : items ++ rest.made ≡ all.made

pub none_left : {X Y : Type 0} (plain : X → Y) (items : List X) (old : Option Fault) (all : Outcome (List Y)) → items ≡ [] → Left (map plain items) old all old all
none_left plain items old all e = record { faults = refl; tables = refl; made = ap (λ l. map plain l ++ all.made) e }

one_made : {Y : Type 0} (items : List Y) (y : Y) (mid new : Option Fault) (u : Tables) (o : Outcome Y) (more : Tables → Outcome (List Y)) (old : Option Fault) (all : Outcome (List Y)) → Left items mid (each o more) old all → Is mid new u y o → Left (items ++ y ∷ []) new (more u) old all
one_made items y mid new u o more old all a h = record {
  faults = ap (λ z. noted z (more u).faults) h.0 ∙ ap (λ z. noted (noted mid o.faults) (more z).faults) h.1 ∙ sym (noted_append mid o.faults (more o.tables).faults) ∙ ap (λ l. noted mid (o.faults ++ l)) (sym (append-nil (more o.tables).faults)) ∙ a.faults;
  tables = ap (λ z. (more z).tables) h.1 ∙ a.tables;
  made = append_assoc items (y ∷ []) (more u).made ∙ ap (λ z. items ++ (z ∷ (more u).made)) h.2 ∙ ap (λ z. items ++ (o.made ∷ (more z).made)) h.1 ∙ a.made;
}

-- one more is checked
pub one_left : {X Y : Type 0} (plain : X → Y) (now next : List X) (one : X) (mid new : Option Fault) (u : Tables) (o : Outcome Y) (more : Tables → Outcome (List Y)) (rest : Outcome (List Y)) (old : Option Fault) (all : Outcome (List Y)) → rest ≡ each o more → Left (map plain now) mid rest old all → next ≡ now ++ one ∷ [] → Is mid new u (plain one) o → Left (map plain next) new (more u) old all
one_left plain now next one mid new u o more rest old all e a p h =
    let one_more : Left (map plain now) mid (each o more) old all = subst (λ r. Left (map plain now) mid r old all) e a in
    rw (p, map-append plain now (one ∷ [])) (one_made (map plain now) (plain one) mid new u o more old all one_more h)

-- all are checked
pub end_left : {Y : Type 0} (items : List Y) (now old : Option Fault) (t : Tables) (rest all : Outcome (List Y)) → rest ≡ fine [] t → Left items now rest old all → Is old now t items all
end_left items now old t rest all e a = (
  ap (λ r. noted now r.faults) (sym e) ∙ a.faults,
  ap (λ r. r.tables) (sym e) ∙ a.tables,
  sym (append-nil items) ∙ ap (λ r. items ++ r.made) (sym e) ∙ a.made,
)
