-- What an object's frame has does not tell from where its parts are named.
use Rattle.std.specs.Prelude.{nat_eq, if◌then◌else◌}
use Rattle.std.specs.List.{AllByRecursion}
use Rattle.std.specs.Str.{bytes_eq}
use Rattle.std.proofs.Common.{◌≡◌, ℕ, ◌+◌, ◌<◌, ◌≤◌, Bool, true, false, List, [], ◌∷◌, ◌++◌, Some, is_some, arith, refl, sym, ◌∙◌, ap, subst}
use Rattle.std.proofs.lemmas.Bool.{eq-eqb, ne_eqb}
use Rattle.aud_names.specs.declared.names.Access.{Access}
use Rattle.aud_names.specs.declared.names.Access.TheVariants.{Outside}
use Rattle.aud_names.specs.declared.names.Instance.{Instance}
use Rattle.aud_names.specs.declared.names.Meaning.{Meaning}
use Rattle.aud_names.specs.declared.parts.ObjectPart.{ObjectPart}
use Rattle.aud_names.specs.declared.parts.PartKind.{PartKind}
use Rattle.aud_typed.specs.Why.Scoped.{Elaborated}
use Rattle.aud_names.specs.Names as names
use Rattle.aud_names.specs.Names.{Symbol, Region}
use Rattle.aud_names.specs.Objects as objects
use Rattle.aud_names.specs.Objects.{own_instance, with_part, with_parts}
use Rattle.aud_check_bodies.proofs.Scoping.Names.{either}
use Rattle.aud_check_bodies.proofs.Scoping.Declarations.{elaborated}

abbrev pub names_of : List Symbol → List (List ℕ)
names_of [] = []
names_of (x ∷ xs) = x.0 ∷ names_of xs

-- they declare the same names, in frames of the same size
pub record Alike (r s : Region) : Type 0 where
  pub named : names_of r.symbols ≡ names_of s.symbols
  pub cells : r.cells ≡ s.cells
  pub names : r.names ≡ s.names

pub alike_elaborated : (r s : Region) → Alike r s → elaborated r ≡ elaborated s
alike_elaborated r s h = ap {B = Elaborated} (λ n. record { names = n; cells = r.cells }) h.names ∙ ap {B = Elaborated} (λ n. record { names = s.names; cells = n }) h.cells

abbrev is_in : List ℕ → List (List ℕ) → Bool
is_in name [] = false
is_in name (x ∷ xs) = if bytes_eq name x then true else is_in name xs

declared_in : (name : List ℕ) (xs : List Symbol) → names.is_declared name xs ≡ is_in name (names_of xs)
declared_in name [] = refl
declared_in name (x ∷ xs) = by (bytes_eq name x.0) (declared_in name xs)
  where
    by : (b : Bool) → names.is_declared name xs ≡ is_in name (names_of xs) → is_some (if b then Some x.1 else names.named_in name xs) ≡ (if b then true else is_in name (names_of xs))
    by true h = refl
    by false h = h

declared_alike : (name : List ℕ) (xs ys : List Symbol) → names_of xs ≡ names_of ys → names.is_declared name ys ≡ names.is_declared name xs
declared_alike name xs ys h = declared_in name ys ∙ ap (is_in name) (sym h) ∙ sym (declared_in name xs)

names_push : (xs : List Symbol) (name : List ℕ) (m : Meaning) → names_of (xs ++ (name, m) ∷ []) ≡ names_of xs ++ name ∷ []
names_push [] name m = refl
names_push (x ∷ xs) name m = ap (λ l. x.0 ∷ l) (names_push xs name m)

-- one part more, which the region does not name yet
abbrev pub with_new : List ℕ → PartKind → Instance → Region → Region
with_new name kind x r = record r {
  symbols = r.symbols ++ (name, objects.part_meaning kind x (record { level = r.level; index = r.cells })) ∷ [];
  cells = r.cells + objects.part_cells kind;
  names = r.names + objects.part_cells kind;
}

part_alike : (name : List ℕ) (kind : PartKind) (x y : Instance) (r s : Region) → Alike r s → Alike (with_part name kind x r) (with_part name kind y s)
part_alike name kind x y r s h = subst (λ b. Alike (with_part name kind x r) (if b then s else with_new name kind y s)) (sym (declared_alike name r.symbols s.symbols h.named)) (by (names.is_declared name r.symbols))
  where
    more : Alike (with_new name kind x r) (with_new name kind y s)
    more = record {
      named = names_push r.symbols name _ ∙ ap (λ l. l ++ name ∷ []) h.named ∙ sym (names_push s.symbols name _);
      cells = ap (λ n. n + objects.part_cells kind) h.cells;
      names = ap (λ n. n + objects.part_cells kind) h.names;
    }

    by : (b : Bool) → Alike (if b then r else with_new name kind x r) (if b then s else with_new name kind y s)
    by true = h
    by false = more

-- the parts of an object, from wherever they are named
pub parts_alike : (object l k : ℕ) (a b : Access) (ps : List ObjectPart) (r s : Region) → Alike r s → Alike (with_parts (own_instance l object a) ps r) (with_parts (own_instance k object b) ps s)
parts_alike object l k a b [] r s h = h
parts_alike object l k a b (p ∷ ps) r s h = parts_alike object l k a b ps _ _ (by (nat_eq object p.object))
  where
    by : (c : Bool) → Alike (if c then with_part p.name p.part.kind (own_instance l object a) r else r) (if c then with_part p.name p.part.kind (own_instance k object b) s else s)
    by true = part_alike p.name p.part.kind (own_instance l object a) (own_instance k object b) r s h
    by false = h

pub parts_append : (x : Instance) (ps qs : List ObjectPart) (r : Region) → with_parts x (ps ++ qs) r ≡ with_parts x qs (with_parts x ps r)
parts_append x [] qs r = refl
parts_append x (p ∷ ps) qs r = parts_append x ps qs _

-- Numbers of objects.

pub nat_eq_self : (n : ℕ) → nat_eq n n ≡ true
nat_eq_self n = eq-eqb n n refl

pub nat_eq_other : (n m : ℕ) → (n ≡ m → ⊥) → nat_eq n m ≡ false
nat_eq_other n m h = ne_eqb n m h

-- all of them are parts of other objects, or of this one
abbrev pub OfOthers : ℕ → List ObjectPart → Type 0
OfOthers object ps = AllByRecursion (λ p. object ≡ p.object → ⊥) ps

abbrev pub OfObject : ℕ → List ObjectPart → Type 0
OfObject object ps = AllByRecursion (λ p. p.object ≡ object) ps

pub others_add_nothing : (object l : ℕ) (a : Access) (ps : List ObjectPart) (r : Region) → OfOthers object ps → with_parts (own_instance l object a) ps r ≡ r
others_add_nothing object l a [] r h = refl
others_add_nothing object l a (p ∷ ps) r h =
    let x : Instance = own_instance l object a in
    ap (λ b. with_parts x ps (if b then with_part p.name p.part.kind x r else r)) (nat_eq_other object p.object h.0) ∙ others_add_nothing object l a ps r h.1

pub of_object_append : (object : ℕ) (ps qs : List ObjectPart) → OfObject object ps → OfObject object qs → OfObject object (ps ++ qs)
of_object_append object [] qs h i = i
of_object_append object (p ∷ ps) qs h i = (h.0, of_object_append object ps qs h.1 i)

-- those of a later object
pub later_are_others : (object number : ℕ) (ps : List ObjectPart) → object < number → OfObject number ps → OfOthers object ps
later_are_others object number [] lt h = tt
later_are_others object number (p ∷ ps) lt h = (λ e. omega (arith, e, h.0, lt), later_are_others object number ps lt h.1)

-- The frame of an object, whose first cell has its own number.

abbrev start : Region
start = record (names.empty_region 0) { cells = 1; names = 1 }

abbrev pub own_frame : ℕ → List ObjectPart → Elaborated
own_frame object ps = elaborated (with_parts (own_instance 0 object Outside) ps start)

pub its_frame : (object l : ℕ) (a : Access) (ps : List ObjectPart) (r : Region) → r.symbols ≡ [] → r.cells ≡ 1 → r.names ≡ 1 → elaborated (with_parts (own_instance l object a) ps r) ≡ own_frame object ps
its_frame object l a ps r e c n = alike_elaborated _ _ (parts_alike object l 0 a Outside ps r start (record { named = ap names_of e; cells = c; names = n }))

-- later objects do not change it
pub frame_stays : (object number : ℕ) (ps qs : List ObjectPart) → object < number → OfObject number qs → own_frame object (ps ++ qs) ≡ own_frame object ps
frame_stays object number ps qs lt h =
    ap elaborated (parts_append (own_instance 0 object Outside) ps qs start ∙ others_add_nothing object 0 Outside qs _ (later_are_others object number qs lt h))

-- and those before it are not in it
pub frame_begins : (object : ℕ) (ps qs : List ObjectPart) → OfOthers object ps → own_frame object (ps ++ qs) ≡ own_frame object qs
frame_begins object ps qs h =
    let x : Instance = own_instance 0 object Outside in
    ap elaborated (parts_append x ps qs start ∙ ap (with_parts x qs) (others_add_nothing object 0 Outside ps start h))

-- What parts leave as it is.

pub part_level : (name : List ℕ) (kind : PartKind) (x : Instance) (r : Region) → (with_part name kind x r).level ≡ r.level
part_level name kind x r = either (λ (z : Region). z.level ≡ r.level) (names.is_declared name r.symbols) r (with_new name kind x r) refl refl

pub parts_level : (x : Instance) (ps : List ObjectPart) (r : Region) → (with_parts x ps r).level ≡ r.level
parts_level x [] r = refl
parts_level x (p ∷ ps) r =
    parts_level x ps _ ∙ either (λ (z : Region). z.level ≡ r.level) (nat_eq x.object p.object) (with_part p.name p.part.kind x r) r (part_level p.name p.part.kind x r) refl

part_entries : (name : List ℕ) (kind : PartKind) (x : Instance) (r : Region) → (with_part name kind x r).entries ≡ r.entries
part_entries name kind x r = either (λ (z : Region). z.entries ≡ r.entries) (names.is_declared name r.symbols) r (with_new name kind x r) refl refl

pub parts_entries : (x : Instance) (ps : List ObjectPart) (r : Region) → (with_parts x ps r).entries ≡ r.entries
parts_entries x [] r = refl
parts_entries x (p ∷ ps) r =
    parts_entries x ps _ ∙ either (λ (z : Region). z.entries ≡ r.entries) (nat_eq x.object p.object) (with_part p.name p.part.kind x r) r (part_entries p.name p.part.kind x r) refl

part_parts : (name : List ℕ) (kind : PartKind) (x : Instance) (r : Region) → (with_part name kind x r).parts ≡ r.parts
part_parts name kind x r = either (λ (z : Region). z.parts ≡ r.parts) (names.is_declared name r.symbols) r (with_new name kind x r) refl refl

pub parts_parts : (x : Instance) (ps : List ObjectPart) (r : Region) → (with_parts x ps r).parts ≡ r.parts
parts_parts x [] r = refl
parts_parts x (p ∷ ps) r =
    parts_parts x ps _ ∙ either (λ (z : Region). z.parts ≡ r.parts) (nat_eq x.object p.object) (with_part p.name p.part.kind x r) r (part_parts p.name p.part.kind x r) refl

-- cells are only added

pub part_more : (name : List ℕ) (kind : PartKind) (x : Instance) (r : Region) → r.cells ≤ (with_part name kind x r).cells
part_more name kind x r = either (λ (z : Region). r.cells ≤ z.cells) (names.is_declared name r.symbols) r (with_new name kind x r) (omega arith) (omega arith)

pub parts_more : (x : Instance) (ps : List ObjectPart) (r : Region) → r.cells ≤ (with_parts x ps r).cells
parts_more x [] r = omega arith
parts_more x (p ∷ ps) r =
    let next : Region = if nat_eq x.object p.object then with_part p.name p.part.kind x r else r in
    let one : r.cells ≤ next.cells = either (λ (z : Region). r.cells ≤ z.cells) (nat_eq x.object p.object) (with_part p.name p.part.kind x r) r (part_more p.name p.part.kind x r) (omega arith) in
    omega (arith, one, parts_more x ps next)
