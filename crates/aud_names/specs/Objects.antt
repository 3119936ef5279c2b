-- Protected objects: what they declare, and where that is visible (RM 9.4).
use Rattle.std.specs.Prelude.{ℕ, ◌+◌, nat_eq, Bool, false, ◌&&◌, List, [], ◌∷◌, ◌++◌, Option, Some, None, if◌then◌else◌}
use Rattle.std.specs.Str.{bytes_eq}
use Rattle.aud_text.specs.declared.place.Pos.{Pos}
use Rattle.aud_typed.specs.declared.program.Variable.{Variable}
use Rattle.aud_names.specs.declared.awaited.AwaitedObject.{AwaitedObject}
use Rattle.aud_names.specs.declared.awaited.AwaitedPart.{AwaitedPart}
use Rattle.aud_names.specs.declared.names.Access.{Access}
use Rattle.aud_names.specs.declared.names.Instance.{Instance}
use Rattle.aud_names.specs.declared.names.Meaning.{Meaning}
use Rattle.aud_names.specs.declared.names.Meaning.TheVariants as meaning
use Rattle.aud_names.specs.declared.names.Owner.TheVariants as owner
use Rattle.aud_names.specs.declared.parts.ObjectPart.{ObjectPart}
use Rattle.aud_names.specs.declared.parts.Part.{Part}
use Rattle.aud_names.specs.declared.parts.PartKind.{PartKind}
use Rattle.aud_names.specs.declared.parts.PartKind.TheVariants.{Entry, Operation, Component}
use Rattle.aud_names.specs.Names.{Symbol, Region, Place, empty_region, innermost, place_in, body_frame, or_outside, is_declared, own_cell, is_in_function}

-- What is found behind an object's name.

-- what an object of this number declares by a name: the first of that name
abbrev pub part_in : List ℕ → ℕ → List ObjectPart → Option Part
part_in name object [] = None
part_in name object (p ∷ ps) = if nat_eq object p.object && bytes_eq name p.name then Some p.part else part_in name object ps

-- which is declared where the object is: where an object is visible the region that declares it is around
abbrev pub part_named : List ℕ → ℕ → List Region → Option Part
part_named name object [] = None
part_named name object (r ∷ rs) = or_outside (part_in name object r.parts) (part_named name object rs)

-- Where it is visible by itself.

-- an object that is named by itself, in its own declaration, or in its body: its number is in the first cell of its frame
abbrev pub own_instance : ℕ → ℕ → Access → Instance
own_instance level object access = record { variable = own_cell level; object = object; access = access }

-- what a part stands for; a component has this cell
abbrev pub part_meaning : PartKind → Instance → Variable → Meaning
part_meaning (Entry number unit) x cell = meaning.Entry (record { number = number; owner = owner.Object x })
part_meaning (Operation unit subprogram) x cell = meaning.Operation (record { unit = unit; subprogram = subprogram; instance = x })
part_meaning (Component s) x cell = meaning.Object (record { variable = cell; subtype = s; constant = false; locked = is_in_function x.access })

abbrev pub part_cells : PartKind → ℕ
part_cells (Component s) = 1
part_cells _ = 0

-- a name that the region has already stays what it was
abbrev pub with_part : List ℕ → PartKind → Instance → Region → Region
with_part name kind x r =
    if is_declared name r.symbols
    then r
    else record r { symbols = r.symbols ++ (name, part_meaning kind x (record { level = r.level; index = r.cells })) ∷ []; cells = r.cells + part_cells kind; names = r.names + part_cells kind }

-- of these parts those of one object
abbrev pub with_parts : Instance → List ObjectPart → Region → Region
with_parts x [] r = r
with_parts x (p ∷ ps) r = with_parts x ps (if nat_eq x.object p.object then with_part p.name p.part.kind x r else r)

-- the frame of an object that is declared at a place: the first cell has the object's own number. An object is a unit of its own, so that
-- nothing in it stands directly in a task's body (RM 9.9(4))
abbrev pub object_frame : Place → Region
object_frame place = record (body_frame place) { cells = 1; names = 1 }

-- an object's operations and components are one region (RM 8.1)
abbrev pub object_region : Instance → Place → Region
object_region x place = with_parts x (innermost place).parts (object_frame place)

-- around an object's body its name means the object itself
abbrev pub around_object : List ℕ → Instance → Place → Region
around_object name x place = record (empty_region ((innermost place).level + 1)) { symbols = (name, meaning.Protected x) ∷ [] }

-- the object in its body, which stands at a place
abbrev pub body_instance : ℕ → Access → Place → Instance
body_instance object access place = own_instance ((innermost place).level + 1) object access

-- the place of the bodies of its operations
abbrev pub object_place : List ℕ → ℕ → Access → Place → Place
object_place name object access place =
    let x = body_instance object access place in
    place_in (object_region x place) (around_object name x place ∷ place.regions)

-- Barriers (RM 9.5.2(7)).

-- an entry's formals may not be named in its barrier (RM 9.5.2(18))
abbrev pub one_barred : List ℕ → Region → Region
one_barred name r = if is_declared name r.symbols then r else record r { symbols = r.symbols ++ (name, meaning.Barred) ∷ [] }

abbrev pub with_barred : List Symbol → Region → Region
with_barred [] r = r
with_barred (s ∷ ss) r = with_barred ss (one_barred s.0 r)

-- the place of the barrier of an entry with these formals: it has no frame of its own
abbrev pub barrier_place : Region → Place → Place
barrier_place formals place = place_in (with_barred formals.symbols (empty_region (innermost place).level)) place.regions

-- Bodies that are still to come (RM 3.11.1).

-- the first that passes a test, and the others
abbrev pub first_with : {A : Type 0} → (A → Bool) → List A → Option A
first_with p [] = None
first_with p (x ∷ xs) = if p x then Some x else first_with p xs

abbrev pub without_first : {A : Type 0} → (A → Bool) → List A → List A
without_first p [] = []
without_first p (x ∷ xs) = if p x then xs else x ∷ without_first p xs

abbrev pub is_object : List ℕ → AwaitedObject → Bool
is_object name o = bytes_eq name o.name

-- the object of a name that waits for its body, and what waits still once that has come
abbrev pub awaited_object : List ℕ → List AwaitedObject → Option AwaitedObject
awaited_object name xs = first_with (is_object name) xs

abbrev pub object_come : List ℕ → Region → Region
object_come name r = record r { objects = without_first (is_object name) r.objects }

-- an operation or entry by its unit, and all of an object
abbrev pub is_unit : ℕ → AwaitedPart → Bool
is_unit unit a = nat_eq unit a.unit

abbrev pub awaits : PartKind → Pos → List AwaitedPart
awaits (Entry number unit) at = (record { unit = unit; at = at }) ∷ []
awaits (Operation unit subprogram) at = (record { unit = unit; at = at }) ∷ []
awaits (Component s) at = []

abbrev pub awaited_parts : ℕ → List ObjectPart → List AwaitedPart
awaited_parts object [] = []
awaited_parts object (p ∷ ps) = if nat_eq object p.object then awaits p.part.kind p.at ++ awaited_parts object ps else awaited_parts object ps
