-- What names stand for is elaborated, or there.
use Rattle.std.specs.Prelude.{IfSome, nat_eq, ◌&&◌}
use Rattle.std.specs.List.{All, AllByRecursion}
use Rattle.std.specs.Str.{bytes_eq}
use Rattle.std.proofs.Common.{◌≡◌, ℕ, zero, suc, ◌+◌, ◌<◌, ◌≤◌, Bool, true, false, List, [], ◌∷◌, ◌++◌, length, slice_index_or, Option, Some, None, if◌then◌else◌, arith, ap, sym, refl, subst, ◌∙◌}
use Rattle.std.proofs.lemmas.Map.Entries.{All-lookup}
use Rattle.std.proofs.lemmas.Bool.{eqb-true}
use Rattle.std.proofs.lemmas.List.{length-append, get_or_append_left}
use Rattle.aud_syntax.specs.Plain as plain
use Rattle.aud_typed.specs.declared.program.Variable.{Variable}
use Rattle.aud_typed.specs.Tree.{Plan}
use Rattle.aud_typed.specs.Why.Scoped.{Elaborated, Scope, cells_at, IsElaborated, AreElaborated, IsThere, Entry, entry_of, AreOpen, AreAround, entry_unit, formals_of, object_level, NamedOutside, NamedInside, no_task}
use Rattle.aud_names.specs.declared.entries.EntryName.{EntryName}
use Rattle.aud_names.specs.declared.names.NamedParameter.{NamedParameter}
use Rattle.aud_names.specs.declared.names.Owner.{Owner}
use Rattle.aud_names.specs.declared.names.Owner.TheVariants as owner
use Rattle.aud_names.specs.declared.names.Owner.TheVariants.{Single, Element}
use Rattle.aud_names.specs.declared.names.Instance.{Instance}
use Rattle.aud_names.specs.declared.parts.ObjectPart.{ObjectPart}
use Rattle.aud_names.specs.declared.parts.Part.{Part}
use Rattle.aud_names.specs.declared.parts.PartKind.{PartKind}
use Rattle.aud_names.specs.declared.parts.PartKind.TheVariants as part
use Rattle.aud_names.specs.declared.names.Meaning.{Meaning}
use Rattle.aud_names.specs.declared.names.Meaning.TheVariants.{ScalarType, Literal, Object, Array, Exception, Builtin, Procedure, TaskType, Task, TaskArray, Protected, Operation, Barred}
use Rattle.aud_names.specs.declared.names.Meaning.TheVariants as meaning
use Rattle.aud_names.specs.Arrays.{array_at, task_array_at}
use Rattle.aud_names.specs.Resolution as resolution
use Rattle.aud_names.specs.Resolution.{Resolved}
use Rattle.aud_names.specs.Objects as objects
use Rattle.aud_names.specs.Names as names
use Rattle.aud_names.specs.Names.{Symbol, Region, Place}

-- of a program: its plan, how its units are entered, and the formals of those that are declared so far, and of the entries; and whether
-- units are entered here, where all declarations around are elaborated, and not yet within these
pub record Known : Type 0 where
  pub plan : Plan
  pub entries : List Entry
  pub profiles : List (List NamedParameter)
  pub entry_profiles : List (List NamedParameter)
  pub complete : Bool

abbrev pub when : Bool → Known → Known
when c known = record known { complete = c }

-- the procedure of a unit may be called: it is declared, and the frames that it sees are open
pub record IsCallable (known : Known) (scope : Scope) (unit : ℕ) : Type 0 where
  pub declared : unit < length known.profiles
  pub entered : unit < length known.entries
  pub formals : length (slice_index_or known.profiles unit []) ≡ (entry_of known.entries unit).formals
  pub outer : known.complete ≡ true → AreOpen (entry_of known.entries unit).outer scope

-- tasks of a type may begin: its body is there, whose frame begins with the task's number, and the frames that it sees are open
abbrev pub type_unit : Known → ℕ → ℕ
type_unit known number = (slice_index_or known.plan.tasks number no_task).unit

pub record IsTaskType (known : Known) (scope : Scope) (number : ℕ) : Type 0 where
  pub declared : number < length known.plan.tasks
  pub entered : type_unit known number < length known.entries
  pub alone : (entry_of known.entries (type_unit known number)).formals ≡ 1
  pub outer : known.complete ≡ true → AreOpen (entry_of known.entries (type_unit known number)).outer scope

-- from within an object's body the frames are open that its operations see, and from outside those around the object's
abbrev pub Reached : (inside : Bool) → Scope → Scope → Type 0
Reached true outer scope = AreOpen outer scope
Reached false outer scope = AreAround outer scope

-- an operation of an object may be called: it is declared, and these frames are open
pub record IsOperation (known : Known) (scope : Scope) (inside : Bool) (unit : ℕ) : Type 0 where
  pub declared : unit < length known.profiles
  pub entered : unit < length known.entries
  pub formals : length (slice_index_or known.profiles unit []) ≡ (entry_of known.entries unit).formals
  pub outer : known.complete ≡ true → Reached inside (entry_of known.entries unit).outer scope

-- and a protected entry: its body is there
pub record IsEntryBody (known : Known) (scope : Scope) (number : ℕ) : Type 0 where
  pub entered : entry_unit known.plan number < length known.entries
  pub outer : known.complete ≡ true → AreAround (entry_of known.entries (entry_unit known.plan number)).outer scope

-- the cell that names an object, from within its body or from outside, is that of its level, by the unit of an operation or entry
abbrev pub NamedBy : (inside : Bool) → Variable → Scope → Type 0
NamedBy true v outer = NamedInside v outer
NamedBy false v outer = NamedOutside v outer

abbrev pub IsNamed : Known → (inside : Bool) → Variable → (unit : ℕ) → Type 0
IsNamed known inside v unit = known.complete ≡ true → NamedBy inside v (entry_of known.entries unit).outer

-- from outside it lies in the region that declares the object
abbrev pub IsDeclaredAt : Known → Instance → Type 0
IsDeclaredAt known x = names.is_inside x.access ≡ false → known.complete ≡ true → suc x.variable.level ≡ object_level known.plan x.object

-- this is a unit of an operation or entry of an object
abbrev pub IsOfObject : Known → (object unit : ℕ) → Type 0
IsOfObject known object unit = known.complete ≡ true → length (entry_of known.entries unit).outer ≡ suc (object_level known.plan object)

-- an entry may be called: one of tasks has no body, and the cell with its task's or object's number is elaborated
abbrev pub OwnerScoped : Known → ℕ → Owner → Scope → Type 0
OwnerScoped known number (Single v) scope = IsElaborated v scope × (entry_unit known.plan number ≡ 0)
OwnerScoped known number (Element a) scope = AreElaborated (task_array_at a) scope × (entry_unit known.plan number ≡ 0)
OwnerScoped known number (owner.Object x) scope =
    IsElaborated x.variable scope × IsEntryBody known scope number × IsNamed known (names.is_inside x.access) x.variable (entry_unit known.plan number)

-- it is declared, and has its formals
abbrev pub IsEntry : Known → ℕ → Type 0
IsEntry known number =
    (number < length known.plan.entries) × (number < length known.entry_profiles) × (length (slice_index_or known.entry_profiles number []) ≡ formals_of known.plan number)

-- and has no body
abbrev pub IsOfTask : Known → ℕ → Type 0
IsOfTask known number = IsEntry known number × (entry_unit known.plan number ≡ 0)

-- what an object declares may be used from outside
abbrev pub PartScoped : Known → Scope → (object : ℕ) → PartKind → Type 0
PartScoped known scope object (part.Entry number unit) = IsEntry known number × IsEntryBody known scope number × IsOfObject known object (entry_unit known.plan number)
PartScoped known scope object (part.Operation unit subprogram) = IsOperation known scope false unit × IsOfObject known object unit
PartScoped known scope object (part.Component s) = Unit {0}

abbrev pub PartsThere : Known → Scope → List ObjectPart → Type 0
PartsThere known scope ps = AllByRecursion (λ p. PartScoped known scope p.object p.part.kind) ps

abbrev pub EntriesThere : Known → List EntryName → Type 0
EntriesThere known xs = AllByRecursion (λ x. IsOfTask known x.number) xs

-- what has this meaning may be used
abbrev pub MeaningScoped : Known → Scope → Meaning → Type 0
MeaningScoped known scope (Object o) = IsElaborated o.variable scope
MeaningScoped known scope (Array a) = AreElaborated (array_at a) scope
MeaningScoped known scope (Exception x) = IsThere known.plan x
MeaningScoped known scope (Procedure unit) = IsCallable known scope unit
MeaningScoped known scope (TaskType number) = IsTaskType known scope number
MeaningScoped known scope (Task t) = IsElaborated t.variable scope
MeaningScoped known scope (TaskArray a) = AreElaborated (task_array_at a) scope
MeaningScoped known scope (meaning.Entry e) = IsEntry known e.number × OwnerScoped known e.number e.owner scope
MeaningScoped known scope (Protected x) = IsElaborated x.variable scope × IsDeclaredAt known x
MeaningScoped known scope (Operation o) =
    IsElaborated o.instance.variable scope × IsOperation known scope (names.is_inside o.instance.access) o.unit × IsNamed known (names.is_inside o.instance.access) o.instance.variable o.unit
MeaningScoped known scope _ = Unit {0}

abbrev pub VisibleScoped : Known → Scope → Option Meaning → Type 0
VisibleScoped known scope m = IfSome m (MeaningScoped known scope)

abbrev pub SymbolsScoped : Known → Scope → List Symbol → Type 0
SymbolsScoped known scope xs = All (λ x. MeaningScoped known scope x.1) xs

abbrev pub RegionsScoped : Known → Scope → List Region → Type 0
RegionsScoped known scope rs = AllByRecursion (λ r. SymbolsScoped known scope r.symbols × EntriesThere known r.entries × PartsThere known scope r.parts) rs

-- all that is visible may be used, each entry of a task is there, and what objects declare may be used from outside
pub record Sees (known : Known) (scope : Scope) (n : Place) : Type 0 where
  pub visible : (name : List ℕ) → VisibleScoped known scope (names.visible name n)
  pub entries : (name : List ℕ) (task_type : ℕ) → IfSome (names.entry_named name task_type n.regions) (λ k. IsOfTask known k)
  pub parts : (name : List ℕ) (object : ℕ) → IfSome (objects.part_named name object n.regions) (λ c. PartScoped known scope object c.kind)
  pub inside : (name : List ℕ) (v : Variable) → VisibleScoped known scope (names.named_inside name v n.regions)

-- a place whose innermost region has the innermost frame
pub record Fits (known : Known) (scope : Scope) (n : Place) : Type 0 where
  pub regions : RegionsScoped known scope n.regions
  pub level : (names.innermost n).level + 1 ≡ length scope

pub either : {X : Type 0} (P : X → Type 0) (b : Bool) (x y : X) → P x → P y → P (if b then x else y)
either P true x y h i = h
either P false x y h i = i

-- one frame more

cells_more : (level : ℕ) (scope : Scope) (e : Elaborated) → cells_at level scope ≤ cells_at level (scope ++ e ∷ [])
cells_more level [] e = omega arith
cells_more zero (x ∷ xs) e = omega arith
cells_more (suc n) (x ∷ xs) e = cells_more n xs e

pub open_more : (outer scope : Scope) (e : Elaborated) → AreOpen outer scope → AreOpen outer (scope ++ e ∷ [])
open_more [] scope e h = tt
open_more (x ∷ xs) [] e h = absurd h
open_more (x ∷ xs) (y ∷ ys) e h = (h.0, open_more xs ys e h.1)

-- the innermost frame has more
pub open_further : (outer : Scope) (e f : Elaborated) → e.cells ≤ f.cells → AreOpen (outer ++ e ∷ []) (outer ++ f ∷ [])
open_further [] e f h = (h, tt)
open_further (x ∷ xs) e f h = (omega arith, open_further xs e f h)

pub around_more : (outer scope : Scope) (e : Elaborated) → AreAround outer scope → AreAround outer (scope ++ e ∷ [])
around_more [] scope e h = absurd h
around_more (x ∷ []) scope e h = tt
around_more (x ∷ y ∷ ys) [] e h = absurd h
around_more (x ∷ y ∷ ys) (z ∷ zs) e h = (h.0, around_more (y ∷ ys) zs e h.1)

reached_more : (inside : Bool) (outer scope : Scope) (e : Elaborated) → Reached inside outer scope → Reached inside outer (scope ++ e ∷ [])
reached_more true outer scope e h = open_more outer scope e h
reached_more false outer scope e h = around_more outer scope e h

-- frames are open within themselves
pub open_within : (outer : Scope) (e : Elaborated) → AreOpen outer (outer ++ e ∷ [])
open_within [] e = tt
open_within (x ∷ xs) e = (omega arith, open_within xs e)

-- the frames around an object's are open where its own is too
pub around_open : (outer scope : Scope) (e : Elaborated) → AreOpen outer scope → AreAround (outer ++ e ∷ []) scope
around_open [] scope e h = tt
around_open (x ∷ []) [] e h = absurd h
around_open (x ∷ []) (y ∷ ys) e h = (h.0, tt)
around_open (x ∷ w ∷ ws) [] e h = absurd h
around_open (x ∷ w ∷ ws) (y ∷ ys) e h = (h.0, around_open (w ∷ ws) ys e h.1)

module _ (known : Known) (scope : Scope) (e : Elaborated) where
  operation_more : (inside : Bool) (unit : ℕ) → IsOperation known scope inside unit → IsOperation known (scope ++ e ∷ []) inside unit
  operation_more inside unit h = record { declared = h.declared; entered = h.entered; formals = h.formals; outer = λ c. reached_more inside (entry_of known.entries unit).outer scope e (h.outer c) }

  entry_body_more : (number : ℕ) → IsEntryBody known scope number → IsEntryBody known (scope ++ e ∷ []) number
  entry_body_more number h = record { entered = h.entered; outer = λ c. around_more (entry_of known.entries (entry_unit known.plan number)).outer scope e (h.outer c) }

  owner_more : (number : ℕ) (x : Owner) → OwnerScoped known number x scope → OwnerScoped known number x (scope ++ e ∷ [])
  owner_more number (Single v) h = (omega (arith, h.0, cells_more v.level scope e), h.1)
  owner_more number (Element a) h = (omega (arith, h.0, cells_more a.first.level scope e), h.1)
  owner_more number (owner.Object x) h = (omega (arith, h.0, cells_more x.variable.level scope e), entry_body_more number h.1, h.2)

  part_more : (object : ℕ) (k : PartKind) → PartScoped known scope object k → PartScoped known (scope ++ e ∷ []) object k
  part_more object (part.Entry number unit) h = (h.0, entry_body_more number h.1, h.2)
  part_more object (part.Operation unit subprogram) h = (operation_more false unit h.0, h.1)
  part_more object (part.Component s) h = tt

  pub parts_more : (ps : List ObjectPart) → PartsThere known scope ps → PartsThere known (scope ++ e ∷ []) ps
  parts_more [] h = tt
  parts_more (p ∷ ps) h = (part_more p.object p.part.kind h.0, parts_more ps h.1)

  meaning_more : (m : Meaning) → MeaningScoped known scope m → MeaningScoped known (scope ++ e ∷ []) m
  meaning_more (Object o) h = omega (arith, h, cells_more o.variable.level scope e)
  meaning_more (Array a) h = omega (arith, h, cells_more a.first.level scope e)
  meaning_more (Exception x) h = h
  meaning_more (ScalarType t) h = tt
  meaning_more (Literal b) h = tt
  meaning_more (Builtin b) h = tt
  meaning_more (Procedure unit) h = record { declared = h.declared; entered = h.entered; formals = h.formals; outer = λ c. open_more (entry_of known.entries unit).outer scope e (h.outer c) }
  meaning_more (TaskType number) h = record { declared = h.declared; entered = h.entered; alone = h.alone; outer = λ c. open_more (entry_of known.entries (type_unit known number)).outer scope e (h.outer c) }
  meaning_more (Task t) h = omega (arith, h, cells_more t.variable.level scope e)
  meaning_more (TaskArray a) h = omega (arith, h, cells_more a.first.level scope e)
  meaning_more (meaning.Entry x) h = (h.0, owner_more x.number x.owner h.1)
  meaning_more (Protected x) h = (omega (arith, h.0, cells_more x.variable.level scope e), h.1)
  meaning_more (Operation o) h = (omega (arith, h.0, cells_more o.instance.variable.level scope e), operation_more (names.is_inside o.instance.access) o.unit h.1, h.2)
  meaning_more Barred h = tt

  -- what is further out is elaborated still
  pub regions_more : (rs : List Region) → RegionsScoped known scope rs → RegionsScoped known (scope ++ e ∷ []) rs
  regions_more [] h = tt
  regions_more (r ∷ rs) h = (((λ k d l. meaning_more _ (h.0.0 k d l)), h.0.1, parts_more r.parts h.0.2), regions_more rs h.1)

module _ (known : Known) (scope : Scope) where
  or_scoped : (x y : Option Meaning) → VisibleScoped known scope x → VisibleScoped known scope y → VisibleScoped known scope (names.or_outside x y)
  or_scoped None y h i = i
  or_scoped (Some m) y h i = h

  declared_scoped : (name : List ℕ) (rs : List Region) → RegionsScoped known scope rs → VisibleScoped known scope (names.declared name rs)
  declared_scoped name [] h = tt
  declared_scoped name (r ∷ rs) h = or_scoped (names.named_in name r.symbols) _ (All-lookup (MeaningScoped known scope) (bytes_eq name) r.symbols h.0.0) (declared_scoped name rs h.1)

  inside_scoped : (name : List ℕ) (v : Variable) (rs : List Region) → RegionsScoped known scope rs → VisibleScoped known scope (names.named_inside name v rs)
  inside_scoped name v [] h = tt
  inside_scoped name v (r ∷ rs) h = either (VisibleScoped known scope) (names.has_cell v r) _ _ (All-lookup (MeaningScoped known scope) (bytes_eq name) r.symbols h.0.0) (inside_scoped name v rs h.1)

  entry_in_there : (name : List ℕ) (task_type : ℕ) (xs : List EntryName) → EntriesThere known xs → IfSome (names.entry_in name task_type xs) (λ k. IsOfTask known k)
  entry_in_there name task_type [] h = tt
  entry_in_there name task_type (x ∷ xs) h = either (λ o. IfSome o (λ k. IsOfTask known k)) (nat_eq task_type x.task_type && bytes_eq name x.name) (Some x.number) _ h.0 (entry_in_there name task_type xs h.1)

  or_there : (x y : Option ℕ) → IfSome x (λ k. IsOfTask known k) → IfSome y (λ k. IsOfTask known k) → IfSome (names.or_outside x y) (λ k. IsOfTask known k)
  or_there None y h i = i
  or_there (Some k) y h i = h

  entry_there : (name : List ℕ) (task_type : ℕ) (rs : List Region) → RegionsScoped known scope rs → IfSome (names.entry_named name task_type rs) (λ k. IsOfTask known k)
  entry_there name task_type [] h = tt
  entry_there name task_type (r ∷ rs) h = or_there (names.entry_in name task_type r.entries) _ (entry_in_there name task_type r.entries h.0.1) (entry_there name task_type rs h.1)

  part_in_there : (name : List ℕ) (object : ℕ) (ps : List ObjectPart) → PartsThere known scope ps → IfSome (objects.part_in name object ps) (λ c. PartScoped known scope object c.kind)
  part_in_there name object [] h = tt
  part_in_there name object (p ∷ ps) h = by (nat_eq object p.object) refl (bytes_eq name p.name) (part_in_there name object ps h.1)
    where
      by : (b : Bool) → nat_eq object p.object ≡ b → (d : Bool) → IfSome (objects.part_in name object ps) (λ (c : Part). PartScoped known scope object c.kind)
          → IfSome (if b && d then Some p.part else objects.part_in name object ps) (λ (c : Part). PartScoped known scope object c.kind)
      by true e true i = subst (λ k. PartScoped known scope k p.part.kind) (sym (eqb-true object p.object e)) h.0
      by true e false i = i
      by false e d i = i

  or_part : (object : ℕ) (x y : Option Part) → IfSome x (λ c. PartScoped known scope object c.kind) → IfSome y (λ c. PartScoped known scope object c.kind) → IfSome (names.or_outside x y) (λ c. PartScoped known scope object c.kind)
  or_part object None y h i = i
  or_part object (Some c) y h i = h

  part_there : (name : List ℕ) (object : ℕ) (rs : List Region) → RegionsScoped known scope rs → IfSome (objects.part_named name object rs) (λ c. PartScoped known scope object c.kind)
  part_there name object [] h = tt
  part_there name object (r ∷ rs) h = or_part object (objects.part_in name object r.parts) _ (part_in_there name object r.parts h.0.2) (part_there name object rs h.1)

  pub regions_see : (n : Place) → RegionsScoped known scope n.regions → Sees known scope n
  regions_see n h = record {
    visible = λ name. either (VisibleScoped known scope) (names.is_hidden name n.hidden) _ _ tt (declared_scoped name n.regions h);
    entries = λ name task_type. entry_there name task_type n.regions h;
    parts = λ name object. part_there name object n.regions h;
    inside = λ name v. inside_scoped name v n.regions h;
  }

  -- the regions of a place, of which the innermost one is by itself
  pub regions_scoped : (rs : List Region) → SymbolsScoped known scope (names.innermost_of rs).symbols → EntriesThere known (names.innermost_of rs).entries → PartsThere known scope (names.innermost_of rs).parts → RegionsScoped known scope (names.others_of rs) → RegionsScoped known scope rs
  regions_scoped [] h j k i = tt
  regions_scoped (r ∷ rs) h j k i = ((h, j, k), i)

  -- what names denote

  entry_selected_scoped : (k : Option ℕ) (x : Owner) (b : Bool) (p : plain.NamePart) (ps : plain.Parts) → IfSome k (λ m. IsOfTask known m) → ((m : ℕ) → entry_unit known.plan m ≡ 0 → OwnerScoped known m x scope) → VisibleScoped known scope (resolution.entry_selected k x b p ps).denoted.meaning
  entry_selected_scoped None x b p ps h i = tt
  entry_selected_scoped (Some k) x b p ps h i = either (λ (y : Resolved). VisibleScoped known scope y.denoted.meaning) (resolution.is_last ps) _ _ (h.0, i k h.1) tt

  -- what is found behind an object's name outside its body

  named_outside : (x : Instance) (unit : ℕ) → names.is_inside x.access ≡ false → IsDeclaredAt known x → IsOfObject known x.object unit → IsNamed known (names.is_inside x.access) x.variable unit
  named_outside x unit f declared own = λ c.
      let outside : length (entry_of known.entries unit).outer ≡ x.variable.level + 2 = omega (arith, declared f c, own c) in
      subst (λ b. NamedBy b x.variable (entry_of known.entries unit).outer) (sym f) outside

  kind_selected_scoped : (k : PartKind) (x : Instance) (p : plain.NamePart) (ps : plain.Parts) → PartScoped known scope x.object k → IsElaborated x.variable scope × IsDeclaredAt known x → names.is_inside x.access ≡ false → VisibleScoped known scope (resolution.kind_selected k x p ps).denoted.meaning
  kind_selected_scoped (part.Entry number unit) x p ps h e f =
      either (λ (y : Resolved). VisibleScoped known scope y.denoted.meaning) (resolution.is_last ps) _ _ (h.0, (e.0, h.1, named_outside x (entry_unit known.plan number) f e.1 h.2)) tt
  kind_selected_scoped (part.Operation unit subprogram) x p ps h e f =
      either (λ (y : Resolved). VisibleScoped known scope y.denoted.meaning) (resolution.is_last ps) _ _ (e.0, subst (λ b. IsOperation known scope b unit) (sym f) h.0, named_outside x unit f e.1 h.1) tt
  kind_selected_scoped (part.Component s) x p ps h e f = tt

  part_selected_scoped : (c : Option Part) (x : Instance) (p : plain.NamePart) (ps : plain.Parts) → IfSome c (λ k. PartScoped known scope x.object k.kind) → IsElaborated x.variable scope × IsDeclaredAt known x → names.is_inside x.access ≡ false → VisibleScoped known scope (resolution.part_selected c x p ps).denoted.meaning
  part_selected_scoped None x p ps h e f = tt
  part_selected_scoped (Some c) x p ps h e f = either (λ (y : Resolved). VisibleScoped known scope y.denoted.meaning) c.is_private _ _ tt (kind_selected_scoped c.kind x p ps h e f)

  -- and in it
  inside_selected_scoped : (m : Option Meaning) (p : plain.NamePart) (ps : plain.Parts) → VisibleScoped known scope m → VisibleScoped known scope (resolution.inside_selected m p ps).denoted.meaning
  inside_selected_scoped None p ps h = tt
  inside_selected_scoped (Some (meaning.Entry x)) p ps h = either (λ (y : Resolved). VisibleScoped known scope y.denoted.meaning) (resolution.is_last ps) _ _ h tt
  inside_selected_scoped (Some (Operation o)) p ps h = either (λ (y : Resolved). VisibleScoped known scope y.denoted.meaning) (resolution.is_last ps) _ _ h tt
  inside_selected_scoped (Some _) p ps h = tt

module _ (known : Known) (scope : Scope) (n : Place) (sees : Sees known scope n) where
  object_selected_scoped : (b : Bool) (x : Instance) (p : plain.NamePart) (ps : plain.Parts) → names.is_inside x.access ≡ b → IsElaborated x.variable scope × IsDeclaredAt known x → VisibleScoped known scope (resolution.object_selected b x p ps n).denoted.meaning
  object_selected_scoped true x p ps e h = inside_selected_scoped known scope _ p ps (sees.inside (resolution.part_ident p).name x.variable)
  object_selected_scoped false x p ps e h = part_selected_scoped known scope _ x p ps (sees.parts (resolution.part_ident p).name x.object) h e

  selected_scoped : (m : Meaning) (p : plain.NamePart) (ps : plain.Parts) → MeaningScoped known scope m → VisibleScoped known scope (resolution.selected m p ps n).denoted.meaning
  selected_scoped (Task t) (plain.part i plain.no_args) (plain.more_parts q qs) h =
      entry_selected_scoped known scope (names.entry_named (resolution.part_ident q).name t.task_type n.regions) (Single t.variable) (names.is_in_own_body i.name t.variable (resolution.part_ident q).name n.regions) q qs (sees.entries (resolution.part_ident q).name t.task_type) (λ m z. (h, z))
  selected_scoped (TaskArray a) (plain.part i (plain.more_args e es)) (plain.more_parts q qs) h =
      entry_selected_scoped known scope (names.entry_named (resolution.part_ident q).name a.task_type n.regions) (Element a) false q qs (sees.entries (resolution.part_ident q).name a.task_type) (λ m z. (h, z))
  selected_scoped (Protected x) (plain.part i plain.no_args) (plain.more_parts q qs) h = object_selected_scoped (names.is_inside x.access) x q qs refl h
  selected_scoped (Array a) (plain.part i (plain.more_args e es)) (plain.more_parts q qs) h = tt
  selected_scoped _ p ps h = tt

  denoted_scoped : (m : Meaning) (p : plain.NamePart) (ps : plain.Parts) → MeaningScoped known scope m → VisibleScoped known scope (resolution.denoted_by m p ps n).denoted.meaning
  denoted_scoped m p ps h = either (λ (x : Resolved). VisibleScoped known scope x.denoted.meaning) (resolution.may_stand m p ps) _ _ h (selected_scoped m p ps h)

  text_io_scoped : (m : Option Meaning) (p : plain.NamePart) (ps : plain.Parts) → VisibleScoped known scope (resolution.in_text_io m p ps n).denoted.meaning
  text_io_scoped (Some (Builtin b)) p ps = denoted_scoped (Builtin b) p ps tt
  text_io_scoped _ p ps = tt

  library_scoped : (p : plain.NamePart) (ps : plain.Parts) → VisibleScoped known scope (resolution.in_library p ps n).denoted.meaning
  library_scoped p (plain.more_parts q (plain.more_parts r rest)) =
      either (λ (x : Resolved). VisibleScoped known scope x.denoted.meaning) (resolution.is_text_io p q n) _ _ (text_io_scoped (names.named_in (resolution.part_ident r).name names.predefined) r rest) tt
  library_scoped p (plain.more_parts q plain.no_parts) = tt
  library_scoped p plain.no_parts = tt

  or_library_scoped : (m : Option Meaning) (p : plain.NamePart) (ps : plain.Parts) → VisibleScoped known scope m → VisibleScoped known scope (resolution.or_in_library m p ps n).denoted.meaning
  or_library_scoped (Some m) p ps h = denoted_scoped m p ps h
  or_library_scoped None p ps h = library_scoped p ps

  pub resolved_scoped : (x : plain.Name) → VisibleScoped known scope (resolution.resolved x n).denoted.meaning
  resolved_scoped (plain.named p ps) = or_library_scoped (names.visible (resolution.part_ident p).name n) p ps (sees.visible (resolution.part_ident p).name)

-- where units are entered, all may be used that may be used before

module _ (known : Known) (scope : Scope) (whole : known.complete ≡ true) (c : Bool) where
  operation_when : (inside : Bool) (unit : ℕ) → IsOperation known scope inside unit → IsOperation (when c known) scope inside unit
  operation_when inside unit h = record { declared = h.declared; entered = h.entered; formals = h.formals; outer = λ _. h.outer whole }

  entry_body_when : (number : ℕ) → IsEntryBody known scope number → IsEntryBody (when c known) scope number
  entry_body_when number h = record { entered = h.entered; outer = λ _. h.outer whole }

  owner_when : (number : ℕ) (x : Owner) → OwnerScoped known number x scope → OwnerScoped (when c known) number x scope
  owner_when number (Single v) h = h
  owner_when number (Element a) h = h
  owner_when number (owner.Object x) h = (h.0, entry_body_when number h.1, λ _. h.2 whole)

  part_when : (object : ℕ) (k : PartKind) → PartScoped known scope object k → PartScoped (when c known) scope object k
  part_when object (part.Entry number unit) h = (h.0, entry_body_when number h.1, λ _. h.2 whole)
  part_when object (part.Operation unit subprogram) h = (operation_when false unit h.0, λ _. h.1 whole)
  part_when object (part.Component s) h = tt

  pub parts_when : (ps : List ObjectPart) → PartsThere known scope ps → PartsThere (when c known) scope ps
  parts_when [] h = tt
  parts_when (p ∷ ps) h = (part_when p.object p.part.kind h.0, parts_when ps h.1)

  meaning_when : (m : Meaning) → MeaningScoped known scope m → MeaningScoped (when c known) scope m
  meaning_when (Object o) h = h
  meaning_when (Array a) h = h
  meaning_when (Exception x) h = h
  meaning_when (Procedure unit) h = record { declared = h.declared; entered = h.entered; formals = h.formals; outer = λ _. h.outer whole }
  meaning_when (Protected x) h = (h.0, λ f _. h.1 f whole)
  meaning_when (Operation o) h = (h.0, operation_when (names.is_inside o.instance.access) o.unit h.1, λ _. h.2 whole)
  meaning_when Barred h = tt
  meaning_when (TaskType number) h = record { declared = h.declared; entered = h.entered; alone = h.alone; outer = λ _. h.outer whole }
  meaning_when (Task t) h = h
  meaning_when (TaskArray a) h = h
  meaning_when (meaning.Entry x) h = (h.0, owner_when x.number x.owner h.1)
  meaning_when (ScalarType t) h = tt
  meaning_when (Literal b) h = tt
  meaning_when (Builtin b) h = tt

  pub regions_when : (rs : List Region) → RegionsScoped known scope rs → RegionsScoped (when c known) scope rs
  regions_when [] h = tt
  regions_when (r ∷ rs) h = (((λ k d l. meaning_when _ (h.0.0 k d l)), h.0.1, parts_when r.parts h.0.2), regions_when rs h.1)

-- More procedures and entries are declared.

abbrev pub later : List (List NamedParameter) → List (List NamedParameter) → Known → Known
later more others known = record known { profiles = known.profiles ++ more; entry_profiles = known.entry_profiles ++ others }

module _ (known : Known) (scope : Scope) (more others : List (List NamedParameter)) where
  callable_later : (unit : ℕ) → IsCallable known scope unit → IsCallable (later more others known) scope unit
  callable_later unit h = record {
    declared = omega (arith, h.declared, length-append known.profiles more);
    entered = h.entered;
    formals = ap length (get_or_append_left known.profiles more [] unit h.declared) ∙ h.formals;
    outer = h.outer;
  }

  operation_later : (inside : Bool) (unit : ℕ) → IsOperation known scope inside unit → IsOperation (later more others known) scope inside unit
  operation_later inside unit h = record {
    declared = omega (arith, h.declared, length-append known.profiles more);
    entered = h.entered;
    formals = ap length (get_or_append_left known.profiles more [] unit h.declared) ∙ h.formals;
    outer = h.outer;
  }

  owner_later : (number : ℕ) (x : Owner) → OwnerScoped known number x scope → OwnerScoped (later more others known) number x scope
  owner_later number (Single v) h = h
  owner_later number (Element a) h = h
  owner_later number (owner.Object x) h = (h.0, record { entered = h.1.entered; outer = h.1.outer }, h.2)

  entry_later : (number : ℕ) → IsEntry known number → IsEntry (later more others known) number
  entry_later number h = (
    h.0,
    omega (arith, h.1, length-append known.entry_profiles others),
    ap length (get_or_append_left known.entry_profiles others [] number h.1) ∙ h.2,
  )

  pub entries_later : (xs : List EntryName) → EntriesThere known xs → EntriesThere (later more others known) xs
  entries_later [] h = tt
  entries_later (x ∷ xs) h = ((entry_later x.number h.0.0, h.0.1), entries_later xs h.1)

  part_later : (object : ℕ) (k : PartKind) → PartScoped known scope object k → PartScoped (later more others known) scope object k
  part_later object (part.Entry number unit) h = (entry_later number h.0, record { entered = h.1.entered; outer = h.1.outer }, h.2)
  part_later object (part.Operation unit subprogram) h = (operation_later false unit h.0, h.1)
  part_later object (part.Component s) h = tt

  pub parts_later : (ps : List ObjectPart) → PartsThere known scope ps → PartsThere (later more others known) scope ps
  parts_later [] h = tt
  parts_later (p ∷ ps) h = (part_later p.object p.part.kind h.0, parts_later ps h.1)

  meaning_later : (m : Meaning) → MeaningScoped known scope m → MeaningScoped (later more others known) scope m
  meaning_later (Object o) h = h
  meaning_later (Array a) h = h
  meaning_later (Exception x) h = h
  meaning_later (Procedure unit) h = callable_later unit h
  meaning_later (TaskType number) h = record { declared = h.declared; entered = h.entered; alone = h.alone; outer = h.outer }
  meaning_later (Task t) h = h
  meaning_later (TaskArray a) h = h
  meaning_later (meaning.Entry x) h = (entry_later x.number h.0, owner_later x.number x.owner h.1)
  meaning_later (Protected x) h = h
  meaning_later (Operation o) h = (h.0, operation_later (names.is_inside o.instance.access) o.unit h.1, h.2)
  meaning_later Barred h = tt
  meaning_later (ScalarType t) h = tt
  meaning_later (Literal b) h = tt
  meaning_later (Builtin b) h = tt

  pub symbols_later : (xs : List Symbol) → SymbolsScoped known scope xs → SymbolsScoped (later more others known) scope xs
  symbols_later xs h = λ k d l. meaning_later _ (h k d l)

  pub regions_later : (rs : List Region) → RegionsScoped known scope rs → RegionsScoped (later more others known) scope rs
  regions_later [] h = tt
  regions_later (r ∷ rs) h = ((symbols_later r.symbols h.0.0, entries_later r.entries h.0.1, parts_later r.parts h.0.2), regions_later rs h.1)

  pub fits_later : (n : Place) → Fits known scope n → Fits (later more others known) scope n
  fits_later n h = record { regions = regions_later n.regions h.regions; level = h.level }
