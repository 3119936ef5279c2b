-- Operations and entries of protected objects are entered where the frames around their object are open, and that of the object.
use Rattle.std.specs.Prelude.{IfSome, nat_eq, ◌&&◌, if◌then◌else◌}
use Rattle.std.specs.List.{AllByRecursion}
use Rattle.std.specs.Str.{bytes_eq}
use Rattle.std.proofs.Common.{◌≡◌, ℕ, suc, ◌+◌, ◌<◌, ◌≤◌, Bool, true, false, List, [], ◌∷◌, ◌++◌, length, slice_index_or, Some, arith, refl, sym, ◌∙◌, ap, subst}
use Rattle.std.proofs.lemmas.Bool.{eqb-true}
use Rattle.std.proofs.lemmas.List.{get_or_append_left, get_or_push, length-append}
use Rattle.std.proofs.lemmas.List.Elements.{All-push}
use Rattle.aud_typed.specs.declared.program.Variable.{Variable}
use Rattle.aud_typed.specs.Tree as tree
use Rattle.aud_typed.specs.Tree.{Plan}
use Rattle.aud_typed.specs.Why.Scoped.{Elaborated, Scope, none_yet, cells_at, AreAround, Entry, entry_of, entry_unit, formals_of, object_level}
use Rattle.aud_names.specs.declared.names.Access.{Access}
use Rattle.aud_names.specs.declared.names.Instance.{Instance}
use Rattle.aud_names.specs.declared.parts.ObjectPart.{ObjectPart}
use Rattle.aud_names.specs.declared.parts.Part.{Part}
use Rattle.aud_names.specs.declared.parts.PartKind.{PartKind}
use Rattle.aud_names.specs.declared.parts.PartKind.TheVariants as part
use Rattle.aud_names.specs.Names as names
use Rattle.aud_names.specs.Names.{Symbol, Region}
use Rattle.aud_names.specs.Objects as objects
use Rattle.aud_names.specs.Objects.{own_instance, with_part, with_parts}
use Rattle.aud_check_bodies.specs.Tables.{Tables, entry_at}
use Rattle.aud_check_bodies.proofs.Scoping.Names.{when, IsOperation, IsEntryBody, IsNamed, IsOfObject, NamedBy, Reached, PartScoped, PartsThere, MeaningScoped, SymbolsScoped, either}
use Rattle.aud_check_bodies.proofs.Scoping.Alike.{with_new, part_level, parts_more}
use Rattle.aud_check_bodies.proofs.Scoping.Tables.{Grows}
use Rattle.aud_check_bodies.proofs.Scoping.Plans.{seen}

pub nat_eq_true : (n m : ℕ) → nat_eq n m ≡ true → m ≡ n
nat_eq_true n m h = sym (eqb-true n m h)

module _ (plan : Plan) (entries : List Entry) where
  -- an operation is declared, whose unit is one of a declarative part's, and its body is entered with these frames
  pub record OperationIs (base : ℕ) (t : Tables) (frames : Scope) (unit : ℕ) : Type 0 where
    pub after : base ≤ unit
    pub before : unit < length t.units
    pub entered : unit < length entries
    pub declared : unit < length t.profiles
    pub formals : length (slice_index_or t.profiles unit []) ≡ (entry_of entries unit).formals
    pub outer : (entry_of entries unit).outer ≡ frames

  pub record EntryIs (base : ℕ) (t : Tables) (frames : Scope) (number unit : ℕ) : Type 0 where
    pub after : base ≤ unit
    pub before : unit < length t.units
    pub entered : unit < length entries
    pub declared : number < length t.entries
    pub listed : number < length t.entry_profiles
    pub formals : length (slice_index_or t.entry_profiles number []) ≡ (entry_of entries unit).formals
    pub outer : (entry_of entries unit).outer ≡ frames
    pub there : number < length plan.entries
    pub taken : length (slice_index_or t.entry_profiles number []) ≡ formals_of plan number
    pub planned : entry_unit plan number ≡ unit
    pub own : (entry_at number t).unit ≡ unit

  abbrev pub PartIs : ℕ → Tables → Scope → PartKind → Type 0
  PartIs base t frames (part.Entry number unit) = EntryIs base t frames number unit
  PartIs base t frames (part.Operation unit subprogram) = OperationIs base t frames unit
  PartIs base t frames (part.Component s) = Unit {0}

  -- all those of one object
  abbrev pub PartsAre : ℕ → Tables → Scope → ℕ → List ObjectPart → Type 0
  PartsAre base t frames object ps = AllByRecursion (λ p. p.object ≡ object → PartIs base t frames p.part.kind) ps

  pub parts_are_append : (base : ℕ) (t : Tables) (frames : Scope) (object : ℕ) (ps qs : List ObjectPart) → PartsAre base t frames object ps → PartsAre base t frames object qs → PartsAre base t frames object (ps ++ qs)
  parts_are_append base t frames object [] qs h i = i
  parts_are_append base t frames object (p ∷ ps) qs h i = (h.0, parts_are_append base t frames object ps qs h.1 i)

  -- in later tables
  pub part_grown : (base : ℕ) (t u : Tables) (frames : Scope) (k : PartKind) → Grows t u → PartIs base t frames k → PartIs base u frames k
  part_grown base t u frames (part.Entry number unit) g h = record {
    after = h.after;
    before = omega (arith, h.before, g.even);
    entered = h.entered;
    declared = omega (arith, h.declared, g.entries);
    listed = omega (arith, h.listed, ap length g.entry_profiles, length-append t.entry_profiles g.more_entry_profiles);
    formals = ap (λ l. length (slice_index_or l number [])) g.entry_profiles ∙ ap length (get_or_append_left t.entry_profiles g.more_entry_profiles [] number h.listed) ∙ h.formals;
    outer = h.outer;
    there = h.there;
    taken = ap (λ l. length (slice_index_or l number [])) g.entry_profiles ∙ ap length (get_or_append_left t.entry_profiles g.more_entry_profiles [] number h.listed) ∙ h.taken;
    planned = h.planned;
    own = ap (λ (e : tree.EntryPlan). e.unit) (g.planned number h.declared) ∙ h.own;
  }
  part_grown base t u frames (part.Operation unit subprogram) g h = record {
    after = h.after;
    before = omega (arith, h.before, g.even);
    entered = h.entered;
    declared = omega (arith, h.declared, ap length g.profiles, length-append t.profiles g.more_profiles);
    formals = ap (λ l. length (slice_index_or l unit [])) g.profiles ∙ ap length (get_or_append_left t.profiles g.more_profiles [] unit h.declared) ∙ h.formals;
    outer = h.outer;
  }
  part_grown base t u frames (part.Component s) g h = tt

  pub parts_grown : (base : ℕ) (t u : Tables) (frames : Scope) (object : ℕ) (ps : List ObjectPart) → Grows t u → PartsAre base t frames object ps → PartsAre base u frames object ps
  parts_grown base t u frames object [] g h = tt
  parts_grown base t u frames object (p ∷ ps) g h = ((λ e. part_grown base t u frames p.part.kind g (h.0 e)), parts_grown base t u frames object ps g h.1)

  -- where these frames are reached

  is_operation : (base : ℕ) (t : Tables) (frames scope : Scope) (c inside : Bool) (unit : ℕ) → (c ≡ true → Reached inside frames scope) → OperationIs base t frames unit → IsOperation (when c (seen plan entries t)) scope inside unit
  is_operation base t frames scope c inside unit reach h = record { declared = h.declared; entered = h.entered; formals = h.formals; outer = λ z. subst (λ o. Reached inside o scope) (sym h.outer) (reach z) }

  is_entry_body : (base : ℕ) (t : Tables) (frames scope : Scope) (c : Bool) (number unit : ℕ) → (c ≡ true → AreAround frames scope) → EntryIs base t frames number unit → IsEntryBody (when c (seen plan entries t)) scope number
  is_entry_body base t frames scope c number unit reach h = record {
    entered = omega (arith, h.planned, h.entered);
    outer = λ z. subst (λ o. AreAround o scope) (sym (ap (λ k. (entry_of entries k).outer) h.planned ∙ h.outer)) (reach z);
  }

  -- from outside, where the plan tells of the object how many frames are around its own

  abbrev pub IsPlanned : Bool → ℕ → Scope → Type 0
  IsPlanned c object frames = c ≡ true → length frames ≡ suc (object_level plan object)

  of_object : (t : Tables) (frames : Scope) (c : Bool) (object unit own : ℕ) → own ≡ unit → (entry_of entries unit).outer ≡ frames → IsPlanned c object frames → IsOfObject (when c (seen plan entries t)) object own
  of_object t frames c object unit own e is level = λ z. ap (λ k. length (entry_of entries k).outer) e ∙ ap length is ∙ level z

  part_scoped : (base : ℕ) (t : Tables) (frames scope : Scope) (c : Bool) (object : ℕ) (k : PartKind) → (c ≡ true → AreAround frames scope) → IsPlanned c object frames → PartIs base t frames k → PartScoped (when c (seen plan entries t)) scope object k
  part_scoped base t frames scope c object (part.Entry number unit) reach level h =
      ((h.there, h.listed, h.taken), is_entry_body base t frames scope c number unit reach h, of_object t frames c object unit (entry_unit plan number) h.planned h.outer level)
  part_scoped base t frames scope c object (part.Operation unit subprogram) reach level h = (is_operation base t frames scope c false unit reach h, of_object t frames c object unit unit refl h.outer level)
  part_scoped base t frames scope c object (part.Component s) reach level h = tt

  pub parts_there : (base : ℕ) (t : Tables) (frames scope : Scope) (c : Bool) (object : ℕ) (ps : List ObjectPart) → (c ≡ true → AreAround frames scope) → IsPlanned c object frames → AllByRecursion (λ p. p.object ≡ object) ps → PartsAre base t frames object ps → PartsThere (when c (seen plan entries t)) scope ps
  parts_there base t frames scope c object [] reach level its h = tt
  parts_there base t frames scope c object (p ∷ ps) reach level its h = (
    subst (λ o. PartScoped (when c (seen plan entries t)) scope o p.part.kind) (sym its.0) (part_scoped base t frames scope c object p.part.kind reach level (h.0 its.0)),
    parts_there base t frames scope c object ps reach level its.1 h.1,
  )

  -- what a part stands for where the object is named by itself, whose number is in the first cell of the innermost frame

  own_here : (level index : ℕ) (outer : Scope) (e : Elaborated) → level ≡ length outer → index < e.cells → index < cells_at level (outer ++ e ∷ [])
  own_here level index outer e h more =
      let here : cells_at level (outer ++ e ∷ []) ≡ e.cells = ap (λ x. x.cells) (get_or_push outer e none_yet level (sym h)) in
      omega (arith, here, more)

  -- what is known of the frames with which its operations are entered, where it is named by a cell
  pub record NamesHere (c : Bool) (a : Access) (v : Variable) (frames scope : Scope) : Type 0 where
    pub reach : c ≡ true → Reached (names.is_inside a) frames scope
    pub around : c ≡ true → AreAround frames scope
    pub named : c ≡ true → NamedBy (names.is_inside a) v frames

  is_named : (t : Tables) (frames scope : Scope) (c : Bool) (a : Access) (v : Variable) (unit own : ℕ) → own ≡ unit → (entry_of entries unit).outer ≡ frames → NamesHere c a v frames scope → IsNamed (when c (seen plan entries t)) (names.is_inside a) v own
  is_named t frames scope c a v unit own e is at = λ z. subst (NamedBy (names.is_inside a) v) (sym (ap (λ k. (entry_of entries k).outer) e ∙ is)) (at.named z)

  meaning_of_part : (base : ℕ) (t : Tables) (frames outer : Scope) (e : Elaborated) (c : Bool) (level object index : ℕ) (a : Access) (k : PartKind)
      → level ≡ length outer → 1 ≤ e.cells → NamesHere c a (names.own_cell level) frames (outer ++ e ∷ []) → index + objects.part_cells k ≤ e.cells → PartIs base t frames k
      → MeaningScoped (when c (seen plan entries t)) (outer ++ e ∷ []) (objects.part_meaning k (own_instance level object a) (record { level = level; index = index }))
  meaning_of_part base t frames outer e c level object index a (part.Entry number unit) l more at enough h = (
    (h.there, h.listed, h.taken),
    (own_here level 0 outer e l (omega (arith, more)), is_entry_body base t frames (outer ++ e ∷ []) c number unit at.around h, is_named t frames (outer ++ e ∷ []) c a (names.own_cell level) unit (entry_unit plan number) h.planned h.outer at),
  )
  meaning_of_part base t frames outer e c level object index a (part.Operation unit subprogram) l more at enough h =
      (own_here level 0 outer e l (omega (arith, more)), is_operation base t frames (outer ++ e ∷ []) c (names.is_inside a) unit at.reach h, is_named t frames (outer ++ e ∷ []) c a (names.own_cell level) unit unit refl h.outer at)
  meaning_of_part base t frames outer e c level object index a (part.Component s) l more at enough h = own_here level index outer e l (omega (arith, enough))

  part_added : (base : ℕ) (t : Tables) (frames outer : Scope) (e : Elaborated) (c : Bool) (object : ℕ) (a : Access) (name : List ℕ) (k : PartKind) (r : Region)
      → r.level ≡ length outer → 1 ≤ e.cells → NamesHere c a (names.own_cell r.level) frames (outer ++ e ∷ []) → (with_part name k (own_instance r.level object a) r).cells ≤ e.cells → PartIs base t frames k
      → SymbolsScoped (when c (seen plan entries t)) (outer ++ e ∷ []) r.symbols → SymbolsScoped (when c (seen plan entries t)) (outer ++ e ∷ []) (with_part name k (own_instance r.level object a) r).symbols
  part_added base t frames outer e c object a name k r l more at enough h i = by (names.is_declared name r.symbols) enough
    where
      x : Instance
      x = own_instance r.level object a

      by : (b : Bool) → (if b then r else with_new name k x r).cells ≤ e.cells → SymbolsScoped (when c (seen plan entries t)) (outer ++ e ∷ []) (if b then r else with_new name k x r).symbols
      by true q = i
      by false q =
          All-push (λ (s : Symbol). MeaningScoped (when c (seen plan entries t)) (outer ++ e ∷ []) s.1) r.symbols (name, objects.part_meaning k x (record { level = r.level; index = r.cells })) i
          (meaning_of_part base t frames outer e c r.level object r.cells a k l more at q h)

  pub parts_added : (base : ℕ) (t : Tables) (frames outer : Scope) (e : Elaborated) (c : Bool) (object level : ℕ) (a : Access) (ps : List ObjectPart) (r : Region)
      → r.level ≡ level → level ≡ length outer → 1 ≤ e.cells → NamesHere c a (names.own_cell level) frames (outer ++ e ∷ []) → (with_parts (own_instance level object a) ps r).cells ≤ e.cells → PartsAre base t frames object ps
      → SymbolsScoped (when c (seen plan entries t)) (outer ++ e ∷ []) r.symbols → SymbolsScoped (when c (seen plan entries t)) (outer ++ e ∷ []) (with_parts (own_instance level object a) ps r).symbols
  parts_added base t frames outer e c object level a [] r q l more at enough h i = i
  parts_added base t frames outer e c object level a (p ∷ ps) r q l more at enough h i =
      parts_added base t frames outer e c object level a ps one (one_level ∙ q) l more at enough h.1 (by (nat_eq object p.object) refl)
    where
      x : Instance
      x = own_instance level object a

      one : Region
      one = if nat_eq object p.object then with_part p.name p.part.kind x r else r

      one_level : one.level ≡ r.level
      one_level = either (λ (z : Region). z.level ≡ r.level) (nat_eq object p.object) (with_part p.name p.part.kind x r) r (part_level p.name p.part.kind x r) refl

      one_enough : one.cells ≤ e.cells
      one_enough = omega (arith, enough, parts_more x ps one)

      scoped : Region → Type 0
      scoped z = SymbolsScoped (when c (seen plan entries t)) (outer ++ e ∷ []) z.symbols

      its : nat_eq object p.object ≡ true → scoped (with_part p.name p.part.kind x r)
      its b =
          let small : (with_part p.name p.part.kind x r).cells ≤ e.cells = subst (λ d. (if d then with_part p.name p.part.kind x r else r).cells ≤ e.cells) b one_enough in
          subst (λ k. scoped (with_part p.name p.part.kind (own_instance k object a) r)) q
          (part_added base t frames outer e c object a p.name p.part.kind r (q ∙ l) more (subst (λ k. NamesHere c a (names.own_cell k) frames (outer ++ e ∷ [])) (sym q) at) (subst (λ k. (with_part p.name p.part.kind (own_instance k object a) r).cells ≤ e.cells) (sym q) small) (h.0 (nat_eq_true object p.object b)) i)

      by : (b : Bool) → nat_eq object p.object ≡ b → scoped (if b then with_part p.name p.part.kind x r else r)
      by true b = its b
      by false b = i

  -- of the object's parts that of a name

  pub part_in_is : (base : ℕ) (t : Tables) (frames : Scope) (object : ℕ) (name : List ℕ) (ps : List ObjectPart) → PartsAre base t frames object ps → IfSome (objects.part_in name object ps) (λ (c : Part). PartIs base t frames c.kind)
  part_in_is base t frames object name [] h = tt
  part_in_is base t frames object name (p ∷ ps) h = by (nat_eq object p.object) refl (bytes_eq name p.name) (part_in_is base t frames object name ps h.1)
    where
      by : (b : Bool) → nat_eq object p.object ≡ b → (d : Bool) → IfSome (objects.part_in name object ps) (λ (c : Part). PartIs base t frames c.kind) → IfSome (if b && d then Some p.part else objects.part_in name object ps) (λ (c : Part). PartIs base t frames c.kind)
      by true e true i = h.0 (nat_eq_true object p.object e)
      by true e false i = i
      by false e d i = i
