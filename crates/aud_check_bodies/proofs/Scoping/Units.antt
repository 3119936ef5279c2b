-- The units that a construct declares, and those of tasks whose bodies are still to come.
use Rattle.std.specs.Prelude.{nat_eq, if◌then◌else◌}
use Rattle.std.specs.List.{AllByRecursion}
use Rattle.std.specs.Str.{bytes_eq}
use Rattle.std.proofs.Common.{◌≡◌, ◌⊎◌, inl, inr, ◌+◌, ◌<◌, ◌≤◌, ℕ, zero, suc, Bool, true, false, List, [], ◌∷◌, ◌++◌, length, slice_index_or, Some, arith, refl, sym, ◌∙◌, ap, subst}
use Rattle.std.proofs.lemmas.List.{length_push, length-set, append_assoc, get_or_append_left, get_or_push, get_or-set_same, get_or-set_other}
use Rattle.aud_typed.specs.Tree as tree
use Rattle.aud_typed.specs.Tree.{Plan}
use Rattle.aud_typed.specs.Why.Scoped.{Scope, Elaborated, Entry, entry_of, UnitScoped, BooleanScoped, HasFormals}
use Rattle.aud_names.specs.declared.names.NamedParameter.{NamedParameter}
use Rattle.aud_names.specs.declared.awaited.Awaited.{Awaited}
use Rattle.aud_names.specs.declared.awaited.AwaitedObject.{AwaitedObject}
use Rattle.aud_names.specs.declared.awaited.AwaitedPart.{AwaitedPart}
use Rattle.aud_names.specs.declared.parts.ObjectPart.{ObjectPart}
use Rattle.aud_names.specs.Objects.{awaited_object, is_object, is_unit, without_first, awaits, awaited_parts}
use Rattle.aud_names.specs.Names as names
use Rattle.aud_names.specs.Names.{Region, Place}
use Rattle.aud_check_bodies.specs.Tables.{Tables, no_body, unit_kept, with_unit, entry_at, with_barrier}
use Rattle.aud_check_bodies.specs.Tasks as tasks
use Rattle.aud_check_bodies.specs.Objects as declared
use Rattle.aud_check_bodies.proofs.Scoping.Names.{Known, Fits, either, fits_later}
use Rattle.aud_check_bodies.proofs.Scoping.Declarations.{InBody, Waiting, no_waiting, waits_in, both_none, body_later}
use Rattle.aud_check_bodies.proofs.Scoping.Alike.{OfOthers, OfObject, own_frame, frame_stays, frame_begins, later_are_others}
use Rattle.aud_check_bodies.proofs.Scoping.Operations.{PartsAre, parts_are_append, parts_grown, nat_eq_true}
use Rattle.aud_check_bodies.proofs.Scoping.Tables.{Grows, is_equal}
use Rattle.aud_check_bodies.proofs.Scoping.Plans.{seen}
use Rattle.aud_check_bodies.proofs.Scoping.Entries.{of_task}

abbrev pub unit_at : ℕ → Tables → tree.UnitBody
unit_at n t = slice_index_or t.units n no_body

pub is_before : (n m : ℕ) → (n < m) ⊎ (m ≤ n)
is_before n zero = inr (omega arith)
is_before zero (suc m) = inl (omega arith)
is_before (suc n) (suc m) = elim (is_before n m) [ inl h ↦ inl (omega (arith, h)) | inr h ↦ inr (omega (arith, h)) ]

-- What waits for its body.

abbrev pub IsAwaited : ℕ → List Awaited → Type 0
IsAwaited n [] = ⊥
IsAwaited n (a ∷ others) = (a.unit ≡ n) ⊎ IsAwaited n others

abbrev pub AllAwaited : (ℕ → Type 0) → List Awaited → Type 0
AllAwaited P xs = AllByRecursion (λ a. P a.unit) xs

awaited_more : (n : ℕ) (xs : List Awaited) (a : Awaited) → IsAwaited n xs → IsAwaited n (xs ++ a ∷ [])
awaited_more n [] a h = absurd h
awaited_more n (x ∷ xs) a (inl h) = inl h
awaited_more n (x ∷ xs) a (inr h) = inr (awaited_more n xs a h)

awaited_last : (xs : List Awaited) (a : Awaited) → IsAwaited a.unit (xs ++ a ∷ [])
awaited_last [] a = inl refl
awaited_last (x ∷ xs) a = inr (awaited_last xs a)

all_awaited_more : (P Q : ℕ → Type 0) (xs : List Awaited) → ((n : ℕ) → P n → Q n) → AllAwaited P xs → AllAwaited Q xs
all_awaited_more P Q [] f h = tt
all_awaited_more P Q (x ∷ xs) f h = (f x.unit h.0, all_awaited_more P Q xs f h.1)

all_awaited_push : (P : ℕ → Type 0) (xs : List Awaited) (a : Awaited) → AllAwaited P xs → P a.unit → AllAwaited P (xs ++ a ∷ [])
all_awaited_push P [] a h i = (i, tt)
all_awaited_push P (x ∷ xs) a h i = (h.0, all_awaited_push P xs a h.1 i)

-- one of them comes

pub found_unit : (P : ℕ → Type 0) (name : List ℕ) (xs : List Awaited) (found : Awaited) → names.awaited_task name xs ≡ Some found → AllAwaited P xs → P found.unit
found_unit P name [] found p h = cc
found_unit P name (x ∷ xs) found p h = by (bytes_eq name x.name) p (λ q. found_unit P name xs found q h.1)
  where
    by : (b : Bool) → (if b then Some x else names.awaited_task name xs) ≡ Some found → (names.awaited_task name xs ≡ Some found → P found.unit) → P found.unit
    by true q f =
        let same : x ≡ found = cc in
        subst (λ (a : Awaited). P a.unit) same h.0
    by false q f = f q

still_all : (P : ℕ → Type 0) (name : List ℕ) (xs : List Awaited) → AllAwaited P xs → AllAwaited P (names.still_awaited name xs)
still_all P name [] h = tt
still_all P name (x ∷ xs) h = either (AllAwaited P) (bytes_eq name x.name) xs (x ∷ names.still_awaited name xs) h.1 (h.0, still_all P name xs h.1)

still_waits : (name : List ℕ) (xs : List Awaited) (found : Awaited) (n : ℕ) → names.awaited_task name xs ≡ Some found → IsAwaited n xs → (found.unit ≡ n) ⊎ IsAwaited n (names.still_awaited name xs)
still_waits name [] found n p h = absurd h
still_waits name (x ∷ xs) found n p h = by (bytes_eq name x.name) p h (λ q i. still_waits name xs found n q i)
  where
    one : (found.unit ≡ n) ⊎ IsAwaited n (names.still_awaited name xs) → (found.unit ≡ n) ⊎ IsAwaited n (x ∷ names.still_awaited name xs)
    one (inl e) = inl e
    one (inr i) = inr (inr i)

    by : (b : Bool) → (if b then Some x else names.awaited_task name xs) ≡ Some found → IsAwaited n (x ∷ xs) → (names.awaited_task name xs ≡ Some found → IsAwaited n xs → (found.unit ≡ n) ⊎ IsAwaited n (names.still_awaited name xs))
        → (found.unit ≡ n) ⊎ IsAwaited n (if b then xs else x ∷ names.still_awaited name xs)
    by true q (inl e) f =
        let same : x ≡ found = cc in
        inl (sym (ap (λ (a : Awaited). a.unit) same) ∙ e)
    by true q (inr i) f = inr i
    by false q (inl e) f = inr (inl e)
    by false q (inr i) f = one (f q i)

pub no_fault : {A : Type 0} (x : A) (xs : List A) → x ∷ xs ≡ [] → ⊥
no_fault x xs h = cc

-- at the end of a part nothing waits

no_tasks_wait : (xs : List Awaited) → tasks.without_bodies xs ≡ [] → xs ≡ []
no_tasks_wait [] h = refl
no_tasks_wait (x ∷ xs) h = cc

no_objects_wait : (xs : List AwaitedObject) → declared.without_object_bodies xs ≡ [] → xs ≡ []
no_objects_wait [] h = refl
no_objects_wait (x ∷ xs) h = cc

pub no_parts_wait : (xs : List AwaitedPart) → declared.without_part_bodies xs ≡ [] → xs ≡ []
no_parts_wait [] h = refl
no_parts_wait (x ∷ xs) h = cc

pub none_waits : (r : Region) → tasks.without_bodies r.awaited ++ declared.without_object_bodies r.objects ≡ [] → waits_in r ≡ record { tasks = []; objects = []; parts = r.parts }
none_waits r h =
    let both = both_none (tasks.without_bodies r.awaited) (declared.without_object_bodies r.objects) h in
    ap (λ l. record { tasks = l; objects = r.objects; parts = r.parts }) (no_tasks_wait r.awaited both.0) ∙ ap (λ l. record { tasks = []; objects = l; parts = r.parts }) (no_objects_wait r.objects both.1)

-- Operations and entries of objects that wait for their bodies, by their units.

abbrev pub IsUnitOf : ℕ → List AwaitedPart → Type 0
IsUnitOf n [] = ⊥
IsUnitOf n (a ∷ others) = (a.unit ≡ n) ⊎ IsUnitOf n others

pub unit_of_append : (n : ℕ) (xs ys : List AwaitedPart) → IsUnitOf n xs → IsUnitOf n (xs ++ ys)
unit_of_append n [] ys h = absurd h
unit_of_append n (x ∷ xs) ys (inl h) = inl h
unit_of_append n (x ∷ xs) ys (inr h) = inr (unit_of_append n xs ys h)

pub unit_of_behind : (n : ℕ) (xs ys : List AwaitedPart) → IsUnitOf n ys → IsUnitOf n (xs ++ ys)
unit_of_behind n [] ys h = h
unit_of_behind n (x ∷ xs) ys h = inr (unit_of_behind n xs ys h)

pub awaited_append : (object : ℕ) (ps qs : List ObjectPart) → awaited_parts object (ps ++ qs) ≡ awaited_parts object ps ++ awaited_parts object qs
awaited_append object [] qs = refl
awaited_append object (p ∷ ps) qs = by (nat_eq object p.object) (awaited_append object ps qs)
  where
    by : (b : Bool) → awaited_parts object (ps ++ qs) ≡ awaited_parts object ps ++ awaited_parts object qs → (if b then awaits p.part.kind p.at ++ awaited_parts object (ps ++ qs) else awaited_parts object (ps ++ qs)) ≡ (if b then awaits p.part.kind p.at ++ awaited_parts object ps else awaited_parts object ps) ++ awaited_parts object qs
    by true e = ap (λ l. awaits p.part.kind p.at ++ l) e ∙ sym (append_assoc (awaits p.part.kind p.at) (awaited_parts object ps) (awaited_parts object qs))
    by false e = e

-- of an object that waits for its body
abbrev pub IsPart : ℕ → List AwaitedObject → List ObjectPart → Type 0
IsPart n [] ps = ⊥
IsPart n (o ∷ os) ps = IsUnitOf n (awaited_parts o.object ps) ⊎ IsPart n os ps

is_part_more : (n : ℕ) (os : List AwaitedObject) (ps qs : List ObjectPart) → IsPart n os ps → IsPart n os (ps ++ qs)
is_part_more n [] ps qs h = absurd h
is_part_more n (o ∷ os) ps qs (inl h) = inl (subst (IsUnitOf n) (sym (awaited_append o.object ps qs)) (unit_of_append n _ _ h))
is_part_more n (o ∷ os) ps qs (inr h) = inr (is_part_more n os ps qs h)

is_part_object : (n : ℕ) (os : List AwaitedObject) (o : AwaitedObject) (ps : List ObjectPart) → IsPart n os ps → IsPart n (os ++ o ∷ []) ps
is_part_object n [] o ps h = absurd h
is_part_object n (x ∷ os) o ps (inl h) = inl h
is_part_object n (x ∷ os) o ps (inr h) = inr (is_part_object n os o ps h)

is_part_last : (n : ℕ) (os : List AwaitedObject) (o : AwaitedObject) (ps : List ObjectPart) → IsUnitOf n (awaited_parts o.object ps) → IsPart n (os ++ o ∷ []) ps
is_part_last n [] o ps h = inl h
is_part_last n (x ∷ os) o ps h = inr (is_part_last n os o ps h)

-- one of the objects comes

pub found_object : (P : AwaitedObject → Type 0) (name : List ℕ) (os : List AwaitedObject) (found : AwaitedObject) → awaited_object name os ≡ Some found → AllByRecursion P os → P found
found_object P name [] found p h = cc
found_object P name (x ∷ os) found p h = by (is_object name x) p (λ q. found_object P name os found q h.1)
  where
    by : (b : Bool) → (if b then Some x else awaited_object name os) ≡ Some found → (awaited_object name os ≡ Some found → P found) → P found
    by true q f =
        let same : x ≡ found = cc in
        subst P same h.0
    by false q f = f q

objects_still : (P : AwaitedObject → Type 0) (name : List ℕ) (os : List AwaitedObject) → AllByRecursion P os → AllByRecursion P (without_first (is_object name) os)
objects_still P name [] h = tt
objects_still P name (x ∷ os) h = either (AllByRecursion P) (is_object name x) os (x ∷ without_first (is_object name) os) h.1 (h.0, objects_still P name os h.1)

object_waits : (name : List ℕ) (os : List AwaitedObject) (ps : List ObjectPart) (found : AwaitedObject) (n : ℕ) → awaited_object name os ≡ Some found → IsPart n os ps → IsUnitOf n (awaited_parts found.object ps) ⊎ IsPart n (without_first (is_object name) os) ps
object_waits name [] ps found n p h = absurd h
object_waits name (x ∷ os) ps found n p h = by (is_object name x) p h (λ q i. object_waits name os ps found n q i)
  where
    still : List AwaitedObject
    still = without_first (is_object name) os

    one : IsUnitOf n (awaited_parts found.object ps) ⊎ IsPart n still ps → IsUnitOf n (awaited_parts found.object ps) ⊎ IsPart n (x ∷ still) ps
    one (inl e) = inl e
    one (inr i) = inr (inr i)

    by : (b : Bool) → (if b then Some x else awaited_object name os) ≡ Some found → IsPart n (x ∷ os) ps → (awaited_object name os ≡ Some found → IsPart n os ps → IsUnitOf n (awaited_parts found.object ps) ⊎ IsPart n still ps)
        → IsUnitOf n (awaited_parts found.object ps) ⊎ IsPart n (if b then os else x ∷ still) ps
    by true q (inl i) f =
        let same : x ≡ found = cc in
        inl (subst (λ (o : AwaitedObject). IsUnitOf n (awaited_parts o.object ps)) same i)
    by true q (inr i) f = inr i
    by false q (inl i) f = inr (inl i)
    by false q (inr i) f = one (f q i)

-- a body of one of its operations comes
pub unit_waits : (unit : ℕ) (xs : List AwaitedPart) (n : ℕ) → IsUnitOf n xs → (unit ≡ n) ⊎ IsUnitOf n (without_first (is_unit unit) xs)
unit_waits unit [] n h = absurd h
unit_waits unit (x ∷ xs) n h = by (nat_eq unit x.unit) refl h (λ i. unit_waits unit xs n i)
  where
    still : List AwaitedPart
    still = without_first (is_unit unit) xs

    one : (unit ≡ n) ⊎ IsUnitOf n still → (unit ≡ n) ⊎ IsUnitOf n (x ∷ still)
    one (inl e) = inl e
    one (inr i) = inr (inr i)

    by : (b : Bool) → nat_eq unit x.unit ≡ b → IsUnitOf n (x ∷ xs) → (IsUnitOf n xs → (unit ≡ n) ⊎ IsUnitOf n still) → (unit ≡ n) ⊎ IsUnitOf n (if b then xs else x ∷ still)
    by true e (inl i) f = inl (sym (nat_eq_true unit x.unit e) ∙ i)
    by true e (inr i) f = inr i
    by false e (inl i) f = inr (inl i)
    by false e (inr i) f = one (f i)

-- what waits in a region, for its own declarative part
abbrev pub Waits_in : Waiting → ℕ → Type 0
Waits_in w n = IsAwaited n w.tasks ⊎ IsPart n w.objects w.parts

-- those before a number stay what they are
abbrev pub Stay : ℕ → Tables → Tables → Type 0
Stay base t u = (n : ℕ) → n < base → unit_at n u ≡ unit_at n t

module _ (plan : Plan) (entries : List Entry) where
  abbrev pub IsUnit : tree.UnitBody → ℕ → Type 0
  IsUnit u n = UnitScoped plan entries (tree.unit_plan u) u.body (entry_of entries n)

  -- all barriers so far are evaluated where the frames are open that their entries' bodies see, and these have the entries' formals
  abbrev pub IsBarred : tree.EntryBody → Type 0
  IsBarred e = BooleanScoped plan e.barrier (entry_of entries e.unit).outer × HasFormals entries (tree.plan_of_entry e)

  abbrev pub Barred : Tables → Type 0
  Barred t = (n : ℕ) → n < length t.entries → IsBarred (entry_at n t)

  -- the units that a construct declares; the others stay what they are
  abbrev pub Units : Tables → Tables → Type 0
  Units t u = (length t.units ≤ length u.units) × ((n : ℕ) → length t.units ≤ n → n < length u.units → IsUnit (unit_at n u) n) × Stay (length t.units) t u × (Barred t → Barred u)

  pub none_between : (t : Tables) → Units t t
  none_between t = (omega arith, λ n after before. absurd (omega (arith, after, before)), λ n lt. refl, λ b. b)

  -- those of two parts
  pub units_join : (t u v : Tables) → Units t u → Units u v → Units t v
  units_join t u v h i = (
    omega (arith, h.0, i.0),
    λ n after before. elim (is_before n (length u.units)) [
      | inl within ↦ subst (λ z. IsUnit z n) (sym (i.2 n within)) (h.1 n after within)
      | inr past ↦ i.1 n past before
    ],
    λ n lt. i.2 n (omega (arith, lt, h.0)) ∙ h.2 n lt,
    λ b. i.3 (h.3 b),
  )

  -- an entry whose barrier is True
  pub barred_push : (t u : Tables) (e : tree.EntryBody) → u.entries ≡ t.entries ++ e ∷ [] → e.barrier ≡ tree.truth true → HasFormals entries (tree.plan_of_entry e) → Barred t → Barred u
  barred_push t u e p q takes h = λ n lt. elim (is_before n (length t.entries)) [
    | inl within ↦
        let same : entry_at n u ≡ entry_at n t = ap (λ l. slice_index_or l n (tree.task_entry [] 0)) p ∙ get_or_append_left t.entries (e ∷ []) (tree.task_entry [] 0) n within in
        subst IsBarred (sym same) (h n within)
    | inr past ↦
        let is : length t.entries ≡ n = omega (arith, past, lt, ap length p, length_push t.entries e) in
        let last : entry_at n u ≡ e = ap (λ l. slice_index_or l n (tree.task_entry [] 0)) p ∙ get_or_push t.entries e (tree.task_entry [] 0) n is in
        subst IsBarred (sym last) (subst (λ x. BooleanScoped plan x (entry_of entries e.unit).outer) (sym q) tt, takes)
  ]

  -- a barrier is put in its place
  pub barred_put : (t : Tables) (number : ℕ) (b : tree.BooleanExpression) → BooleanScoped plan b (entry_of entries (entry_at number t).unit).outer → Barred t → Barred (with_barrier number b t)
  barred_put t number b i h = λ n lt.
      let e : tree.EntryBody = record (entry_at number t) { barrier = b } in
      let long = length-set t.entries number e in
      elim (is_equal n number) [
        | inl is ↦
            let there : number < length t.entries = omega (arith, is, lt, long) in
            subst (λ k. IsBarred (entry_at k (with_barrier number b t))) (sym is) (subst IsBarred (sym (get_or-set_same t.entries number e (tree.task_entry [] 0) there)) (i, (h number there).1))
        | inr ne ↦ subst IsBarred (sym (get_or-set_other t.entries number n e (tree.task_entry [] 0) ne)) (h n (omega (arith, lt, long)))
      ]

  -- later tables know of more procedures and entries

  abbrev knowing : List (List NamedParameter) → List (List NamedParameter) → Known
  knowing of_units of_entries = record { plan = plan; entries = entries; profiles = of_units; entry_profiles = of_entries; complete = true }

  pub fits_grown : (t u : Tables) (scope : Scope) (n : Place) → Grows t u → Fits (seen plan entries t) scope n → Fits (seen plan entries u) scope n
  fits_grown t u scope n g h =
      subst (λ l. Fits (knowing l u.entry_profiles) scope n) (sym g.profiles)
      (subst (λ l. Fits (knowing (t.profiles ++ g.more_profiles) l) scope n) (sym g.entry_profiles) (fits_later (seen plan entries t) scope g.more_profiles g.more_entry_profiles n h))

  pub body_grown : (t u : Tables) (outer : Scope) (full : Elaborated) (n : Place) → Grows t u → InBody (seen plan entries t) outer full n → InBody (seen plan entries u) outer full n
  body_grown t u outer full n g h =
      subst (λ l. InBody (knowing l u.entry_profiles) outer full n) (sym g.profiles)
      (subst (λ l. InBody (knowing (t.profiles ++ g.more_profiles) l) outer full n) (sym g.entry_profiles) (body_later (seen plan entries t) outer full g.more_profiles g.more_entry_profiles n h))

  -- a procedure's unit, and those of its body
  pub units_put : (profile : List NamedParameter) (t u : Tables) (x : tree.UnitBody) → IsUnit x (length t.units) → Units (unit_kept profile t) u → Units t (with_unit (length t.units) x u)
  units_put profile t u x h i =
      let one = length_push t.units no_body in
      let long = length-set u.units (length t.units) x in (
        omega (arith, i.0, one, long),
        λ n after before. elim (is_before n (length t.units + 1)) [
          | inl first ↦
              let is : n ≡ length t.units = omega (arith, first, after) in
              subst (λ k. IsUnit (unit_at k (with_unit (length t.units) x u)) k) (sym is) (subst (λ z. IsUnit z (length t.units)) (sym (get_or-set_same u.units (length t.units) x no_body (omega (arith, i.0, one)))) h)
          | inr past ↦
              subst (λ z. IsUnit z n) (sym (get_or-set_other u.units (length t.units) n x no_body (λ e. omega (arith, e, past)))) (i.1 n (omega (arith, past, one)) (omega (arith, before, long)))
        ],
        λ n lt. get_or-set_other u.units (length t.units) n x no_body (λ e. omega (arith, e, lt)) ∙ i.2 n (omega (arith, lt, one)) ∙ get_or_append_left t.units (no_body ∷ []) no_body n lt,
        λ b. i.3 b,
      )

  -- In a declarative part that is entered in a scope, and whose first unit has this number: each unit is there, or its body is still to
  -- come. That of a task begins with its number, and those of an object see its frame.

  abbrev pub Waits : ℕ → Scope → Tables → ℕ → Type 0
  Waits base scope t n = (base ≤ n) × (n < length t.units) × (n < length entries) × (entry_of entries n ≡ of_task scope)

  abbrev pub ObjectWaits : ℕ → Scope → Tables → List ObjectPart → AwaitedObject → Type 0
  ObjectWaits base scope t ps o = (o.object < length t.objects) × PartsAre plan entries base t (scope ++ own_frame o.object ps ∷ []) o.object ps

  abbrev pub AllBefore : Tables → List ObjectPart → Type 0
  AllBefore t ps = AllByRecursion (λ p. p.object < length t.objects) ps

  -- what waits besides, for as long as the body of an object lasts
  abbrev pub EachIs : ℕ → (ℕ → Type 0) → Tables → Type 0
  EachIs base P t = (base ≤ length t.units) × ((n : ℕ) → base ≤ n → n < length t.units → IsUnit (unit_at n t) n ⊎ P n)

  abbrev pub InPart : ℕ → Scope → Waiting → Tables → Type 0
  InPart base scope w t = EachIs base (Waits_in w) t × AllAwaited (Waits base scope t) w.tasks × AllByRecursion (ObjectWaits base scope t w.parts) w.objects × AllBefore t w.parts

  pub part_begins : (scope : Scope) (t : Tables) (w : Waiting) → w ≡ no_waiting → InPart (length t.units) scope w t
  part_begins scope t w p = subst (λ l. InPart (length t.units) scope l t) (sym p) ((omega arith, λ n after before. absurd (omega (arith, after, before))), tt, tt, tt)

  pub part_ends : (t u : Tables) (w : Waiting) (ps : List ObjectPart) → w ≡ record { tasks = []; objects = []; parts = ps } → EachIs (length t.units) (Waits_in w) u → Stay (length t.units) t u → (Barred t → Barred u) → Units t u
  part_ends t u w ps p h k b = (
    h.0,
    λ n after before. elim (subst (λ l. IsUnit (unit_at n u) n ⊎ Waits_in l n) p (h.1 n after before)) [ inl i ↦ i | inr i ↦ elim i [ inl j ↦ absurd j | inr j ↦ absurd j ] ],
    k,
    b,
  )

  -- in later tables

  waits_later : (base : ℕ) (scope : Scope) (t u : Tables) (xs : List Awaited) → length t.units ≤ length u.units → AllAwaited (Waits base scope t) xs → AllAwaited (Waits base scope u) xs
  waits_later base scope t u xs e h = all_awaited_more (Waits base scope t) (Waits base scope u) xs (λ n f. (f.0, omega (arith, f.1, e), f.2, f.3)) h

  objects_later : (base : ℕ) (scope : Scope) (t u : Tables) (ps : List ObjectPart) (os : List AwaitedObject) → Grows t u → AllByRecursion (ObjectWaits base scope t ps) os → AllByRecursion (ObjectWaits base scope u ps) os
  objects_later base scope t u ps [] g h = tt
  objects_later base scope t u ps (o ∷ os) g h = ((omega (arith, h.0.0, g.objects), parts_grown plan entries base t u (scope ++ own_frame o.object ps ∷ []) o.object ps g h.0.1), objects_later base scope t u ps os g h.1)

  before_later : (t u : Tables) (ps : List ObjectPart) → length t.objects ≤ length u.objects → AllBefore t ps → AllBefore u ps
  before_later t u [] e h = tt
  before_later t u (p ∷ ps) e h = (omega (arith, e, h.0), before_later t u ps e h.1)

  each_goes_on : (base : ℕ) (P : ℕ → Type 0) (t u : Tables) → Units t u → EachIs base P t → EachIs base P u
  each_goes_on base P t u h i = (
    omega (arith, i.0, h.0),
    λ n after before. elim (is_before n (length t.units)) [
      | inl within ↦ subst (λ z. IsUnit z n ⊎ P n) (sym (h.2 n within)) (i.1 n after within)
      | inr past ↦ inl (h.1 n past before)
    ],
  )

  -- more units are declared
  pub part_goes_on : (base : ℕ) (scope : Scope) (w v : Waiting) (t u : Tables) → v ≡ w → Grows t u → Units t u → InPart base scope w t → InPart base scope v u × Stay base t u
  part_goes_on base scope w v t u p g h i =
      let here : InPart base scope w u = (each_goes_on base (Waits_in w) t u h i.0, waits_later base scope t u w.tasks h.0 i.1, objects_later base scope t u w.parts w.objects g i.2, before_later t u w.parts g.objects i.3) in
      (subst (λ l. InPart base scope l u) (sym p) here, λ n lt. h.2 n (omega (arith, lt, i.0.0)))

  -- a task is declared, whose unit is the next
  pub part_with_task : (base : ℕ) (scope : Scope) (w : Waiting) (a : Awaited) (t u : Tables) → Grows t u → u.units ≡ t.units ++ no_body ∷ [] → a.unit ≡ length t.units → length t.units < length entries → entry_of entries (length t.units) ≡ of_task scope → InPart base scope w t
      → InPart base scope (record w { tasks = w.tasks ++ a ∷ [] }) u × Stay base t u
  part_with_task base scope w a t u g e p there own h =
      let xs = w.tasks in
      let next : Waiting = record w { tasks = xs ++ a ∷ [] } in
      let one : length u.units ≡ length t.units + 1 = omega (arith, ap length e, length_push t.units no_body) in
      let same : (n : ℕ) → n < length t.units → unit_at n u ≡ unit_at n t = λ n lt. ap (λ l. slice_index_or l n no_body) e ∙ get_or_append_left t.units (no_body ∷ []) no_body n lt in
      let more : (n : ℕ) → Waits_in w n → Waits_in next n = λ n z. elim z [ inl i ↦ inl (awaited_more n xs a i) | inr i ↦ inr i ] in
      let each : EachIs base (Waits_in next) u = (
        omega (arith, h.0.0, one),
        λ n after before. elim (is_before n (length t.units)) [
          | inl within ↦ elim (subst (λ z. IsUnit z n ⊎ Waits_in w n) (sym (same n within)) (h.0.1 n after within)) [ inl i ↦ inl i | inr i ↦ inr (more n i) ]
          | inr past ↦
              let is : a.unit ≡ n = omega (arith, p, past, before, one) in
              inr (inl (subst (λ k. IsAwaited k (xs ++ a ∷ [])) is (awaited_last xs a)))
        ],
      ) in
      let here : InPart base scope next u = (
        each,
        all_awaited_push (Waits base scope u) xs a (waits_later base scope t u xs (omega (arith, one)) h.1) (omega (arith, p, h.0.0), omega (arith, p, one), omega (arith, p, there), ap (entry_of entries) p ∙ own),
        objects_later base scope t u w.parts w.objects g h.2,
        before_later t u w.parts g.objects h.3,
      ) in
      (here, λ n lt. same n (omega (arith, lt, h.0.0)))

  -- an object is declared, whose operations have the next units

  parts_before : (t : Tables) (ps qs : List ObjectPart) → AllBefore t ps → AllBefore t qs → AllBefore t (ps ++ qs)
  parts_before t [] qs h i = i
  parts_before t (p ∷ ps) qs h i = (h.0, parts_before t ps qs h.1 i)

  own_before : (u : Tables) (object : ℕ) (ps : List ObjectPart) → object < length u.objects → OfObject object ps → AllBefore u ps
  own_before u object [] lt h = tt
  own_before u object (p ∷ ps) lt h = (omega (arith, lt, h.0), own_before u object ps lt h.1)

  before_are_others : (t : Tables) (ps : List ObjectPart) → AllBefore t ps → OfOthers (length t.objects) ps
  before_are_others t [] h = tt
  before_are_others t (p ∷ ps) h = (λ e. omega (arith, e, h.0), before_are_others t ps h.1)

  -- nothing is said of parts of others
  others_are : (base : ℕ) (u : Tables) (frames : Scope) (object : ℕ) (ps : List ObjectPart) → OfOthers object ps → PartsAre plan entries base u frames object ps
  others_are base u frames object [] h = tt
  others_are base u frames object (p ∷ ps) h = ((λ e. absurd (h.0 (sym e))), others_are base u frames object ps h.1)

  objects_with : (base : ℕ) (scope : Scope) (u : Tables) (number : ℕ) (ps qs : List ObjectPart) (os : List AwaitedObject) → OfObject number qs → AllByRecursion (λ o. o.object < number) os → AllByRecursion (ObjectWaits base scope u ps) os → AllByRecursion (ObjectWaits base scope u (ps ++ qs)) os
  objects_with base scope u number ps qs [] its earlier h = tt
  objects_with base scope u number ps qs (o ∷ os) its earlier h =
      let frames : Scope = scope ++ own_frame o.object ps ∷ [] in
      let all = parts_are_append plan entries base u frames o.object ps qs h.0.1 (others_are base u frames o.object qs (later_are_others o.object number qs earlier.0 its)) in
      ((h.0.0, subst (λ e. PartsAre plan entries base u (scope ++ e ∷ []) o.object (ps ++ qs)) (sym (frame_stays o.object number ps qs earlier.0 its)) all), objects_with base scope u number ps qs os its earlier.1 h.1)

  objects_before : (base : ℕ) (scope : Scope) (t : Tables) (ps : List ObjectPart) (os : List AwaitedObject) → AllByRecursion (ObjectWaits base scope t ps) os → AllByRecursion (λ o. o.object < length t.objects) os
  objects_before base scope t ps [] h = tt
  objects_before base scope t ps (o ∷ os) h = (h.0.0, objects_before base scope t ps os h.1)

  objects_push : (base : ℕ) (scope : Scope) (u : Tables) (ps : List ObjectPart) (os : List AwaitedObject) (o : AwaitedObject) → AllByRecursion (ObjectWaits base scope u ps) os → ObjectWaits base scope u ps o → AllByRecursion (ObjectWaits base scope u ps) (os ++ o ∷ [])
  objects_push base scope u ps [] o h i = (i, tt)
  objects_push base scope u ps (x ∷ os) o h i = (h.0, objects_push base scope u ps os o h.1 i)

  pub part_with_object : (base : ℕ) (scope : Scope) (w : Waiting) (o : AwaitedObject) (qs : List ObjectPart) (t u : Tables) → Grows t u → o.object ≡ length t.objects → length t.objects < length u.objects → OfObject o.object qs
      → PartsAre plan entries base u (scope ++ own_frame o.object qs ∷ []) o.object qs → ((n : ℕ) → length t.units ≤ n → n < length u.units → IsUnitOf n (awaited_parts o.object qs)) → Stay (length t.units) t u → InPart base scope w t
      → InPart base scope (record { tasks = w.tasks; objects = w.objects ++ o ∷ []; parts = w.parts ++ qs }) u × Stay base t u
  part_with_object base scope w o qs t u g p there its are waits stays h =
      let ps = w.parts in
      let number = o.object in
      let next : Waiting = record { tasks = w.tasks; objects = w.objects ++ o ∷ []; parts = ps ++ qs } in
      let more : (n : ℕ) → Waits_in w n → Waits_in next n = λ n z. elim z [ inl i ↦ inl i | inr i ↦ inr (is_part_object n w.objects o (ps ++ qs) (is_part_more n w.objects ps qs i)) ] in
      let each : EachIs base (Waits_in next) u = (
        omega (arith, h.0.0, g.even),
        λ n after before. elim (is_before n (length t.units)) [
          | inl within ↦ elim (subst (λ z. IsUnit z n ⊎ Waits_in w n) (sym (stays n within)) (h.0.1 n after within)) [ inl i ↦ inl i | inr i ↦ inr (more n i) ]
          | inr past ↦ inr (inr (is_part_last n w.objects o (ps ++ qs) (subst (IsUnitOf n) (sym (awaited_append number ps qs)) (unit_of_behind n (awaited_parts number ps) (awaited_parts number qs) (waits n past before)))))
        ],
      ) in
      let earlier : AllByRecursion (λ x. x.object < number) w.objects = subst (λ k. AllByRecursion (λ x. x.object < k) w.objects) (sym p) (objects_before base scope t ps w.objects h.2) in
      let others : OfOthers number ps = subst (λ k. OfOthers k ps) (sym p) (before_are_others t ps h.3) in
      let frames : Scope = scope ++ own_frame number qs ∷ [] in
      let own = parts_are_append plan entries base u frames number ps qs (others_are base u frames number ps others) are in
      let its_own : ObjectWaits base scope u (ps ++ qs) o = (omega (arith, p, there), subst (λ e. PartsAre plan entries base u (scope ++ e ∷ []) number (ps ++ qs)) (sym (frame_begins number ps qs others)) own) in
      let here : InPart base scope next u = (
        each,
        waits_later base scope t u w.tasks (omega (arith, g.even)) h.1,
        objects_push base scope u (ps ++ qs) w.objects o (objects_with base scope u number ps qs w.objects its earlier (objects_later base scope t u ps w.objects g h.2)) its_own,
        parts_before u ps qs (before_later t u ps g.objects h.3) (own_before u number qs (omega (arith, p, there)) its),
      ) in
      (here, λ n lt. stays n (omega (arith, lt, h.0.0)))

  -- a body comes
  pub part_with_body : (base : ℕ) (scope : Scope) (name : List ℕ) (w : Waiting) (found : Awaited) (t u : Tables) (x : tree.UnitBody) → names.awaited_task name w.tasks ≡ Some found → Grows t (with_unit found.unit x u) → Units t u → IsUnit x found.unit → InPart base scope w t
      → InPart base scope (record w { tasks = names.still_awaited name w.tasks }) (with_unit found.unit x u) × Stay base t (with_unit found.unit x u)
  part_with_body base scope name w found t u x p g h k i =
      let xs = w.tasks in
      let next : Waiting = record w { tasks = names.still_awaited name xs } in
      let unit = found.unit in
      let v : Tables = with_unit unit x u in
      let own = found_unit (Waits base scope t) name xs found p i.1 in
      let long = length-set u.units unit x in
      let other : (n : ℕ) → (n ≡ unit → ⊥) → unit_at n v ≡ unit_at n u = λ n ne. get_or-set_other u.units unit n x no_body ne in
      let waits : (n : ℕ) → n < length t.units → (n ≡ unit → ⊥) → IsUnit (unit_at n t) n ⊎ Waits_in w n → IsUnit (unit_at n v) n ⊎ Waits_in next n = λ n lt ne z. elim z [
        | inl y ↦ inl (subst (λ q. IsUnit q n) (sym (other n ne ∙ h.2 n lt)) y)
        | inr y ↦ elim y [ inl a ↦ elim (still_waits name xs found n p a) [ inl e ↦ absurd (ne (sym e)) | inr q ↦ inr (inl q) ] | inr b ↦ inr (inr b) ]
      ] in
      let each : EachIs base (Waits_in next) v = (
        omega (arith, i.0.0, h.0, long),
        λ n after before. elim (is_equal n unit) [
          | inl e ↦ inl (subst (λ m. IsUnit (unit_at m v) m) (sym e) (subst (λ q. IsUnit q unit) (sym (get_or-set_same u.units unit x no_body (omega (arith, own.1, h.0)))) k))
          | inr ne ↦ elim (is_before n (length t.units)) [
            | inl within ↦ waits n within ne (i.0.1 n after within)
            | inr past ↦ inl (subst (λ q. IsUnit q n) (sym (other n ne)) (h.1 n past (omega (arith, before, long))))
          ]
        ],
      ) in
      let here : InPart base scope next v = (
        each,
        waits_later base scope t v (names.still_awaited name xs) (omega (arith, h.0, long)) (still_all (Waits base scope t) name xs i.1),
        objects_later base scope t v w.parts w.objects g i.2,
        before_later t v w.parts g.objects i.3,
      ) in
      (here, λ n lt. other n (λ e. omega (arith, e, lt, own.0)) ∙ h.2 n (omega (arith, lt, i.0.0)))

  -- The body of an object: its operations wait besides, and the object does no more.

  pub part_without : (base : ℕ) (scope : Scope) (name : List ℕ) (w : Waiting) (found : AwaitedObject) (t : Tables) → awaited_object name w.objects ≡ Some found → InPart base scope w t
      → EachIs base (λ n. Waits_in (record w { objects = without_first (is_object name) w.objects }) n ⊎ IsUnitOf n (awaited_parts found.object w.parts)) t
  part_without base scope name w found t p h =
      let next : Waiting = record w { objects = without_first (is_object name) w.objects } in
      let waits : (n : ℕ) → Waits_in w n → Waits_in next n ⊎ IsUnitOf n (awaited_parts found.object w.parts) = λ n z. elim z [
        | inl i ↦ inl (inl i)
        | inr i ↦ elim (object_waits name w.objects w.parts found n p i) [ inl j ↦ inr j | inr j ↦ inl (inr j) ]
      ] in
      (h.0.0, λ n after before. elim (h.0.1 n after before) [ inl i ↦ inl i | inr i ↦ inr (waits n i) ])

  -- one of its bodies comes
  pub each_with_body : (base : ℕ) (P : ℕ → Type 0) (awaited : List AwaitedPart) (unit : ℕ) (t u : Tables) (x : tree.UnitBody) → base ≤ unit → unit < length t.units → Units t u → IsUnit x unit → EachIs base (λ n. P n ⊎ IsUnitOf n awaited) t
      → EachIs base (λ n. P n ⊎ IsUnitOf n (without_first (is_unit unit) awaited)) (with_unit unit x u) × Stay base t (with_unit unit x u)
  each_with_body base P awaited unit t u x after_base there h k i =
      let v : Tables = with_unit unit x u in
      let still : List AwaitedPart = without_first (is_unit unit) awaited in
      let long = length-set u.units unit x in
      let other : (n : ℕ) → (n ≡ unit → ⊥) → unit_at n v ≡ unit_at n u = λ n ne. get_or-set_other u.units unit n x no_body ne in
      let waits : (n : ℕ) → n < length t.units → (n ≡ unit → ⊥) → IsUnit (unit_at n t) n ⊎ (P n ⊎ IsUnitOf n awaited) → IsUnit (unit_at n v) n ⊎ (P n ⊎ IsUnitOf n still) = λ n lt ne z. elim z [
        | inl y ↦ inl (subst (λ q. IsUnit q n) (sym (other n ne ∙ h.2 n lt)) y)
        | inr y ↦ elim y [ inl a ↦ inr (inl a) | inr b ↦ elim (unit_waits unit awaited n b) [ inl e ↦ absurd (ne (sym e)) | inr q ↦ inr (inr q) ] ]
      ] in
      let each : EachIs base (λ n. P n ⊎ IsUnitOf n still) v = (
        omega (arith, i.0, h.0, long),
        λ n after before. elim (is_equal n unit) [
          | inl e ↦ inl (subst (λ m. IsUnit (unit_at m v) m) (sym e) (subst (λ q. IsUnit q unit) (sym (get_or-set_same u.units unit x no_body (omega (arith, there, h.0)))) k))
          | inr ne ↦ elim (is_before n (length t.units)) [
            | inl within ↦ waits n within ne (i.1 n after within)
            | inr past ↦ inl (subst (λ q. IsUnit q n) (sym (other n ne)) (h.1 n past (omega (arith, before, long))))
          ]
        ],
      ) in
      (each, λ n lt. other n (λ e. omega (arith, e, lt, after_base)) ∙ h.2 n (omega (arith, lt, i.0)))

  -- all of them have come
  pub part_with_bodies : (base : ℕ) (scope : Scope) (name : List ℕ) (w : Waiting) (awaited : List AwaitedPart) (t u : Tables) → Grows t u → awaited ≡ [] → InPart base scope w t → EachIs base (λ n. Waits_in (record w { objects = without_first (is_object name) w.objects }) n ⊎ IsUnitOf n awaited) u
      → InPart base scope (record w { objects = without_first (is_object name) w.objects }) u
  part_with_bodies base scope name w awaited t u g p h i =
      let next : Waiting = record w { objects = without_first (is_object name) w.objects } in
      let each : EachIs base (Waits_in next) u = (
        i.0,
        λ n after before. elim (subst (λ l. IsUnit (unit_at n u) n ⊎ (Waits_in next n ⊎ IsUnitOf n l)) p (i.1 n after before)) [
          | inl y ↦ inl y
          | inr y ↦ elim y [ inl a ↦ inr a | inr b ↦ absurd b ]
        ],
      ) in
      (each, waits_later base scope t u w.tasks (omega (arith, g.even)) h.1, objects_still (ObjectWaits base scope u w.parts) name w.objects (objects_later base scope t u w.parts w.objects g h.2), before_later t u w.parts g.objects h.3)
