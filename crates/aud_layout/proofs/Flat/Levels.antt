-- The code of a scoped program has a table that counts its frames, and each body begins with the frames of its level.
use Rattle.std.proofs.Common.{◌≡◌, ◌⊎◌, inl, inr, ℕ, zero, suc, ◌+◌, ◌≤◌, ◌<◌, List, [], ◌∷◌, ◌++◌, length, map, slice_get, Option, Some, None, refl, sym, ap, ◌∙◌, subst, arith, length-append}
use Rattle.std.proofs.lemmas.Bool.{cases_lt}
use Rattle.std.proofs.lemmas.List.{drop_all}
use Rattle.std.proofs.lemmas.Option.{get_or_from_slice_get}
use Rattle.aud_typed.specs.Tree.{Body, UnitPlan, Plan, Program}
use Rattle.aud_typed.specs.Why.Scoped.{Entry, UnitsScoped}
use Rattle.aud_code.specs.Flat.{EndLine, FlatLine}
use Rattle.aud_code.specs.Frames.{found_from, found}
use Rattle.aud_code.specs.Tabled.{table_of}
use Rattle.aud_layout.specs.Layout.{body_size, starts_from, spare_from, code_of}
use Rattle.aud_layout.specs.Assembly.{offset, flat_program}
use Rattle.aud_layout.specs.Law.{FramesTabledLaw}
use Rattle.aud_layout.specs.Opened.{opened_in, IsBefore, next_start, PlaceCounts, BodiesCount, level_of, task_bodies, barrier_frames, CountsFrames}
use Rattle.aud_layout.proofs.Flat.FramesLaw.{whole}
use Rattle.aud_layout.proofs.Flat.SeeingStatements.{unit_of}
use Rattle.aud_layout.proofs.Flat.SeeingLaw.{offset_most, starts_next, begins_level, code_is_seen}

front_kept : (xs ys : List ℕ) (k : ℕ) → k < length xs → slice_get (xs ++ ys) k ≡ slice_get xs k
front_kept [] ys k h = absurd (omega (arith, h))
front_kept (x ∷ xs) ys zero h = refl
front_kept (x ∷ xs) ys (suc k) h = front_kept xs ys k (omega (arith, h))

last_there : (xs : List ℕ) (n : ℕ) → slice_get (xs ++ n ∷ []) (length xs) ≡ Some n
last_there [] n = refl
last_there (x ∷ xs) n = last_there xs n

abbrev either : {A B : Type 0} → A ⊎ B → ℕ → ℕ → ℕ
either (inl a) m n = m
either (inr b) m n = n

-- each body begins where the one before it ends
abbrev Ordered : ℕ → List ℕ → Type 0
Ordered spare [] = Unit {0}
Ordered spare (s ∷ ss) = (s ≤ next_start ss spare) × Ordered spare ss

module _ (lines : List FlatLine) (levels starts : List ℕ) (spare : ℕ) where
  -- how many are open directly in the body in which a place stands
  abbrev directly : List ℕ → List ℕ → ℕ → ℕ
  directly [] ss place = 1
  directly (n ∷ ns) [] place = 1
  directly (n ∷ ns) (s ∷ ss) place = either (cases_lt place (next_start ss spare)) (suc n) (directly ns ss place)

  abbrev counted : Option EndLine → ℕ → List ℕ → ℕ
  counted None base seen = 0
  counted (Some l) base seen = opened_in seen base l.within

  -- the table up to a place
  abbrev counts : ℕ → List ℕ
  counts zero = []
  counts (suc n) = counts n ++ counted (found lines n) (directly levels starts n) (counts n) ∷ []

  abbrev number : ℕ → ℕ
  number n = counted (found lines n) (directly levels starts n) (counts n)

  length-counts : (n : ℕ) → length (counts n) ≡ n
  length-counts zero = refl
  length-counts (suc n) = let e = length-counts n in length-append (counts n) (number n ∷ []) ∙ omega (arith, e)

  -- behind one place or all before it
  kept_by : (n m k : ℕ) → k < m → m ≤ suc n → (m ≤ n → slice_get (counts n) k ≡ slice_get (counts m) k) → (m < suc n) ⊎ (suc n ≤ m) → slice_get (counts (suc n)) k ≡ slice_get (counts m) k
  kept_by n m k lt le before (inl less) =
      let e = length-counts n in
      front_kept (counts n) (number n ∷ []) k (omega (arith, e, lt, less)) ∙ before (omega (arith, less))
  kept_by n m k lt le before (inr most) = let same : suc n ≡ m = omega (arith, le, most) in ap (λ j. slice_get (counts j) k) same

  kept : (n m k : ℕ) → k < m → m ≤ n → slice_get (counts n) k ≡ slice_get (counts m) k
  kept zero m k lt le = absurd (omega (arith, lt, le))
  kept (suc n) m k lt le = kept_by n m k lt le (λ before. kept n m k lt before) (cases_lt m (suc n))

  written : (n place : ℕ) → place < n → slice_get (counts n) place ≡ Some (number place)
  written n place lt =
      kept n (suc place) place (omega arith) (omega (arith, lt)) ∙ subst (λ k. slice_get (counts (suc place)) k ≡ Some (number place)) (length-counts place) (last_there (counts place) (number place))

  there_within : (place : ℕ) (l : EndLine) → found lines place ≡ Some l → place < length lines
  there_within place l is = by (cases_lt place (length lines))
    where
      by : (place < length lines) ⊎ (length lines ≤ place) → place < length lines
      by (inl lt) = lt
      by (inr past) = let none : None ≡ Some l = sym (ap found_from (drop_all place lines past)) ∙ is in absurd cc

  place_counts : (base place : ℕ) → directly levels starts place ≡ base → PlaceCounts lines (counts (length lines)) base place
  place_counts base place is l there before =
      let lt = there_within place l there in
      written (length lines) place lt ∙ (ap (λ o. Some (counted o (directly levels starts place) (counts place))) there ∙ ap Some (same lt l.within before))
    where
      same : place < length lines → (w : Option ℕ) → IsBefore w place → opened_in (counts place) (directly levels starts place) w ≡ opened_in (counts (length lines)) base w
      same lt None h = is
      same lt (Some k) h =
          let now = get_or_from_slice_get (counts place) k (number k) 0 (written place k h) in
          let later = get_or_from_slice_get (counts (length lines)) k (number k) 0 (written (length lines) k (omega (arith, h, lt))) in
          ap suc (now ∙ sym later)

  in_first : (n s place : ℕ) (ns ss : List ℕ) → place < next_start ss spare → directly (n ∷ ns) (s ∷ ss) place ≡ suc n
  in_first n s place ns ss lt = by (cases_lt place (next_start ss spare))
    where
      by : (o : (place < next_start ss spare) ⊎ (next_start ss spare ≤ place)) → either o (suc n) (directly ns ss place) ≡ suc n
      by (inl less) = refl
      by (inr most) = absurd (omega (arith, lt, most))

  in_others : (n s place : ℕ) (ns ss : List ℕ) → next_start ss spare ≤ place → directly (n ∷ ns) (s ∷ ss) place ≡ directly ns ss place
  in_others n s place ns ss le = by (cases_lt place (next_start ss spare))
    where
      by : (o : (place < next_start ss spare) ⊎ (next_start ss spare ≤ place)) → either o (suc n) (directly ns ss place) ≡ directly ns ss place
      by (inl less) = absurd (omega (arith, le, less))
      by (inr most) = refl

  bodies_count : (ns ss : List ℕ) → length ns ≡ length ss → Ordered spare ss → ((place : ℕ) → next_start ss spare ≤ place → directly levels starts place ≡ directly ns ss place) → BodiesCount lines (counts (length lines)) ns ss spare
  bodies_count [] [] long order same = λ place low high. place_counts 1 place (same place low)
  bodies_count [] (s ∷ ss) long order same = absurd (omega (arith, long))
  bodies_count (n ∷ ns) [] long order same = absurd (omega (arith, long))
  bodies_count (n ∷ ns) (s ∷ ss) long order same = (
    λ place low high. place_counts (suc n) place (same place low ∙ in_first n s place ns ss high),
    bodies_count ns ss (omega (arith, long)) order.1 (λ place low. same place (omega (arith, order.0, low)) ∙ in_others n s place ns ss low),
  )

-- Of a program.

as_long : (plan : Plan) (all : List Entry) (f : ℕ → ℕ) (us : List UnitPlan) (bs : List Body) (es : List Entry) (at : ℕ) → UnitsScoped plan all us bs es → length (map level_of us) ≡ length (map f (starts_from bs at))
as_long plan all f [] [] es at h = refl
as_long plan all f [] (b ∷ bs) es at h = absurd h
as_long plan all f (u ∷ us) [] es at h = absurd h
as_long plan all f (u ∷ us) (b ∷ bs) [] at h = absurd h
as_long plan all f (u ∷ us) (b ∷ bs) (e ∷ es) at h = ap suc (as_long plan all f us bs es (at + body_size b 1) h.1)

module _ (program : Program) where
  abbrev G : ℕ → ℕ
  G = offset (code_of program).lines

  ordered : (bs : List Body) (at : ℕ) → Ordered (G (spare_from bs at)) (map G (starts_from bs at))
  ordered [] at = tt
  ordered (b ∷ bs) at = (subst (λ n. G at ≤ n) (sym (starts_next program [] bs (at + body_size b 1))) (offset_most (code_of program).lines at (at + body_size b 1) (omega arith)), ordered bs (at + body_size b 1))

  abbrev frames : List ℕ
  frames = counts (flat_program program).lines (map level_of program.plan.units) (flat_program program).starts (flat_program program).spare (length (flat_program program).lines)

  counts_frames : (all es : List Entry) → UnitsScoped program.plan all program.plan.units program.bodies es → CountsFrames program frames
  counts_frames all es h =
      let starts = (flat_program program).starts in
      bodies_count (flat_program program).lines (map level_of program.plan.units) starts (flat_program program).spare (map level_of program.plan.units) starts (as_long program.plan all G program.plan.units program.bodies es 0 h) (ordered program.bodies 0) (λ place low. refl)

pub frames_are_tabled : FramesTabledLaw
frames_are_tabled program scoped declares =
    let seen = frames program in
    let counted = counts_frames program scoped.entries scoped.entries scoped.units in (
      table_of (flat_program program).lines,
      task_bodies program,
      barrier_frames program,
      seen,
      code_is_seen program seen scoped declares counted,
      begins_level program seen scoped.entries scoped.entries program.plan.units program.bodies 0 scoped.units (whole (code_of program).lines) counted,
      unit_of program.plan.tasks,
    )
