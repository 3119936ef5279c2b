-- The table of frames, counted line by line and body by body.
use Rattle.std.proofs.Common.{◌≡◌, ◌⊎◌, inl, inr, ℕ, zero, suc, ◌+◌, ◌≤◌, ◌<◌, List, [], ◌∷◌, ◌++◌, length, drop, get_or, map, slice_get, slice_index_or, Option, Some, None, refl, sym, ap, ◌∙◌, subst, arith, append_assoc, append-nil}
use Rattle.std.proofs.lemmas.Bool.{cases_lt}
use Rattle.std.proofs.lemmas.List.{drop_all, get_or_append_left}
use Rattle.aud_typed.specs.declared.program.Unit as declared
use Rattle.aud_typed.specs.declared.program.Entry.{Entry}
use Rattle.aud_typed.specs.declared.program.TaskType.{TaskType}
use Rattle.aud_typed.specs.Tree as tree
use Rattle.aud_typed.specs.Ties.View.{plain_entry, plain_task_type, plain_unit}
use Rattle.aud_meaning.specs.Parts.{no_unit}
use Rattle.aud_code.specs.Flat.{EndLine, FlatLine}
use Rattle.aud_layout.specs.Layout.{body_size_by, starts_from_by, spare_from_by}
use Rattle.aud_layout.specs.Opened as opened
use Rattle.aud_layout.specs.Opened.{body_of, level_of, opened_in, IsBefore, next_start, PlaceCounts, BodiesCount}
use Rattle.aud_layout.specs.Written.{flat_step}
use Rattle.aud_gen.specs.Opening.{body_in_type, frames_before, level_in, AreCounted, AreOrdered, Grows, StepWithin}
use Rattle.aud_gen.specs.Writes.{bodies_in}
use Rattle.aud_gen.proofs.Loops.{dropped}
use Rattle.aud_gen.proofs.Units.{with_starts, with_spare}

pub same_within : (o : Option EndLine) (e : EndLine) → o ≡ Some e → (l : EndLine) → o ≡ Some l → l.within ≡ e.within
same_within o e is l there = let same : Some l ≡ Some e = sym there ∙ is in ap within_of same
  where
    within_of : Option EndLine → Option ℕ
    within_of None = None
    within_of (Some x) = x.within

pub grows_same : (seen : List ℕ) → Grows seen seen
grows_same seen = ([], sym (append-nil seen))

pub grows_on : (a b c : List ℕ) → Grows a b → Grows b c → Grows a c
grows_on a b c g h = (g.0 ++ h.0, h.1 ∙ (ap (λ xs. xs ++ h.0) g.1 ∙ append_assoc a g.0 h.0))

last_there : (seen more : List ℕ) (n : ℕ) → slice_get ((seen ++ n ∷ []) ++ more) (length seen) ≡ Some n
last_there [] more n = refl
last_there (x ∷ xs) more n = last_there xs more n

-- where a frame is opened further in front, it is counted as before
opened_before : (seen more : List ℕ) (base : ℕ) (w : Option ℕ) → IsBefore w (length seen) → opened_in (seen ++ more) base w ≡ opened_in seen base w
opened_before seen more base None h = refl
opened_before seen more base (Some k) h = ap suc (get_or_append_left seen more 0 k h)

module _ (lines : List FlatLine) (base first : ℕ) where
  pub none_counted : (seen : List ℕ) → AreCounted lines base first first seen
  none_counted seen all g p low high = absurd (omega (arith, low, high))

  pub one_counted : (seen new : List ℕ) (n : ℕ) (w : Option ℕ) (place next : ℕ) → new ≡ seen ++ n ∷ [] → n ≡ opened_in seen base w → length seen ≡ place → next ≡ place + 1 → StepWithin lines place w → AreCounted lines base first place seen → AreCounted lines base first next new
  one_counted seen new n w place next grown is long on within counted all g p low high = by (cases_lt p place)
    where
      whole : all ≡ (seen ++ n ∷ []) ++ g.0
      whole = g.1 ∙ ap (λ xs. xs ++ g.0) grown

      longer : all ≡ seen ++ (n ∷ g.0)
      longer = whole ∙ append_assoc seen (n ∷ []) g.0

      here : PlaceCounts lines all base place
      here l found_here before =
          let w_is : l.within ≡ w = within l found_here in
          let before_there : IsBefore w (length seen) = subst (λ q. IsBefore w q) (sym long) (subst (λ v. IsBefore v place) w_is before) in
          let count : opened_in all base l.within ≡ n = ap (opened_in all base) w_is ∙ (ap (λ xs. opened_in xs base w) longer ∙ (opened_before seen (n ∷ g.0) base w before_there ∙ sym is)) in
          let there : slice_get all place ≡ Some n = subst (λ q. slice_get all q ≡ Some n) long (ap (λ xs. slice_get xs (length seen)) whole ∙ last_there seen g.0 n) in
          there ∙ ap (λ m. Some m) (sym count)

      by : (p < place) ⊎ (place ≤ p) → PlaceCounts lines all base p
      by (inl less) = counted all (n ∷ g.0, longer) p low less
      by (inr most) = let same : place ≡ p = omega (arith, most, high, on) in subst (PlaceCounts lines all base) same here

  pub counted_on : (last : ℕ) (seen new : List ℕ) → Grows seen new → AreCounted lines base first last seen → AreCounted lines base first last new
  counted_on last seen new g counted all h = counted all (grows_on seen new all g h)

-- Bodies.

pub next_of : (ss : List ℕ) (n spare : ℕ) → slice_index_or ss n spare ≡ next_start (drop n ss) spare
next_of [] zero spare = refl
next_of [] (suc n) spare = refl
next_of (s ∷ ss) zero spare = refl
next_of (s ∷ ss) (suc n) spare = next_of ss n spare

pub from_next : (ss : List ℕ) (from spare last : ℕ) → AreOrdered from ss spare last → from ≤ next_start ss spare
from_next [] from spare last h = h.0
from_next (s ∷ ss) from spare last h = h.0

pub ordered_next : (ss : List ℕ) (from spare last : ℕ) → AreOrdered from ss spare last → AreOrdered (next_start ss spare) ss spare last
ordered_next [] from spare last h = (omega arith, h.1)
ordered_next (s ∷ ss) from spare last h = (omega arith, h.1)

pub next_within : (ss : List ℕ) (from spare last : ℕ) → AreOrdered from ss spare last → next_start ss spare ≤ last
next_within [] from spare last h = h.1
next_within (s ∷ ss) from spare last h = let more = next_within ss s spare last h.1 in let on = from_next ss s spare last h.1 in omega (arith, more, on)

-- what is counted so far, and what is left to count of these bodies
abbrev pub Counts_left : List FlatLine → List ℕ → List ℕ → List ℕ → ℕ → (List ℕ → Type 0) → Type 0
Counts_left lines seen levels starts spare whole = (all : List ℕ) → Grows seen all → BodiesCount lines all levels starts spare → whole all

pub one_body : (lines : List FlatLine) (old new : List ℕ) (level own : ℕ) (ns : List ℕ) (s : ℕ) (ss : List ℕ) (spare next : ℕ) (whole : List ℕ → Type 0) → own ≡ level + 1 → length old ≤ s → next ≡ next_start ss spare → Grows old new → AreCounted lines own (length old) next new → Counts_left lines old (level ∷ ns) (s ∷ ss) spare whole → Counts_left lines new ns ss spare whole
one_body lines old new level own ns s ss spare next whole sum from to grown counted h all g rest =
    let same : own ≡ suc level = omega (arith, sum) in
    h all (grows_on old new all grown g) (λ p low high. subst (λ b. PlaceCounts lines all b p) same (counted all g p (omega (arith, low, from)) (omega (arith, high, to))), rest)

-- behind all bodies
pub last_body : (lines : List FlatLine) (old new : List ℕ) (spare last : ℕ) (whole : List ℕ → Type 0) → length old ≤ spare → last ≡ length lines → Grows old new → AreCounted lines 1 (length old) last new → Counts_left lines old [] [] spare whole → whole new
last_body lines old new spare last whole from to grown counted h =
    h new grown (λ p low high. counted new (grows_same new) p (omega (arith, low, from)) (omega (arith, high, to)))

-- the bodies of a program's code stand in this order
pub starts_ordered : (bs : List tree.Body) (place from last : ℕ) → from ≤ place → spare_from_by flat_step bs place ≤ last → AreOrdered from (starts_from_by flat_step bs place) (spare_from_by flat_step bs place) last
starts_ordered [] place from last h k = (h, k)
starts_ordered (b ∷ bs) place from last h k = (h, starts_ordered bs (place + body_size_by flat_step b 1) place last (omega arith) k)

pub written_ordered : (bs : List tree.Body) (now : List FlatLine) (starts : List ℕ) (spare last : ℕ) → with_starts starts now [] ≡ starts_from_by flat_step bs 0 → with_spare now [] ≡ spare_from_by flat_step bs 0 → spare ≡ length now → length now ≤ last → AreOrdered 0 starts spare last
written_ordered bs now starts spare last started spared there within =
    let starts_are : starts ≡ starts_from_by flat_step bs 0 = sym (append-nil starts) ∙ started in
    let spare_is : spare ≡ spare_from_by flat_step bs 0 = there ∙ spared in
    subst (λ ss. AreOrdered 0 ss spare last) (sym starts_are) (subst (λ n. AreOrdered 0 (starts_from_by flat_step bs 0) n last) (sym spare_is) (starts_ordered bs 0 0 last (omega arith) (omega (arith, spare_is, there, within))))

starts_long : (bs : List tree.Body) (place : ℕ) → length (starts_from_by flat_step bs place) ≡ length bs
starts_long [] place = refl
starts_long (b ∷ bs) place = ap suc (starts_long bs (place + body_size_by flat_step b 1))

bodies_long : (us : List declared.Unit) → length (bodies_in us) ≡ length us
bodies_long [] = refl
bodies_long (u ∷ us) = ap suc (bodies_long us)

pub written_long : (us : List declared.Unit) (now : List FlatLine) (starts : List ℕ) → with_starts starts now [] ≡ starts_from_by flat_step (bodies_in us) 0 → length starts ≡ length us
written_long us now starts started =
    ap length (sym (append-nil starts)) ∙ (ap length started ∙ (starts_long (bodies_in us) 0 ∙ bodies_long us))

-- the same by the plain program
pub levels_open : (us : List declared.Unit) → map level_in us ≡ map level_of (map tree.unit_plan (map plain_unit us))
levels_open [] = refl
levels_open (u ∷ us) = ap (λ ns. u.level ∷ ns) (levels_open us)

pub types_open : (ts : List TaskType) → map body_in_type ts ≡ map body_of (map plain_task_type ts)
types_open [] = refl
types_open (t ∷ ts) = ap (λ ns. t.unit ∷ ns) (types_open ts)

-- how many frames each barrier sees
level_opens : (us : List declared.Unit) (n : ℕ) → slice_index_or (map level_in us) n 0 ≡ (slice_index_or (map tree.unit_plan (map plain_unit us)) n no_unit).level
level_opens [] zero = refl
level_opens [] (suc n) = refl
level_opens (u ∷ us) zero = refl
level_opens (u ∷ us) (suc n) = level_opens us n

pub frames_open : (plan : tree.Plan) (us : List declared.Unit) (es : List Entry) → plan.units ≡ map tree.unit_plan (map plain_unit us) → map (frames_before us) es ≡ map (opened.frames_before plan) (map tree.plan_of_entry (map plain_entry es))
frames_open plan us [] units = refl
frames_open plan us (e ∷ es) units =
    let n = (plain_entry e).unit in
    let here : frames_before us e ≡ opened.frames_before plan (tree.plan_of_entry (plain_entry e)) =
    level_opens us n ∙ ap (λ ps. (slice_index_or ps n no_unit).level) (sym units) in
    ap (λ k. k ∷ map (frames_before us) es) here
    ∙ ap (λ ns. opened.frames_before plan (tree.plan_of_entry (plain_entry e)) ∷ ns) (frames_open plan us es units)

-- the bodies of task types, one after the other
abbrev pub Types_left : List ℕ → List TaskType → List TaskType → Type 0
Types_left bodies left all = bodies ++ map body_in_type left ≡ map body_in_type all

pub one_type : (all : List TaskType) (i : ℕ) (t : TaskType) (bodies new : List ℕ) → i < length all → t ≡ get_or all i t → new ≡ bodies ++ t.unit ∷ [] → Types_left bodies (drop i all) all → Types_left new (drop (i + 1) all) all
one_type all i t bodies new within is grown h =
    let rest = map body_in_type (drop (i + 1) all) in
    ap (λ ns. ns ++ rest) grown ∙ (append_assoc bodies (t.unit ∷ []) rest ∙ (ap (λ ts. bodies ++ map body_in_type ts) (sym (dropped all i t within is)) ∙ h))

pub all_types : (all : List TaskType) (i : ℕ) (bodies : List ℕ) → length all ≤ i → Types_left bodies (drop i all) all → bodies ≡ map body_in_type all
all_types all i bodies over h = sym (append-nil bodies) ∙ (ap (λ ts. bodies ++ map body_in_type ts) (sym (drop_all i all over)) ∙ h)
