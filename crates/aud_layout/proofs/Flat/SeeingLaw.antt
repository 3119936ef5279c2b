-- The table that counts the frames of a scoped program's code fits it.
use Rattle.std.proofs.Common.{◌≡◌, ◌⊎◌, inl, inr, ℕ, zero, suc, ◌+◌, ◌-◌, ◌≤◌, ◌<◌, List, [], ◌∷◌, ◌++◌, length, drop, map, slice_get, slice_index_or, Bool, true, false, Option, Some, None, refl, sym, ap, ◌∙◌, subst, arith, length-append}
use Rattle.std.proofs.lemmas.Bool.{cases_lt}
use Rattle.std.proofs.lemmas.List.{drop-drop, length-drop}
use Rattle.std.proofs.lemmas.Option.{slice_get_past, slice_get_within}
use Rattle.aud_text.specs.declared.place.Pos.{Pos}
use Rattle.aud_typed.specs.Tree as tree
use Rattle.aud_typed.specs.Tree.{declare_object, ValueExpression, BooleanExpression, Body, UnitPlan, EntryPlan, Plan, Program}
use Rattle.aud_typed.specs.Why.Scoped.{Elaborated, Scope, table, Entry, entry_of, all_formals, none_yet, BodyScoped, UnitsScoped, BarriersScoped, MainEntry}
use Rattle.aud_meaning.specs.declared.state.Construct.TheVariants as construct
use Rattle.aud_meaning.specs.Items.{no_body}
use Rattle.aud_meaning.specs.Parts.{no_unit, unit_of}
use Rattle.aud_code.specs.Instruction.{Instruction, Load, LoadElement, Count, Find, FindElement, BeginObject}
use Rattle.aud_code.specs.Flat.{EndLine, FlatLine, instructs, end, start_at}
use Rattle.aud_code.specs.Frames.{found_from, found, OpensWith}
use Rattle.aud_code.specs.Seen.{ArrayOpen, BarriersSee, NamesOpen, with_own, open_with, Fewer, OpenedSees, StepSees, LineSees, PlaceSees}
use Rattle.aud_code.specs.Sound.{Counts, no_counts}
use Rattle.aud_code.specs.Tabled.{behind, behind_line, table_from, table_of}
use Rattle.aud_scoped.specs.Declares.{BodyDeclares, BodiesDeclare}
use Rattle.aud_layout.specs.Instructions.{components_code, condition_code}
use Rattle.aud_layout.specs.Layout.{What, does, Line, in_call, body_size, end_place, unit_code, units_code, starts_from, spare_from, code_of}
use Rattle.aud_layout.specs.Assembly.{instructions_by, line_size, offset, within_moved, end_line, step_lines, assembled_from, flat_program}
use Rattle.aud_layout.specs.Law.{SeenTabledLaw}
use Rattle.aud_layout.specs.Opened.{IsBefore, next_start, BodyCounts, BodiesCount, level_of, task_bodies, frames_before, barrier_frames}
use Rattle.aud_layout.specs.Shows.{HasAt}
use Rattle.aud_layout.proofs.Standing.Places.{has_front, has_back, has_tail, length-unit}
use Rattle.aud_layout.proofs.Flat.Assembly.{from_step, its_length, length_assembled, offset_zero}
use Rattle.aud_layout.proofs.Flat.FramesLaw.{whole}
use Rattle.aud_layout.proofs.Flat.Numbers.{is_written, same_there, AllOpen, StepOpen, condition_open}
use Rattle.aud_layout.proofs.Flat.Opening.{all_there as opened_there}
use Rattle.aud_layout.proofs.Flat.Seeing.{LineCounts, EachCounts, Stands, Here, InsideSees, body_begins, body_ends}
use Rattle.aud_layout.proofs.Flat.SeeingStatements.{LineSeen, EachSeen, one_and, joined, body_sees}

get_dropped : {A : Type 0} (xs : List A) (n k : ℕ) → slice_get (drop n xs) k ≡ slice_get xs (n + k)
get_dropped xs zero k = let same : k ≡ zero + k = omega arith in ap (slice_get xs) same
get_dropped [] (suc n) k = slice_get_past [] k (omega arith) ∙ sym (slice_get_past [] (suc n + k) (omega arith))
get_dropped (x ∷ xs) (suc n) k =
    let same : suc (n + k) ≡ suc n + k = omega arith in
    get_dropped xs n k ∙ ap (slice_get (x ∷ xs)) same

-- Where the steps of the layout stand.

offset_step : (lines : List Line) (q : ℕ) (l : Line) (rest : List Line) → drop q lines ≡ l ∷ rest → offset lines (suc q) ≡ offset lines q + line_size l
offset_step [] zero l rest e = absurd (omega (arith, ap length e))
offset_step [] (suc q) l rest e = absurd (omega (arith, ap length e))
offset_step (x ∷ xs) zero l rest e =
    subst (λ ls. offset ls 1 ≡ offset ls 0 + line_size l) (sym e) (let z = offset_zero rest in omega (arith, z))
offset_step (x ∷ xs) (suc q) l rest e = let later = offset_step xs q l rest e in omega (arith, later)

offset_less : (lines : List Line) (m n : ℕ) → m < n → offset lines m < offset lines n
offset_less [] m n h = h
offset_less (l ∷ ls) m zero h = absurd (omega (arith, h))
offset_less (l ∷ ls) zero (suc n) h = omega arith
offset_less (l ∷ ls) (suc m) (suc n) h = let later = offset_less ls m n (omega (arith, h)) in omega (arith, later)

pub offset_most : (lines : List Line) (m n : ℕ) → m ≤ n → offset lines m ≤ offset lines n
offset_most [] m n h = h
offset_most (l ∷ ls) zero n h = omega arith
offset_most (l ∷ ls) (suc m) zero h = absurd (omega (arith, h))
offset_most (l ∷ ls) (suc m) (suc n) h = let later = offset_most ls m n (omega (arith, h)) in omega (arith, later)

within_step : (is : List Instruction) (l : EndLine) (rest : List FlatLine) (j : ℕ) → j ≤ length is → found_from (drop j ((map instructs is ++ end l ∷ []) ++ rest)) ≡ Some l
within_step [] l rest zero h = refl
within_step [] l rest (suc j) h = absurd (omega (arith, h))
within_step (i ∷ is) l rest zero h = within_step is l rest zero (omega arith)
within_step (i ∷ is) l rest (suc j) h = within_step is l rest j (omega (arith, h))

-- what is found in a step's lines
found_in_step : (is : List Instruction) (e : EndLine) (rest : List FlatLine) (p : ℕ) (Q : Option FlatLine → Type 0) → p ≤ length is → ((i : Instruction) → slice_get is p ≡ Some i → p < length is → Q (Some (instructs i))) → Q (Some (end e)) → Q (slice_get ((map instructs is ++ end e ∷ []) ++ rest) p)
found_in_step [] e rest zero Q h f g = g
found_in_step [] e rest (suc p) Q h f g = absurd (omega (arith, h))
found_in_step (i ∷ is) e rest zero Q h f g = f i refl (omega arith)
found_in_step (i ∷ is) e rest (suc p) Q h f g = found_in_step is e rest p Q (omega (arith, h)) (λ j o lt. f j o (omega (arith, lt))) g

-- The frames that an instruction sees of a step, by what the table of operands has before it.

open_more : (i : Instruction) (n m : ℕ) → n ≤ m → NamesOpen i n → NamesOpen i m
open_more (Load v) n m le h = omega (arith, le, h)
open_more (LoadElement a) n m le h = by h where
  by : ArrayOpen a n → ArrayOpen a m
  by (inl e) = inl e
  by (inr lt) = inr (omega (arith, le, lt))
open_more (Count v entry) n m le h = omega (arith, le, h)
open_more (Find v t) n m le h = omega (arith, le, h)
open_more (FindElement a t) n m le h = by h where
  by : ArrayOpen a n → ArrayOpen a m
  by (inl e) = inl e
  by (inr lt) = inr (omega (arith, le, lt))
open_more i n m le h = tt

with_own_most : (b : Bool) (n : ℕ) → n ≤ with_own b n
with_own_most true n = omega arith
with_own_most false n = omega arith

open_most : (o : Option Counts) (n : ℕ) → n ≤ open_with o n
open_most None n = omega arith
open_most (Some c) n = with_own_most c.cells n

same_instruction : (a b : Instruction) → Some a ≡ Some b → a ≡ b
same_instruction a b e = cc

all_there : (is : List Instruction) (n p : ℕ) (i : Instruction) → AllOpen n is → slice_get is p ≡ Some i → NamesOpen i n
all_there [] n p i h e = cc
all_there (j ∷ is) n zero i h e = subst (λ (x : Instruction). NamesOpen x n) (same_instruction j i e) h.0
all_there (j ∷ is) n (suc p) i h e = all_there is n p i h.1 e

cells_kept : (i : Instruction) (c : Counts) → c.cells ≡ true → (behind i c).cells ≡ true
cells_kept BeginObject c h = refl
cells_kept i c h = h

-- behind an instruction with which the cells of an object begin
all_begun : (is : List Instruction) (e : EndLine) (rest : List FlatLine) (c : Counts) (q n : ℕ) → c.cells ≡ true → q < length is → open_with (slice_get (table_from c ((map instructs is ++ end e ∷ []) ++ rest)) q) n ≡ suc n
all_begun [] e rest c q n h lt = absurd (omega (arith, lt))
all_begun (i ∷ is) e rest c zero n h lt = ap (λ b. with_own b n) h
all_begun (i ∷ is) e rest c (suc q) n h lt = all_begun is e rest (behind i c) q n (cells_kept i c h) (omega (arith, lt))

-- of a step with these instructions, of which one is no beginning of an object
abbrev Sees : What → EndLine → List FlatLine → Counts → ℕ → Type 0
Sees w e rest c n =
    (p : ℕ) (i : Instruction) → slice_get (instructions_by w) p ≡ Some i → NamesOpen i (open_with (slice_get (table_from c ((map instructs (instructions_by w) ++ end e ∷ []) ++ rest)) p) n)

some_see : (w : What) (e : EndLine) (rest : List FlatLine) (c : Counts) (n : ℕ) → AllOpen n (instructions_by w) → Sees w e rest c n
some_see w e rest c n h p i is =
    let ls = table_from c ((map instructs (instructions_by w) ++ end e ∷ []) ++ rest) in
    open_more i n (open_with (slice_get ls p) n) (open_most (slice_get ls p) n) (all_there (instructions_by w) n p i h is)

object_sees : (at : Pos) (k : ℕ) (es : List ValueExpression) (e : EndLine) (rest : List FlatLine) (c : Counts) (n : ℕ) → AllOpen (suc n) (components_code es) → Sees (does (declare_object at k es)) e rest c n
object_sees at k es e rest c n h zero i is = subst (λ (x : Instruction). NamesOpen x (open_with (Some c) n)) (same_instruction BeginObject i is) tt
object_sees at k es e rest c n h (suc q) i is =
    let cs = components_code es in
    subst (NamesOpen i) (sym (all_begun cs e rest (record c { cells = true }) q n refl (slice_get_within cs q i is))) (all_there cs (suc n) q i h is)

step_sees : (w : What) (e : EndLine) (rest : List FlatLine) (c : Counts) (n : ℕ) → StepOpen n w → Sees w e rest c n
step_sees (does (declare_object at k es)) e rest c n h = object_sees at k es e rest c n h
step_sees w e rest c n h = some_see w e rest c n h

-- the table from a place on
table_behind : (c : Counts) (ls : List FlatLine) (n : ℕ) → (d : Counts) × (drop n (table_from c ls) ≡ table_from d (drop n ls))
table_behind c ls zero = (c, refl)
table_behind c [] (suc n) = (c, refl)
table_behind c (l ∷ ls) (suc n) = table_behind (behind_line l c) ls n

module _ (f : ℕ → ℕ) where
  step_there : (lines : List Line) (q : ℕ) (l : Line) (rest : List Line) → drop q lines ≡ l ∷ rest → drop (offset lines q) (assembled_from f lines) ≡ step_lines f l ++ assembled_from f rest
  step_there [] zero l rest e = absurd (omega (arith, ap length e))
  step_there [] (suc q) l rest e = absurd (omega (arith, ap length e))
  step_there (x ∷ xs) zero l rest e = subst (λ ls. drop (offset ls zero) (assembled_from f ls) ≡ step_lines f l ++ assembled_from f rest) (sym e) refl
  step_there (x ∷ xs) (suc q) l rest e = from_step f x xs (offset xs q) ∙ step_there xs q l rest e

  length_step : (l : Line) (ls : List Line) → length (assembled_from f (l ∷ ls)) ≡ line_size l + length (assembled_from f ls)
  length_step l ls = length-append (step_lines f l) (assembled_from f ls) ∙ ap (λ n. n + length (assembled_from f ls)) (its_length (instructions_by l.what) (end_line f l))

module _ (program : Program) (seen : List ℕ) where
  abbrev T : List ℕ
  T = task_bodies program

  abbrev B : List ℕ
  B = barrier_frames program

  abbrev L : List Line
  L = (code_of program).lines

  abbrev G : ℕ → ℕ
  G = offset (code_of program).lines

  abbrev X : List FlatLine
  X = (flat_program program).lines

  abbrev O : List Counts
  O = table_of (flat_program program).lines

  -- Each line of a body has the number that its frame asks.

  before_moved : (w : Option ℕ) (at j : ℕ) → IsBefore w at → IsBefore (within_moved G w) (G at + j)
  before_moved None at j h = tt
  before_moved (Some opened) at j h = let less = offset_less L opened at h in omega (arith, less)

  found_there : (at : ℕ) (l : Line) (rest : List Line) → drop at L ≡ l ∷ rest → (j : ℕ) → j ≤ length (instructions_by l.what) → found X (G at + j) ≡ Some (end_line G l)
  found_there at l rest e j h =
      ap found_from (sym (drop-drop j (G at) X)) ∙ (ap (λ ls. found_from (drop j ls)) (step_there G L at l rest e) ∙ within_step (instructions_by l.what) (end_line G l) (assembled_from G rest) j h)

  counts_of : (base first last : ℕ) → BodyCounts X seen base first last → (ls : List Line) (at : ℕ) → HasAt L at ls → first ≤ G at → G (at + length ls) ≤ last → EachCounts program T seen base at ls
  counts_of base first last all [] at h low high = tt
  counts_of base first last all (l ∷ ls) at h low high =
      let next = offset_step L at l (ls ++ h.rest) h.is in
      let same : suc at + length ls ≡ at + suc (length ls) = omega arith in
      let most = offset_most L (suc at) (at + suc (length ls)) (omega arith) in
      let line : LineCounts program T seen base at l = λ before j within. all (G at + j) (omega (arith, low)) (omega (arith, within, next, most, high)) (end_line G l) (found_there at l (ls ++ h.rest) h.is j within) (before_moved l.within at j before) in
      (line, counts_of base first last all ls (suc at) (has_tail L at l ls h) (omega (arith, low, next)) (subst (λ n. G n ≤ last) (sym same) high))

  -- Places of a line that is seen.

  in_step : (at : ℕ) (l : Line) (rest : List Line) → drop at L ≡ l ∷ rest → LineSeen program seen at l → (p : ℕ) → p < line_size l → PlaceSees (flat_program program) O T B seen (G at + p)
  in_step at l rest e x p h =
      let place = G at + p in
      let is = instructions_by l.what in
      let there : slice_get X place ≡ slice_get (step_lines G l ++ assembled_from G rest) p = sym (get_dropped X (G at) p) ∙ ap (λ ls. slice_get ls p) (step_there G L at l rest e) in
      let Q : Option FlatLine → Type 0 = λ o. LineSees (flat_program program) O T B seen o place x.frames in
      let table = table_behind no_counts X (G at) in
      let operands : slice_get O place ≡ slice_get (table_from table.0 (step_lines G l ++ assembled_from G rest)) p =
      sym (get_dropped O (G at) p) ∙ (ap (λ cs. slice_get cs p) table.1 ∙ ap (λ ls. slice_get (table_from table.0 ls) p) (step_there G L at l rest e)) in
      let names : (i : Instruction) → slice_get is p ≡ Some i → NamesOpen i (open_with (slice_get O place) x.frames) = λ i o.
      subst (λ k. NamesOpen i (open_with k x.frames)) (sym operands) (step_sees l.what (end_line G l) (assembled_from G rest) table.0 x.frames x.names p i o) in
      let opens : (i : Instruction) → slice_get is p ≡ Some i → OpensWith i (λ a. StepSees seen (found X place) x.frames a) = λ i o.
      subst (λ (k : Option EndLine). OpensWith i (λ a. StepSees seen k x.frames a)) (sym (found_there at l rest e p (omega (arith, h)))) (opened_there (λ a. OpenedSees seen (end_line G l).last (end_line G l).bodies x.frames a) is p i x.opens o) in
      let on : p < length is → Fewer seen 0 x.frames (suc place) = λ lt.
      let same : G at + suc p ≡ suc place = omega arith in
      subst (λ n. Fewer seen 0 x.frames n) same (same_there seen (G at + suc p) x.frames (x.written (suc p) (omega (arith, lt)))) in
      is_written (slice_get seen place) x.frames (LineSees (flat_program program) O T B seen (slice_get X place) place) (x.written p (omega (arith, h)))
      (subst Q (sym there) (found_in_step is (end_line G l) (assembled_from G rest) p Q (omega (arith, h)) (λ i o lt. (names i o, (on lt, opens i o))) (x.within, x.last)))

  places_from : (ls : List Line) (at : ℕ) → HasAt L at ls → EachSeen program seen at ls → (p : ℕ) → p < length (assembled_from G ls) → PlaceSees (flat_program program) O T B seen (G at + p)
  places_from [] at h s p lt = absurd (omega (arith, lt))
  places_from (l ∷ ls) at h (one_and x xs) p lt = by (cases_lt p (line_size l)) (λ q less. places_from ls (suc at) (has_tail L at l ls h) xs q less)
    where
      by : (p < line_size l) ⊎ (line_size l ≤ p) → ((q : ℕ) → q < length (assembled_from G ls) → PlaceSees (flat_program program) O T B seen (G (suc at) + q)) → PlaceSees (flat_program program) O T B seen (G at + p)
      by (inl within) later = in_step at l (ls ++ h.rest) h.is x p within
      by (inr behind) later =
          let next = offset_step L at l (ls ++ h.rest) h.is in
          let long = length_step G l ls in
          let same : G (suc at) + (p - line_size l) ≡ G at + p = omega (arith, next, behind) in
          subst (λ n. PlaceSees (flat_program program) O T B seen n) same (later (p - line_size l) (omega (arith, lt, long, behind)))

  -- Bodies, one after the other.

  unit_stands : (b : Body) (at base last : ℕ) → HasAt L at (unit_code b at) → BodyCounts X seen base (G at) last → G (at + body_size b 1) ≤ last → Stands program T seen base at (unit_code b at)
  unit_stands b at base last h all high = record {
    has = h;
    counts = counts_of base (G at) last all (unit_code b at) at h (omega arith) (subst (λ n. G (at + n) ≤ last) (sym (length-unit b at)) high);
  }

  here_at : (at n : ℕ) → Here program T seen n None at n
  here_at at n = record { before = tt; number = refl; within = tt }

  unit_begins : (b : Body) (at n : ℕ) → Stands program T seen n at (unit_code b at) → slice_get seen (G at) ≡ Some n
  unit_begins b at n s = body_begins program T seen n construct.Unit b at 0 (end_place b at 1) (in_call None (end_place b at 1)) n s (here_at at n)

  pub starts_next : (bs : List Body) (at : ℕ) → next_start (map G (starts_from bs at)) (G (spare_from bs at)) ≡ G at
  starts_next [] at = refl
  starts_next (b ∷ bs) at = refl

  abbrev BodiesAt : List ℕ → List Body → ℕ → Type 0
  BodiesAt levels bs at = BodiesCount X seen levels (map G (starts_from bs at)) (G (spare_from bs at))

  first_stands : (n : ℕ) (ns : List ℕ) (b : Body) (bs : List Body) (at : ℕ) → HasAt L at (units_code (b ∷ bs) at) → BodiesAt (n ∷ ns) (b ∷ bs) at → Stands program T seen (suc n) at (unit_code b at)
  first_stands n ns b bs at h counts =
      let next = starts_next bs (at + body_size b 1) in
      unit_stands b at (suc n) _ (has_front L at (unit_code b at) _ h) counts.0 (omega (arith, next))

  rest_at : (b : Body) (bs : List Body) (at : ℕ) → HasAt L at (units_code (b ∷ bs) at) → HasAt L (at + body_size b 1) (units_code bs (at + body_size b 1))
  rest_at b bs at h = has_back L at (body_size b 1) (unit_code b at) _ (length-unit b at) h

  spare_stands : (at : ℕ) → HasAt L at (unit_code no_body at) → BodyCounts X seen 1 (G at) (length X) → Stands program T seen 1 at (unit_code no_body at)
  spare_stands at h counts =
      let long = length-unit no_body at in
      let left = length-drop at L ∙ refl in
      let there = ap length h.is ∙ length-append (unit_code no_body at) h.rest in
      let most = offset_most L (at + body_size no_body 1) (length L) (omega (arith, long, left, there)) in
      let all = length_assembled G L in
      unit_stands no_body at 1 (length X) h counts (omega (arith, most, all))

  -- each body begins with its own frame and those that it sees
  begins_with : (entries all : List Entry) (us : List UnitPlan) (bs : List Body) (at : ℕ) → UnitsScoped program.plan all us bs entries → HasAt L at (units_code bs at) → BodiesAt (map level_of us) bs at → (u : ℕ) → u < length entries → slice_get seen (slice_index_or (map G (starts_from bs at)) u (G (spare_from bs at))) ≡ Some (suc (length (entry_of entries u).outer))
  begins_with [] all us bs at sc h counts u lt = absurd (omega (arith, lt))
  begins_with (e ∷ es) all [] [] at sc h counts u lt = absurd sc
  begins_with (e ∷ es) all [] (b ∷ bs) at sc h counts u lt = absurd sc
  begins_with (e ∷ es) all (x ∷ us) [] at sc h counts u lt = absurd sc
  begins_with (e ∷ es) all (x ∷ us) (b ∷ bs) at sc h counts zero lt =
      unit_begins b at (suc x.level) (first_stands x.level (map level_of us) b bs at h counts) ∙ ap (λ n. Some (suc n)) sc.0.0
  begins_with (e ∷ es) all (x ∷ us) (b ∷ bs) at sc h counts (suc u) lt = begins_with es all us bs (at + body_size b 1) sc.1 (rest_at b bs at h) counts.1 u (omega (arith, lt))

  -- and those of its level, also that which is run for a number that no body has
  pub begins_level : (all entries : List Entry) (us : List UnitPlan) (bs : List Body) (at : ℕ) → UnitsScoped program.plan all us bs entries → HasAt L at (units_code bs at) → BodiesAt (map level_of us) bs at → (u : ℕ) → slice_get seen (slice_index_or (map G (starts_from bs at)) u (G (spare_from bs at))) ≡ Some (suc (slice_index_or us u no_unit).level)
  begins_level all entries [] [] at sc h counts zero = unit_begins no_body at 1 (spare_stands at h counts)
  begins_level all entries [] [] at sc h counts (suc u) = unit_begins no_body at 1 (spare_stands at h counts)
  begins_level all entries [] (b ∷ bs) at sc h counts u = absurd sc
  begins_level all entries (x ∷ us) [] at sc h counts u = absurd sc
  begins_level all [] (x ∷ us) (b ∷ bs) at sc h counts u = absurd sc
  begins_level all (e ∷ es) (x ∷ us) (b ∷ bs) at sc h counts zero = unit_begins b at (suc x.level) (first_stands x.level (map level_of us) b bs at h counts)
  begins_level all (e ∷ es) (x ∷ us) (b ∷ bs) at sc h counts (suc u) = begins_level all es us bs (at + body_size b 1) sc.1 (rest_at b bs at h) counts.1 u

  module _ (entries : List Entry) (calls : (u : ℕ) → u < length entries → slice_get seen (start_at (flat_program program) u) ≡ Some (suc (length (entry_of entries u).outer))) (levels : (u : ℕ) → (unit_of program.plan u).level ≡ length (entry_of entries u).outer) where
    unit_seen : (b : Body) (at n : ℕ) (first : Elaborated) (scope : Scope) (names : List tree.Named) → length scope ≡ n → BodyScoped program.plan entries b first names scope → BodyDeclares b → Stands program T seen (suc n) at (unit_code b at) → EachSeen program seen at (unit_code b at)
    unit_seen b at n first scope names e sc dc st =
        let last = end_place b at 1 in
        let here = here_at at (suc n) in
        let ends : InsideSees program T seen (suc n) (in_call None last) (suc n) = record { exits = tt; back = same_there seen (G last) (suc n) (body_ends program T seen (suc n) construct.Unit b at 0 last (in_call None last) (suc n) st here) } in
        body_sees program seen (suc n) entries calls levels construct.Unit b at 0 last (in_call None last) n first names scope e sc dc st here ends (λ p. tt)

    -- what is run for a number that no body has
    spare_seen : (at : ℕ) → HasAt L at (unit_code no_body at) → BodyCounts X seen 1 (G at) (length X) → EachSeen program seen at (unit_code no_body at)
    spare_seen at h counts = unit_seen no_body at 0 none_yet [] [] refl (tt, refl, tt, tt, tt) (tt, (tt, tt)) (spare_stands at h counts)

    units_seen : (us : List UnitPlan) (bs : List Body) (es : List Entry) (at : ℕ) → UnitsScoped program.plan entries us bs es → BodiesDeclare bs → HasAt L at (units_code bs at) → BodiesAt (map level_of us) bs at → EachSeen program seen at (units_code bs at)
    units_seen [] [] [] at sc dc h counts = spare_seen at h counts
    units_seen [] [] (e ∷ es) at sc dc h counts = absurd sc
    units_seen [] (b ∷ bs) es at sc dc h counts = absurd sc
    units_seen (x ∷ us) [] es at sc dc h counts = absurd sc
    units_seen (x ∷ us) (b ∷ bs) [] at sc dc h counts = absurd sc
    units_seen (x ∷ us) (b ∷ bs) (e ∷ es) at sc dc h counts =
        let st = first_stands x.level (map level_of us) b bs at h counts in
        joined program seen _ _ at (body_size b 1) (length-unit b at)
        (unit_seen b at x.level (all_formals e.formals) e.outer (table program.plan x.region) (sym sc.0.0) sc.0.1 dc.0 st)
        (units_seen us bs es (at + body_size b 1) sc.1 dc.1 (rest_at b bs at h) counts.1)

main_first : (entries : List Entry) → MainEntry entries → (0 < length entries) × ((entry_of entries 0).outer ≡ [])
main_first [] h = absurd h
main_first (e ∷ es) h = (omega arith, ap (λ x. x.outer) h)

-- a unit's level is how many frames it sees besides its own, whether it is there or not
level_is : (plan : Plan) (all : List Entry) (us : List UnitPlan) (bs : List Body) (es : List Entry) → UnitsScoped plan all us bs es → (u : ℕ) → (slice_index_or us u no_unit).level ≡ length (entry_of es u).outer
level_is plan all [] [] [] h zero = refl
level_is plan all [] [] [] h (suc u) = refl
level_is plan all [] [] (e ∷ es) h u = absurd h
level_is plan all [] (b ∷ bs) es h u = absurd h
level_is plan all (x ∷ us) [] es h u = absurd h
level_is plan all (x ∷ us) (b ∷ bs) [] h u = absurd h
level_is plan all (x ∷ us) (b ∷ bs) (e ∷ es) h zero = h.0.0
level_is plan all (x ∷ us) (b ∷ bs) (e ∷ es) h (suc u) = level_is plan all us bs es h.1 u

barriers_open : (plan : Plan) (entries : List Entry) → ((u : ℕ) → (unit_of plan u).level ≡ length (entry_of entries u).outer) → (es : List EntryPlan) (bs : List BooleanExpression) → BarriersScoped plan entries es bs → BarriersSee (map condition_code bs) (map (frames_before plan) es)
barriers_open plan entries levels [] [] h = tt
barriers_open plan entries levels [] (b ∷ bs) h = absurd h
barriers_open plan entries levels (e ∷ es) [] h = absurd h
barriers_open plan entries levels (e ∷ es) (b ∷ bs) h =
    (subst (λ n. AllOpen n (condition_code b)) (sym (levels e.unit)) (condition_open plan (entry_of entries e.unit).outer b h.0), barriers_open plan entries levels es bs h.1)

pub code_is_seen : SeenTabledLaw
code_is_seen program seen scoped declares counts =
    let all = whole (code_of program).lines in
    let calls = begins_with program seen scoped.entries scoped.entries program.plan.units program.bodies 0 scoped.units all counts in
    let levels = level_is program.plan scoped.entries program.plan.units program.bodies scoped.entries scoped.units in
    let first = main_first scoped.entries scoped.main in
    let own = calls 0 first.0 ∙ ap (λ es. Some (suc (length es))) first.1 in
    let each = units_seen program seen scoped.entries calls levels program.plan.units program.bodies scoped.entries 0 scoped.units declares all counts in
    record {
      main = is_written (slice_get seen (start_at (flat_program program) 0)) 1 (λ m. (1 ≤ m) × (m ≤ 1)) own (omega arith, omega arith);
      each = λ p lt.
          let same : offset (code_of program).lines 0 + p ≡ p = let z = offset_zero (code_of program).lines in omega (arith, z) in
          subst (λ n. PlaceSees (flat_program program) (table_of (flat_program program).lines) (task_bodies program) (barrier_frames program) seen n) same (places_from program seen (code_of program).lines 0 all each p lt);
      barriers_see = barriers_open program.plan scoped.entries levels program.plan.entries program.barriers scoped.barriers;
    }
