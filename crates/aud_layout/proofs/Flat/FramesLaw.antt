-- The code of every program fits its frames.
use Rattle.std.proofs.Common.{◌≡◌, ℕ, zero, suc, ◌+◌, List, [], ◌∷◌, ◌++◌, length, drop, map, slice_get, Some, None, refl, sym, ap, subst, arith, append-nil}
use Rattle.aud_typed.specs.Tree.{Body, Program}
use Rattle.aud_meaning.specs.declared.state.Construct.TheVariants as construct
use Rattle.aud_meaning.specs.Items.{no_body}
use Rattle.aud_code.specs.Instruction.{Instruction}
use Rattle.aud_code.specs.Flat.{EndLine, FlatLine, instructs, end}
use Rattle.aud_code.specs.Sound.{IsStart}
use Rattle.aud_code.specs.Frames.{At, EachAt, FitsBy, StepFits}
use Rattle.aud_layout.specs.Layout.{Line, in_call, body_size, end_place, unit_code, units_code, starts_from, spare_from, code_of}
use Rattle.aud_layout.specs.Assembly.{instructions_by, offset, end_line, assembled_from, flat_program}
use Rattle.aud_layout.specs.Shows.{HasAt}
use Rattle.aud_layout.proofs.Standing.Places.{length-unit}
use Rattle.aud_layout.proofs.Flat.Frames.{found_at, found_none, LineFits, EachFits, one_and, split, EndFits}
use Rattle.aud_layout.proofs.Flat.FramesWays.{body_begins, call_fits}
use Rattle.aud_layout.proofs.Flat.FramesStatements.{body_fits}

-- Each start is where a step of the layout begins.

module _ (f : ℕ → ℕ) where
  behind_line : (is : List Instruction) (e : EndLine) (rest : List FlatLine) (ls : List Line) (n : ℕ) → ((m : ℕ) → IsStart rest m → (k : ℕ) × (m ≡ offset ls k)) → (l : EndLine) → slice_get ((map instructs is ++ end e ∷ []) ++ rest) n ≡ Some (end l) → (k : ℕ) × (suc n ≡ suc (length is) + offset ls k)
  behind_line [] e rest ls zero all l h = let it = all 0 tt in let same = it.1 in (it.0, omega (arith, same))
  behind_line [] e rest ls (suc n) all l h = let it = all (suc n) (l, h) in let same = it.1 in (it.0, omega (arith, same))
  behind_line (i ∷ is) e rest ls zero all l h = let other : Some (instructs i) ≡ Some (end l) = h in absurd cc
  behind_line (i ∷ is) e rest ls (suc n) all l h = let it = behind_line is e rest ls n all l h in let same = it.1 in (it.0, omega (arith, same))

  is_offset : (lines : List Line) (n : ℕ) → IsStart (assembled_from f lines) n → (k : ℕ) × (n ≡ offset lines k)
  is_offset [] n h = (n, refl)
  is_offset (l ∷ ls) zero h = (0, refl)
  is_offset (l ∷ ls) (suc n) h =
      let it = behind_line (instructions_by l.what) (end_line f l) (assembled_from f ls) ls n (λ m s. is_offset ls m s) h.0 h.1 in
      (suc it.0, it.1)

module _ (lines : List Line) where
  abbrev F : ℕ → ℕ
  F = offset lines

  abbrev X : List FlatLine
  X = assembled_from (offset lines) lines

  abbrev First : ℕ → List Line → Type 0
  First at [] = Unit {0}
  First at (l ∷ ls) = LineFits lines at l

  fits_there : (at : ℕ) (ls : List Line) → EachFits lines at ls → (k : ℕ) (l : Line) (rest : List Line) → drop k ls ≡ l ∷ rest → LineFits lines (at + k) l
  fits_there at [] h zero l rest e = absurd (omega (arith, ap length e))
  fits_there at [] h (suc k) l rest e = absurd (omega (arith, ap length e))
  fits_there at (x ∷ xs) (one_and h hs) zero l rest e =
      let same : at ≡ at + 0 = omega arith in
      subst (λ n. LineFits lines n l) same (subst (First at) e h)
  fits_there at (x ∷ xs) (one_and h hs) (suc k) l rest e =
      let same : suc at + k ≡ at + suc k = omega arith in
      subst (λ n. LineFits lines n l) same (fits_there (suc at) xs hs k l rest e)

  step_fits : EachFits lines 0 lines → (k : ℕ) → StepFits X (F k)
  step_fits all k = from (drop k lines) refl
    where
      from : (ls : List Line) → drop k lines ≡ ls → StepFits X (F k)
      from [] e = subst (λ o. FitsBy X o (F k)) (sym (found_none F lines k e)) tt
      from (l ∷ rest) e =
          let same : 0 + k ≡ k = omega arith in
          let it = subst (λ n. LineFits lines n l) same (fits_there 0 lines all k l rest e) in
          subst (λ o. FitsBy X o (F k)) (sym (found_at F lines k l rest e)) it.is

  -- Bodies, one after the other.

  unit_begins : (b : Body) (at : ℕ) → HasAt lines at (unit_code b at) → At X (F at) None
  unit_begins b at h = body_begins lines construct.Unit b at 0 (end_place b at 1) (in_call None (end_place b at 1)) h

  unit_fits : (b : Body) (at : ℕ) → HasAt lines at (unit_code b at) → EachFits lines at (unit_code b at)
  unit_fits b at h =
      let last = end_place b at 1 in
      let ends : EndFits lines construct.Unit 0 last None = λ m p. record { is = refl } in
      body_fits lines construct.Unit b at 0 last (in_call None last) h (call_fits lines construct.Unit b at 0 last None h (λ n g. g)) ends

  units_fit : (bs : List Body) (at : ℕ) → HasAt lines at (units_code bs at) → EachFits lines at (units_code bs at)
  units_fit [] at h = unit_fits no_body at h
  units_fit (b ∷ bs) at h =
      let it = split lines _ _ at _ (length-unit b at) h in
      it.join (unit_fits b at it.front) (units_fit bs (at + body_size b 1) it.back)

  starts_framed : (bs : List Body) (at : ℕ) → HasAt lines at (units_code bs at) → EachAt X (map F (starts_from bs at)) None × At X (F (spare_from bs at)) None
  starts_framed [] at h = (tt, unit_begins no_body at h)
  starts_framed (b ∷ bs) at h =
      let it = split lines _ _ at _ (length-unit b at) h in
      let rest = starts_framed bs (at + body_size b 1) it.back in
      ((unit_begins b at it.front, rest.0), rest.1)

pub whole : (lines : List Line) → HasAt lines 0 lines
whole lines = record { rest = []; is = sym (append-nil lines) }

-- each step leaves the frames open that are to be open where it leads
pub each_fits : (program : Program) (n : ℕ) → IsStart (flat_program program).lines n → StepFits (flat_program program).lines n
each_fits program n h =
    let lines = (code_of program).lines in
    let it = is_offset (offset lines) lines n h in
    subst (λ m. StepFits (assembled_from (offset lines) lines) m) (sym it.1) (step_fits lines (units_fit lines program.bodies 0 (whole lines)) it.0)

-- bodies begin with no frame of a construct
pub bodies_framed : (program : Program) → EachAt (flat_program program).lines (flat_program program).starts None × At (flat_program program).lines (flat_program program).spare None
bodies_framed program =
    let lines = (code_of program).lines in
    starts_framed lines program.bodies 0 (whole lines)
