-- The places of a program's lines are within it, and each is moved to where a step begins.
use Rattle.std.proofs.Common.{◌≡◌, ℕ, zero, suc, ◌+◌, ◌≤◌, List, [], ◌∷◌, ◌++◌, length, map, slice_get, Some, None, refl, subst, arith, length-append}
use Rattle.aud_typed.specs.Tree.{Body, Program}
use Rattle.aud_meaning.specs.declared.state.Construct.TheVariants as construct
use Rattle.aud_meaning.specs.Items.{no_body}
use Rattle.aud_layout.specs.Layout.{one_line, Line, in_call, body_size, end_place, unit_code, units_code, code_of}
use Rattle.aud_layout.proofs.Standing.Places.{length-unit}
use Rattle.aud_code.specs.Instruction.{Instruction}
use Rattle.aud_code.specs.Flat.{EndLine, FlatLine, instructs, end}
use Rattle.aud_layout.specs.Assembly.{instructions_by, offset, end_line, assembled_from}
use Rattle.aud_code.specs.Sound.{IsStart}
use Rattle.aud_layout.proofs.Flat.Within.{LinesIn, both, call_in, body_in}
use Rattle.aud_layout.proofs.Standing.Sizes.{last_is}

module _ (T : ℕ) where
  unit_in : (b : Body) (at : ℕ) → at + body_size b 1 ≤ T → LinesIn T (unit_code b at)
  unit_in b at h =
      let fits = last_is one_line b at 1 in
      let last : end_place b at 1 ≤ T = omega (arith, h, fits) in
      body_in T construct.Unit b at 0 (end_place b at 1) (in_call None (end_place b at 1)) h (omega arith) last (call_in T None (end_place b at 1) last)

  units_in : (bs : List Body) (at : ℕ) → at + length (units_code bs at) ≤ T → LinesIn T (units_code bs at)
  units_in [] at h = let n = length-unit no_body at in unit_in no_body at (omega (arith, h, n))
  units_in (b ∷ bs) at h =
      let next = at + body_size b 1 in
      let n = length-unit b at in
      let m = length-append (unit_code b at) (units_code bs next) in
      both T (unit_in b at (omega (arith, h, n, m))) (units_in bs next (omega (arith, h, n, m)))

-- each place in the lines of a program is at most their number
pub places_within : (program : Program) → LinesIn (length (code_of program).lines) (code_of program).lines
places_within program = units_in (length (units_code program.bodies 0)) program.bodies 0 (omega arith)

abbrev EndAt : List FlatLine → ℕ → Type 0
EndAt ls k = (l : EndLine) × (slice_get ls k ≡ Some (end l))

-- behind one line of the layout
got : (is : List Instruction) (e : EndLine) (rest : List FlatLine) (m : ℕ) → IsStart rest m → EndAt ((map instructs is ++ end e ∷ []) ++ rest) (length is + m)
got [] e rest zero h = (e, refl)
got [] e rest (suc j) h =
    let same : suc j ≡ 0 + suc j = omega arith in
    let found : EndAt (end e ∷ rest) (suc j) = h in
    subst (λ k. EndAt (end e ∷ rest) k) same found
got (i ∷ is) e rest m h =
    let more = (map instructs is ++ end e ∷ []) ++ rest in
    let same : suc (length is + m) ≡ suc (length is) + m = omega arith in
    let found : EndAt (instructs i ∷ more) (suc (length is + m)) = got is e rest m h in
    subst (λ k. EndAt (instructs i ∷ more) k) same found

-- so a place of the layout is moved to where a step begins
pub begins : (f : ℕ → ℕ) (lines : List Line) (n : ℕ) → n ≤ length lines → IsStart (assembled_from f lines) (offset lines n)
begins f [] zero h = tt
begins f [] (suc n) h = absurd (omega (arith, h))
begins f (l ∷ ls) zero h = tt
begins f (l ∷ ls) (suc n) h =
    let is = instructions_by l.what in
    let e = end_line f l in
    let same : suc (length is + offset ls n) ≡ suc (length is) + offset ls n = omega arith in
    let found : IsStart ((map instructs is ++ end e ∷ []) ++ assembled_from f ls) (suc (length is + offset ls n)) = got is e (assembled_from f ls) (offset ls n) (begins f ls n (omega (arith, h))) in
    subst (λ k. IsStart ((map instructs is ++ end e ∷ []) ++ assembled_from f ls) k) same found
