-- The table of code in memory, from a place on.
use Rattle.std.proofs.Common.{◌≡◌, ℕ, ◌+◌, ◌-◌, ◌<◌, List, ◌∷◌, length, take, drop, map, Some, sym, ap, subst, ◌∙◌, arith}
use Rattle.std.specs.Prelude.{slice_get}
use Rattle.std.proofs.lemmas.List.{drop-drop, drop-map, take_rest, length-map}
use Rattle.aud_code.specs.declared.counts.Counts.{Counts as InMemory}
use Rattle.aud_code.specs.declared.instruction.Instruction.{Instruction}
use Rattle.aud_code.specs.declared.line.EndLine.{EndLine}
use Rattle.aud_code.specs.declared.line.Line.{Line}
use Rattle.aud_code.specs.declared.line.Line.TheVariants as line
use Rattle.aud_code.specs.Flat.{instructions_from}
use Rattle.aud_code.specs.Tabled.{counts, FirstTabled, Tabled}
use Rattle.aud_code.specs.Verified.{Before}
use Rattle.aud_code.specs.View.{plain_line}
use Rattle.aud_code.proofs.Plainly.{first_plain}
use Rattle.aud_code.proofs.Standing.{lines_left}
use Rattle.aud_code.proofs.Tabling.{one_tabled}

table_left : (ts : List InMemory) (p : ℕ) → map counts (take (length ts - p) (drop p ts)) ≡ drop p (map counts ts)
table_left ts p = ap (map counts) (take_rest ts p) ∙ sym (drop-map counts p ts)

module _ (xs : List Line) (p q n : ℕ) (next : p + 1 ≡ q) (behind : Before (drop q (map plain_line xs)) n) where
  pub before_first : Before (drop 1 (map plain_line (take (length xs - p) (drop p xs)))) n
  before_first =
      let there = drop-drop 1 p (map plain_line xs) ∙ ap (λ k. drop k (map plain_line xs)) next in
      subst (λ ls. Before (drop 1 ls) n) (sym (lines_left xs p)) (subst (λ ls. Before ls n) (sym there) behind)

  pub one_before : (i : Instruction) → slice_get xs p ≡ Some (line.Instruction i) → Before (drop p (map plain_line xs)) (n + 1)
  one_before i is =
      let first = first_plain xs p (line.Instruction i) is ∙ ap (λ k. plain_line (line.Instruction i) ∷ drop k (map plain_line xs)) next in
      let long = ap (λ ls. length (instructions_from ls)) first in
      omega (arith, long, behind)

pub none_before : (xs : List Line) (p : ℕ) (l : EndLine) → slice_get xs p ≡ Some (line.End l) → Before (drop p (map plain_line xs)) 0
none_before xs p l is = ap (λ ls. length (instructions_from ls)) (first_plain xs p (line.End l) is)

module _ (xs : List Line) (ts : List InMemory) (p : ℕ) where
  abbrev First : Type 0
  First = FirstTabled (map plain_line (take (length xs - p) (drop p xs))) (map counts (take (length ts - p) (drop p ts)))

  pub first_there : FirstTabled (drop p (map plain_line xs)) (drop p (map counts ts)) → First
  first_there h = subst (λ ls. FirstTabled ls (map counts (take (length ts - p) (drop p ts)))) (sym (lines_left xs p)) (subst (λ cs. FirstTabled (drop p (map plain_line xs)) cs) (sym (table_left ts p)) h)

  first_here : First → FirstTabled (drop p (map plain_line xs)) (drop p (map counts ts))
  first_here h = subst (λ ls. FirstTabled ls (drop p (map counts ts))) (lines_left xs p) (subst (λ cs. FirstTabled (map plain_line (take (length xs - p) (drop p xs))) cs) (table_left ts p) h)

  pub one_more : (q : ℕ) → p + 1 ≡ q → length xs ≡ length ts → p < length xs → First → Tabled (drop q (map plain_line xs)) (drop q (map counts ts)) → Tabled (drop p (map plain_line xs)) (drop p (map counts ts))
  one_more q next same within first more = one_tabled (map plain_line xs) (map counts ts) p q (sym next) (simp length-map same) (simp length-map within) (first_here first) more
