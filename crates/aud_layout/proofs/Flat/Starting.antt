-- Wherever a step begins, it finds its operands.
use Rattle.std.proofs.Common.{◌≡◌, ℕ, zero, suc, List, [], ◌∷◌, ◌++◌, drop, map, slice_get, Option, Some, None, refl, sym, ap, subst}
use Rattle.std.proofs.Math.Seq.{drop-nil}
use Rattle.aud_layout.specs.Layout.{What, does, continues, guards, ends, leaves, Line}
use Rattle.aud_code.specs.Instruction.{Instruction}
use Rattle.aud_code.specs.Flat.{EndLine, FlatLine, instructs, end, instructions_from, end_from}
use Rattle.aud_layout.specs.Assembly.{instructions_by, last_by, end_line, assembled_from}
use Rattle.aud_code.specs.Sound.{no_counts, AreFine, LastFine, IsStart}
use Rattle.aud_layout.proofs.Flat.Made.{fine_statement}

-- the step that begins with the first of these lines
abbrev pub BeginsFine : List FlatLine → Type 0
BeginsFine ls = (m : ℕ) → AreFine (LastFine (end_from ls m).last) (instructions_from ls) 0 no_counts

abbrev IsEnd : Option FlatLine → Type 0
IsEnd None = ⊥
IsEnd (Some (instructs i)) = ⊥
IsEnd (Some (end l)) = Unit {0}

module _ (f : ℕ → ℕ) where
  fine_by : (w : What) → AreFine (LastFine (last_by f w)) (instructions_by w) 0 no_counts
  fine_by (does a) = fine_statement a
  fine_by (continues x) = tt
  fine_by (guards gs) = tt
  fine_by (ends c next) = tt
  fine_by (leaves n next) = tt

  -- one line of the layout
  begins_line : (is : List Instruction) (e : EndLine) (rest : List FlatLine) → AreFine (LastFine e.last) is 0 no_counts → BeginsFine ((map instructs is ++ end e ∷ []) ++ rest)
  begins_line is e rest h m =
      subst (λ js. AreFine (LastFine (end_from ((map instructs is ++ end e ∷ []) ++ rest) m).last) js 0 no_counts) (sym (instructions is))
      (subst (λ (l : EndLine). AreFine (LastFine l.last) is 0 no_counts) (sym (ending is)) h)
    where
      instructions : (js : List Instruction) → instructions_from ((map instructs js ++ end e ∷ []) ++ rest) ≡ js
      instructions [] = refl
      instructions (i ∷ js) = ap (λ ks. i ∷ ks) (instructions js)

      ending : (js : List Instruction) → end_from ((map instructs js ++ end e ∷ []) ++ rest) m ≡ e
      ending [] = refl
      ending (i ∷ js) = ending js

  -- behind an ending among them
  behind : (is : List Instruction) (e : EndLine) (rest : List FlatLine) (k : ℕ) → ((n : ℕ) → IsStart rest n → BeginsFine (drop n rest)) → (l : EndLine) → slice_get ((map instructs is ++ end e ∷ []) ++ rest) k ≡ Some (end l) → BeginsFine (drop (suc k) ((map instructs is ++ end e ∷ []) ++ rest))
  behind [] e rest zero all l h = all 0 tt
  behind [] e rest (suc k) all l h = all (suc k) (l, h)
  behind (i ∷ is) e rest zero all l h = absurd (subst IsEnd (sym h) tt)
  behind (i ∷ is) e rest (suc k) all l h = behind is e rest k all l h

  pub starts_fine : (lines : List Line) (n : ℕ) → IsStart (assembled_from f lines) n → BeginsFine (drop n (assembled_from f lines))
  starts_fine [] n h = subst BeginsFine (sym (drop-nil n)) (λ m. tt)
  starts_fine (l ∷ ls) zero h = begins_line (instructions_by l.what) (end_line f l) (assembled_from f ls) (fine_by l.what)
  starts_fine (l ∷ ls) (suc n) h = behind (instructions_by l.what) (end_line f l) (assembled_from f ls) n (λ m k. starts_fine ls m k) h.0 h.1
