-- Where the instructions and the ending of each step stand.
use Rattle.std.proofs.Common.{◌≡◌, ℕ, zero, suc, ◌+◌, List, [], ◌∷◌, ◌++◌, length, drop, map, get_or, refl, sym, ap, ◌∙◌, length-append, append_assoc}
use Rattle.std.proofs.lemmas.List.{drop-drop, drop_at}
use Rattle.std.proofs.Math.Seq.{drop-nil}
use Rattle.aud_layout.specs.Layout.{Line, no_line}
use Rattle.aud_code.specs.Instruction.{Instruction}
use Rattle.aud_code.specs.Flat.{Ends, EndLine, FlatLine, instructs, end, no_end, instructions_from, end_from}
use Rattle.aud_layout.specs.Assembly.{instructions_by, line_size, offset, end_line, step_lines, assembled_from}
use Rattle.aud_meaning.specs.declared.state.Construct.TheVariants as construct

-- a step's lines, whatever stands behind them
pub its_instructions : (is : List Instruction) (l : EndLine) (rest : List FlatLine) → instructions_from ((map instructs is ++ end l ∷ []) ++ rest) ≡ is
its_instructions [] l rest = refl
its_instructions (i ∷ is) l rest = ap (λ js. i ∷ js) (its_instructions is l rest)

its_end : (is : List Instruction) (l : EndLine) (rest : List FlatLine) (n : ℕ) → end_from ((map instructs is ++ end l ∷ []) ++ rest) n ≡ l
its_end [] l rest n = refl
its_end (i ∷ is) l rest n = its_end is l rest n

pub its_length : (is : List Instruction) (l : EndLine) → length (map instructs is ++ end l ∷ []) ≡ suc (length is)
its_length [] l = refl
its_length (i ∷ is) l = ap suc (its_length is l)

get_none : {A : Type 0} (n : ℕ) (d : A) → get_or [] n d ≡ d
get_none zero d = refl
get_none (suc n) d = refl

pub offset_zero : (lines : List Line) → offset lines 0 ≡ 0
offset_zero [] = refl
offset_zero (l ∷ ls) = refl

module _ (f : ℕ → ℕ) where
  -- what stands from the step of a number on
  pub from_step : (l : Line) (ls : List Line) (n : ℕ) → drop (line_size l + n) (step_lines f l ++ assembled_from f ls) ≡ drop n (assembled_from f ls)
  from_step l ls n =
      sym (drop-drop n (line_size l) (step_lines f l ++ assembled_from f ls)) ∙ ap (drop n) (drop_at (step_lines f l) (assembled_from f ls) (line_size l) (its_length (instructions_by l.what) (end_line f l)))

  pub instructions_at_step : (lines : List Line) (n k : ℕ) → instructions_from (drop (offset lines n) (assembled_from f lines)) ≡ instructions_by (get_or lines n (no_line k)).what
  instructions_at_step [] n k = ap instructions_from (drop-nil n) ∙ ap (λ (l : Line). instructions_by l.what) (sym (get_none n (no_line k)))
  instructions_at_step (l ∷ ls) zero k = its_instructions (instructions_by l.what) (end_line f l) (assembled_from f ls)
  instructions_at_step (l ∷ ls) (suc n) k = ap instructions_from (from_step l ls (offset ls n)) ∙ instructions_at_step ls n k

  pub end_at_step : (lines : List Line) (n k : ℕ) → f 0 ≡ 0 → end_from (drop (offset lines n) (assembled_from f lines)) (f k) ≡ end_line f (get_or lines n (no_line k))
  end_at_step [] n k z =
      ap (λ ls. end_from ls (f k)) (drop-nil n) ∙ ap (λ m. record (no_end (f k)) { last = Ends construct.Unit m }) (sym z) ∙ ap (end_line f) (sym (get_none n (no_line k)))
  end_at_step (l ∷ ls) zero k z = its_end (instructions_by l.what) (end_line f l) (assembled_from f ls) (f k)
  end_at_step (l ∷ ls) (suc n) k z = ap (λ ms. end_from ms (f k)) (from_step l ls (offset ls n)) ∙ end_at_step ls n k z

  pub length_assembled : (lines : List Line) → length (assembled_from f lines) ≡ offset lines (length lines)
  length_assembled [] = refl
  length_assembled (l ∷ ls) =
      length-append (step_lines f l) (assembled_from f ls) ∙ ap (λ n. n + length (assembled_from f ls)) (its_length (instructions_by l.what) (end_line f l)) ∙ ap (λ n. line_size l + n) (length_assembled ls)

  pub assembled_append : (xs ys : List Line) → assembled_from f (xs ++ ys) ≡ assembled_from f xs ++ assembled_from f ys
  assembled_append [] ys = refl
  assembled_append (x ∷ xs) ys = ap (λ ls. step_lines f x ++ ls) (assembled_append xs ys) ∙ sym (append_assoc (step_lines f x) (assembled_from f xs) (assembled_from f ys))
