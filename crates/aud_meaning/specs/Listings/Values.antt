-- What all listings share: words one after the other, names of exceptions, and the values of variables.
use Rattle.std.specs.Prelude.{ℕ, zero, suc, ℤ, List, [], ◌∷◌, ◌++◌, take, drop, Bool, true, false, if◌then◌else◌, slice_index_or}
use Rattle.std.specs.Fmt.{decimal}
use Rattle.aud_text.specs.Raise.{raise_name}
use Rattle.aud_typed.specs.declared.program.Exception.{Exception}
use Rattle.aud_typed.specs.declared.program.Exception.TheVariants.{Predefined, Declared}
use Rattle.aud_typed.specs.Tree.{Plan, Named, Shown, as_whole, as_truth, as_wholes, as_truths, hidden}
use Rattle.aud_meaning.specs.Configuration.{Frame}
use Rattle.aud_meaning.specs.Evaluation.{truth_of, image_of_truth}
use Rattle.aud_meaning.specs.Parts.{number_name}

abbrev pub spaced : List ℕ → List ℕ → List ℕ
spaced a b = a ++ 32 ∷ b

abbrev pub exception_name : Plan → Exception → List ℕ
exception_name plan (Predefined r) = raise_name r
exception_name plan (Declared n) = slice_index_or plan.exceptions n []

-- numbers that count from 0, shown from 1, each behind a space
abbrev pub numbered : List ℕ → List ℕ
numbered [] = []
numbered (n ∷ ns) = 32 ∷ (decimal (suc n) ++ numbered ns)

abbrev pub shown_one : Shown → ℤ → List ℕ
shown_one as_whole z = number_name z
shown_one as_truth z = image_of_truth (truth_of z)
shown_one (as_wholes n) z = number_name z
shown_one (as_truths n) z = image_of_truth (truth_of z)
shown_one (hidden n) z = []

abbrev pub cells_of : Shown → ℕ
cells_of as_whole = 1
cells_of as_truth = 1
cells_of (as_wholes n) = n
cells_of (as_truths n) = n
cells_of (hidden n) = n

abbrev pub is_hidden : Shown → Bool
is_hidden (hidden n) = true
is_hidden _ = false

abbrev pub values : Shown → List ℤ → List ℕ
values shown [] = []
values shown (z ∷ zs) = 32 ∷ (shown_one shown z ++ values shown zs)

-- the lines of the first variables of a table
abbrev pub frame_lines : ℕ → ℕ → List Named → Frame → List (List ℕ)
frame_lines depth zero names cells = []
frame_lines depth (suc n) [] cells = []
frame_lines depth (suc n) (v ∷ vs) cells =
    let rest = frame_lines depth n vs (drop (cells_of v.shown) cells) in
    if is_hidden v.shown then rest
    else (decimal depth ++ 32 ∷ (v.name ++ 32 ∷ 61 ∷ values v.shown (take (cells_of v.shown) cells))) ∷ rest
