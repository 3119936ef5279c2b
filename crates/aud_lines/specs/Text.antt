-- The text of answers.
use Rattle.std.specs.Prelude.{ℕ, ◌+◌, List, [], ◌∷◌, ◌++◌, length, Option, Some, None, Bool, true, false, ◌==◌, if◌then◌else◌, codes, count_by}
use Rattle.std.specs.Fmt.{decimal}
use Rattle.aud_text.specs.declared.place.Pos.{Pos}
use Rattle.aud_text.specs.declared.refusal.Refusal.{Refusal}
use Rattle.aud_text.specs.Refusal.{number, words}
use Rattle.aud_text.specs.Raise.{raise_name}
use Rattle.aud_meaning.specs.Listings.{state_words}
use Rattle.aud_bench.specs.Listings.{Lines}
use Rattle.aud_bench.specs.declared.request.Raised.{Raised}
use Rattle.aud_bench.specs.declared.request.Raised.TheVariants.{Predefined, Declared}
use Rattle.aud_bench.specs.declared.request.Report.{Report}
use Rattle.aud_bench.specs.declared.request.Answer.{Answer}
use Rattle.aud_bench.specs.declared.request.Answer.TheVariants as answer

abbrev pub line_end : List ℕ
line_end = 10 ∷ []

-- the head of an answer of n lines
abbrev pub head : ℕ → List ℕ
head n = codes "+ " ++ decimal n ++ line_end

abbrev pub loaded_text : List ℕ → List ℕ
loaded_text name = head 1 ++ codes "loaded " ++ name ++ line_end

abbrev pub ran_line : Report → List ℕ
ran_line r = codes "ran " ++ decimal r.steps ++ codes " " ++ state_words r.state ++ line_end

-- the name of an exception
abbrev pub raised_name : Raised → List ℕ
raised_name (Predefined raise) = raise_name raise
raised_name (Declared name) = name

abbrev pub report_text : Report → Option Raised → List ℕ
report_text r None = head 1 ++ ran_line r
report_text r (Some raised) = head 2 ++ ran_line r ++ codes "main raised " ++ raised_name raised ++ line_end

abbrev pub choices_text : ℕ → List ℕ
choices_text waiting = head 1 ++ codes "choices " ++ decimal waiting ++ line_end

abbrev pub clock_text : ℕ → List ℕ
clock_text milliseconds = head 1 ++ codes "clock " ++ decimal milliseconds ++ line_end

abbrev pub listed_text : Lines → List ℕ
listed_text lines = head lines.count ++ lines.text

-- whether the text goes on behind its last line feed
abbrev pub is_open : List ℕ → Bool
is_open [] = false
is_open (byte ∷ []) = if byte == 10 then false else true
is_open (byte ∷ next ∷ bytes) = is_open (next ∷ bytes)

-- the lines of an output: it is cut at line feeds, with no empty last line
abbrev pub output_lines : List ℕ → ℕ
output_lines bytes = count_by (λ byte. byte == 10) bytes + (if is_open bytes then 1 else 0)

abbrev pub output_text : List ℕ → List ℕ
output_text bytes =
    head (output_lines bytes + 1) ++ codes "bytes " ++ decimal (length bytes) ++ line_end ++ bytes ++ (if is_open bytes then line_end else [])

abbrev pub refusal : Refusal → List ℕ
refusal why = codes "- E" ++ decimal (number why) ++ codes " "

abbrev pub refused_text : Refusal → List ℕ
refused_text why = refusal why ++ words why ++ line_end

-- with the place where the fault stands
abbrev pub refused_at_text : Refusal → Pos → List ℕ
refused_at_text why at = refusal why ++ decimal at.line ++ codes ":" ++ decimal at.col ++ codes " " ++ words why ++ line_end

abbrev pub answer_text : Answer → List ℕ
answer_text (answer.Loaded name) = loaded_text name
answer_text (answer.Ran r) = report_text r r.raised
answer_text (answer.Choices waiting) = choices_text waiting
answer_text (answer.Clock milliseconds) = clock_text milliseconds
answer_text (answer.Listed lines) = listed_text lines
answer_text (answer.Output bytes) = output_text bytes
answer_text answer.Done = head 0
answer_text (answer.Refused why) = refused_text why
answer_text (answer.RefusedAt why at) = refused_at_text why at

-- the texts of the answers in order
abbrev pub text_from : List Answer → List ℕ
text_from [] = []
text_from (a ∷ answers) = answer_text a ++ text_from answers

unfoldable pub text : List Answer → List ℕ
text answers = text_from answers
