-- The program that a source text is, or why it is none: the first that holds of too long, lexical fault, syntax fault, and the
-- least broken rule.
use Rattle.std.specs.Prelude.{ℕ, suc, List, Option, Some, None, Result, Ok, Err, length, nat_lt, if◌then◌else◌, slice_get}
use Rattle.aud_text.specs.declared.place.Pos.{Pos}
use Rattle.aud_text.specs.declared.refusal.Refusal.TheVariants as refusal
use Rattle.aud_text.specs.declared.limits.Limits.{Limits}
use Rattle.aud_lex.specs.Element.{Element}
use Rattle.aud_lex.specs.Lexed.{lexed}
use Rattle.aud_grammar.specs.Parsed as syntax
use Rattle.aud_syntax.specs.Plain as plain
use Rattle.aud_typed.specs.Tree as tree
use Rattle.aud_fault.specs.declared.fault.Fault.{Fault}
use Rattle.aud_check.specs.Checked.{checked}
use Rattle.aud_bench.specs.declared.request.Answer.{Answer}
use Rattle.aud_bench.specs.declared.request.Answer.TheVariants.{Refused, RefusedAt}
use Rattle.aud_text.specs.Lines.{line_count}

-- where a token of this index stands; behind the last one, the line after the last line
abbrev pub place_by : Option Element → List ℕ → Pos
place_by (Some e) source = e.at
place_by None source = record { line = suc (line_count source); col = 1 }

abbrev pub place_of : List ℕ → List Element → ℕ → Pos
place_of source tokens index = place_by (slice_get tokens index) source

abbrev pub after_checking : Result tree.Program Fault → Result tree.Program Answer
after_checking (Ok program) = Ok program
after_checking (Err fault) = Err (RefusedAt fault.refusal fault.at)

abbrev pub after_parsing : List ℕ → List Element → Result plain.Unit syntax.Fault → Result tree.Program Answer
after_parsing source tokens (Ok read) = after_checking (checked read)
after_parsing source tokens (Err (syntax.wrong_at index)) = Err (RefusedAt refusal.Syntax (place_of source tokens index))
after_parsing source tokens (Err (syntax.deep_at index)) = Err (RefusedAt refusal.TooDeep (place_of source tokens index))

abbrev pub after_lexing : List ℕ → Result (List Element) Pos → Result tree.Program Answer
after_lexing source (Ok tokens) = after_parsing source tokens (syntax.parsed tokens)
after_lexing source (Err at) = Err (RefusedAt refusal.Lexical at)

abbrev pub program_of : Limits → List ℕ → Result tree.Program Answer
program_of limits source =
    if nat_lt limits.source (length source) then Err (Refused refusal.SourceTooLong)
    else after_lexing source (lexed source)
