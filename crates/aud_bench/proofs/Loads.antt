-- What comes of a source text is never that memory is out.
use Rattle.std.specs.Prelude.{nat_lt, if◌then◌else◌}
use Rattle.std.proofs.Common.{◌≡◌, ℕ, List, length, Result, Ok, Err, Bool, true, false, refl}
use Rattle.aud_text.specs.declared.place.Pos.{Pos}
use Rattle.aud_text.specs.declared.refusal.Refusal.TheVariants as refusal
use Rattle.aud_text.specs.declared.limits.Limits.{Limits}
use Rattle.aud_lex.specs.Element.{Element}
use Rattle.aud_lex.specs.Lexed.{lexed}
use Rattle.aud_grammar.specs.Parsed as syntax
use Rattle.aud_syntax.specs.Plain as plain
use Rattle.aud_typed.specs.Tree as tree
use Rattle.aud_fault.specs.declared.fault.Fault.{Fault}
use Rattle.aud_check.specs.Checked.{checked}
use Rattle.aud_bench.specs.declared.request.Answer.{Answer}
use Rattle.aud_bench.specs.declared.request.Answer.TheVariants.{Refused}
use Rattle.aud_bench.specs.Loading.{after_checking, after_parsing, after_lexing, program_of}
use Rattle.aud_bench.specs.Seen.{tells_memory}

abbrev pub IsOther : Result tree.Program Answer → Type 0
IsOther (Ok program) = Unit {0}
IsOther (Err a) = tells_memory a ≡ false

checking_other : (x : Result tree.Program Fault) → IsOther (after_checking x)
checking_other (Ok program) = tt
checking_other (Err fault) = refl

parsing_other : (source : List ℕ) (tokens : List Element) (x : Result plain.Unit syntax.Fault) → IsOther (after_parsing source tokens x)
parsing_other source tokens (Ok read) = checking_other (checked read)
parsing_other source tokens (Err (syntax.wrong_at index)) = refl
parsing_other source tokens (Err (syntax.deep_at index)) = refl

lexing_other : (source : List ℕ) (x : Result (List Element) Pos) → IsOther (after_lexing source x)
lexing_other source (Ok tokens) = parsing_other source tokens (syntax.parsed tokens)
lexing_other source (Err at) = refl

pub program_other : (limits : Limits) (source : List ℕ) → IsOther (program_of limits source)
program_other limits source = by (nat_lt limits.source (length source)) (lexing_other source (lexed source))
  where
    by : (b : Bool) → IsOther (after_lexing source (lexed source)) → IsOther (if b then Err (Refused refusal.SourceTooLong) else after_lexing source (lexed source))
    by true h = refl
    by false h = h
