-- What the parser promises.
use Rattle.std.specs.Prelude.{◌≡◌, Result, Ok, Err}
use Rattle.aud_grammar.specs.Parsed.{Fault, wrong_at, deep_at}
use Rattle.aud_parse.specs.declared.parser.SyntaxFault.{SyntaxFault}
use Rattle.aud_parse.specs.declared.parser.SyntaxFault.TheVariants as fault

-- the answer, seen as plain data; where memory is refused, nothing is said
abbrev pub Gives : {X Y : Type 0} → (X → Y) → Result Y Fault → Result X SyntaxFault → Type 0
Gives f p (Ok tree) = p ≡ Ok (f tree)
Gives f p (Err fault.Memory) = Unit {0}
Gives f p (Err (fault.Syntax i)) = p ≡ Err (wrong_at i)
Gives f p (Err (fault.TooDeep i)) = p ≡ Err (deep_at i)
