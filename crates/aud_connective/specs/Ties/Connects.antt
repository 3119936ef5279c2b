-- Logical operators, and what is read behind them.
use Rattle.std.specs.Prelude.{◌≡◌, ℕ, List, ◌∷◌, true, false, Option, Some, None, Result, Ok, Err, IfOk, IfSome}
use Rattle.aud_syntax.specs.declared.tree.Connective.{Connective}
use Rattle.aud_syntax.specs.declared.tree.Connective.TheVariants as connective
use Rattle.aud_grammar.specs.Grammar as g
use Rattle.aud_grammar.specs.Grammar.{Phrase, Symbol, N, Rep}
use Rattle.aud_grammar.specs.First.{next_in, firsts}
use Rattle.aud_grammar.specs.Actions.{Item, chained}
use Rattle.aud_grammar.specs.Parsed.{Verdict}
use Rattle.aud_grammar.specs.Ties.Outcome.{Out}
use Rattle.aud_cursor.specs.Ties.Reads.{FailsAt, Fewer}
use Rattle.aud_cursor.specs.declared.cursor.Rest.{Rest}
use Rattle.aud_cursor.specs.declared.cursor.Fault.{Fault}

-- a further relation behind this operator (RM 4.4(2))
abbrev pub further : Connective → Phrase
further connective.And = g.MoreAnd
further connective.Or = g.MoreOr
further connective.Xor = g.MoreXor
further connective.AndThen = g.MoreAndThen
further connective.OrElse = g.MoreOrElse

-- no operator comes next; or it is passed, and the relations behind it make a chain
abbrev pub Connecting : Rest → Option (Connective × Rest) → Type 0
Connecting start None = next_in (firsts g.Logic) start.tokens.now ≡ false
Connecting start (Some x) =
    (next_in (firsts g.Logic) start.tokens.now ≡ true) × ((room : ℕ) (k : List Symbol) (ds : List Item) (v : Verdict) → Out (N g.Relation ∷ Rep (further x.0) ∷ k) room x.1.tokens.now ds v →
    Out (N g.Logic ∷ k) room start.tokens.now (chained x.0 ds) v)

-- the operator, if one comes next, and the tokens after it
pub record Connects (start : Rest) (result : Option (Connective × Rest)) : Type 0 where
  pub reads : Connecting start result
  pub shorter : IfSome result (λ x. Fewer x.1 start)

-- the operator is passed, and a relation behind it is one more; or reading one more fails
abbrev pub Reconnecting : Connective → Rest → Result Rest Fault → Type 0
Reconnecting operator start (Ok rest) =
    (room : ℕ) (k : List Symbol) (ds : List Item) (v : Verdict) → Out (N g.Relation ∷ k) room rest.tokens.now ds v → Out (N (further operator) ∷ k) room start.tokens.now ds v
Reconnecting operator start (Err e) = (room : ℕ) → FailsAt (N (further operator)) room start.tokens.now e

-- the tokens after the same operator
pub record Reconnects (operator : Connective) (start : Rest) (result : Result Rest Fault) : Type 0 where
  pub reads : Reconnecting operator start result
  pub shorter : IfOk result (λ rest. Fewer rest start)
