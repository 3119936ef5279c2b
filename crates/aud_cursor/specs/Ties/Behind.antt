-- What is read behind a tree.
use Rattle.std.specs.Prelude.{◌≡◌, ℕ, Result, Ok, Err, IfOk}
use Rattle.aud_lex.specs.declared.token.Kind.{Kind}
use Rattle.aud_grammar.specs.Grammar.{T}
use Rattle.aud_cursor.specs.declared.cursor.Rest.{Rest}
use Rattle.aud_cursor.specs.declared.cursor.Fault.{Fault}
use Rattle.aud_cursor.specs.Ties.Reads.{Passes, FailsAt, Fewer}

-- the word is passed, with the tree as it was, or reading fails
abbrev pub ComesWith : {X : Type 0} → Kind → X → Rest → Result (X × Rest) Fault → Type 0
ComesWith c x start (Ok p) = (p.0 ≡ x) × ((room : ℕ) → Passes (T c) room start.tokens.now (λ ds. ds) room p.1.tokens.now)
ComesWith c x start (Err e) = (room : ℕ) → FailsAt (T c) room start.tokens.now e

-- the tree, and the tokens after the word
pub record Ends {X : Type 0} (c : Kind) (x : X) (start : Rest) (result : Result (X × Rest) Fault) : Type 0 where
  pub reads : ComesWith c x start result
  pub shorter : IfOk result (λ p. Fewer p.1 start)

-- what is read behind the first tree, with that tree
abbrev pub both : {X Y : Type 0} → X → Result (Y × Rest) Fault → Result ((X × Y) × Rest) Fault
both x (Ok p) = Ok ((x, p.0), p.1)
both x (Err e) = Err e
