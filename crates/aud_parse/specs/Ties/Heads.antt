-- What is read of an operation's body in front of its declarations.
use Rattle.std.specs.Prelude.{ℕ, List, ◌∷◌, map, Result, Ok, Err, IfOk, Box}
use Rattle.std.specs.Global.{Global}
use Rattle.aud_syntax.specs.Ties.View.{plain_formal, made_operation_body}
use Rattle.aud_grammar.specs.Grammar as g
use Rattle.aud_grammar.specs.Grammar.{Phrase, Symbol, N, Opt}
use Rattle.aud_grammar.specs.Actions.{Item, an_operation_body, the_declarations, the_body, top, pop}
use Rattle.aud_grammar.specs.Parsed.{Verdict}
use Rattle.aud_grammar.specs.Ties.Outcome.{Out}
use Rattle.aud_cursor.specs.Ties.Reads.{FailsAt, Fewer}
use Rattle.aud_cursor.specs.declared.cursor.Rest.{Rest}
use Rattle.aud_cursor.specs.declared.cursor.Fault.{Fault}
use Rattle.aud_parse.specs.declared.operation_head.OperationHead.{OperationHead}

-- the body with this head, of the declarations and the statements behind it
abbrev pub operation_made : OperationHead → List Item → List Item
operation_made h st = an_operation_body (made_operation_body h.kind h.at h.name (map plain_formal h.formals.items) (the_declarations (top st)) (the_body (top (pop st)))) ∷ pop (pop st)

-- the head is read, and the declarations and the statements behind it make the body; or reading that fails
abbrev pub HeadComes : Phrase → ℕ → Rest → Result (Box OperationHead Global × Rest) Fault → Type 0
HeadComes p room start (Ok x) =
    (k : List Symbol) (ds : List Item) (v : Verdict) → Out (Opt g.Declarations ∷ N g.Body ∷ k) room x.1.tokens.now ds v → Out (N p ∷ k) room start.tokens.now (operation_made x.0.value ds) v
HeadComes p room start (Err e) = FailsAt (N p) room start.tokens.now e

-- the head, and the tokens after it
pub record ReadsHead (p : Phrase) (room : ℕ) (start : Rest) (result : Result (Box OperationHead Global × Rest) Fault) : Type 0 where
  pub reads : HeadComes p room start result
  pub shorter : IfOk result (λ x. Fewer x.1 start)
