use Rattle.std.proofs.Common.{ℕ, List, ◌≤◌, length}
use Rattle.aud_lex.specs.Element.{Element}
use Rattle.aud_lex.specs.declared.token.Kind.TheVariants as kind
use Rattle.aud_grammar.specs.Grammar as g
use Rattle.aud_grammar.specs.Grammar.{T}
use Rattle.aud_parse.specs.Ties.Items.{formal_item}
use Rattle.aud_cursor.specs.Ties.Reads.{Passes}
use Rattle.aud_cursor.proofs.Passing.{Heads}
use Rattle.aud_parse.proofs.formals.in_formals.Given as goal

abbrev pub invariant-turns : goal.invariant-turns
invariant-turns l = record {
  -- what stands behind the parenthesis that opens
  inside : List Element;
  opened : (room : ℕ) → Passes (T kind.LeftParenthesis) room l.start.tokens.now (λ ds. ds) room inside;
  turns : (room : ℕ) → Heads formal_item g.Formal g.MoreFormals room inside l.all.items l.rest.tokens.now;
  shorter : length l.rest.tokens.now ≤ length l.start.tokens.now;
}

abbrev pub decreases-turns : goal.decreases-turns
decreases-turns l = length l.rest.tokens.now
