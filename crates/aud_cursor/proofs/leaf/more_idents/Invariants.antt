use Rattle.std.proofs.Common.{ℕ, ◌≤◌, length}
use Rattle.aud_grammar.specs.Grammar as g
use Rattle.aud_grammar.specs.Grammar.{Phrase}
use Rattle.aud_grammar.specs.Actions.{an_ident}
use Rattle.aud_cursor.specs.Ties.Parts.{IsBehind}
use Rattle.aud_cursor.proofs.Passing.{Turns}
use Rattle.aud_cursor.proofs.leaf.more_idents.Given as goal

abbrev pub invariant-turns : goal.invariant-turns
invariant-turns l = record {
  turns : (p : Phrase) → IsBehind l.delimiter g.Identifier p → (room : ℕ) → Turns an_ident p room l.start.tokens.now l.all.items l.rest.tokens.now;
  shorter : length l.rest.tokens.now ≤ length l.start.tokens.now;
}

abbrev pub decreases-turns : goal.decreases-turns
decreases-turns l = length l.rest.tokens.now
