use Rattle.std.proofs.Common.{ℕ, ◌≤◌, length}
use Rattle.aud_grammar.specs.Grammar as g
use Rattle.aud_cursor.specs.Ties.Items.{context_item}
use Rattle.aud_cursor.proofs.Passing.{Turns}
use Rattle.aud_cursor.proofs.clauses.context.Given as goal

abbrev pub invariant-turns : goal.invariant-turns
invariant-turns l = record { turns : (room : ℕ) → Turns context_item g.Clause room l.start.tokens.now l.all.items l.rest.tokens.now; shorter : length l.rest.tokens.now ≤ length l.start.tokens.now }

abbrev pub decreases-turns : goal.decreases-turns
decreases-turns l = length l.rest.tokens.now
