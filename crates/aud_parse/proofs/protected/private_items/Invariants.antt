use Rattle.std.proofs.Common.{◌≤◌, length}
use Rattle.aud_grammar.specs.Grammar as g
use Rattle.aud_parse.specs.Ties.Items.{private_item}
use Rattle.aud_cursor.proofs.Passing.{Turns}
use Rattle.aud_parse.proofs.protected.private_items.Given as goal

abbrev pub invariant-turns : goal.invariant-turns
invariant-turns l = record { turns : Turns private_item g.PrivateItem l.room l.start.tokens.now l.all.items l.rest.tokens.now; shorter : length l.rest.tokens.now ≤ length l.start.tokens.now }

abbrev pub decreases-turns : goal.decreases-turns
decreases-turns l = length l.rest.tokens.now
