use Rattle.std.proofs.Common.{◌≤◌, length}
use Rattle.aud_grammar.specs.Grammar as g
use Rattle.aud_parse.specs.Ties.Items.{task_name_item}
use Rattle.aud_cursor.proofs.Passing.{Turns}
use Rattle.aud_parse.proofs.abort.more_names.Given as goal

abbrev pub invariant-turns : goal.invariant-turns
invariant-turns l = record { turns : Turns task_name_item g.MoreNames l.room l.start.tokens.now l.all.items l.rest.tokens.now; shorter : length l.rest.tokens.now ≤ length l.start.tokens.now }

abbrev pub decreases-turns : goal.decreases-turns
decreases-turns l = length l.rest.tokens.now
