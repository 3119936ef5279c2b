use Rattle.std.proofs.Common.{[], sym, ◌∙◌}
use Rattle.aud_grammar.specs.Grammar as g
use Rattle.aud_grammar.specs.Parsed.{Good}
use Rattle.aud_grammar.specs.Actions.{the_unit}
use Rattle.aud_grammar.proofs.Verdicts.{parsed_is, parsed_fails, all_read, some_left}
use Rattle.aud_parse.proofs.parser.parse.Goals as goal

pub returns-then-is_empty : goal.returns-then-is_empty
returns-then-is_empty c = parsed_is the_unit g.Unit _ _ _ _ (c.in-Ok.ensures.reads [] [] Good (all_read _ _ (sym c.is_empty.ensures ∙ c.if-is_empty.true)))

pub returns-else-is_empty : goal.returns-else-is_empty
returns-else-is_empty c = rw c.place.ensures (parsed_is the_unit g.Unit _ _ _ _ (c.in-Ok.ensures.reads [] [] _ (some_left _ _ (sym c.is_empty.ensures ∙ c.if-is_empty.false))))

pub returns-in-Err-Wrong : goal.returns-in-Err-Wrong
returns-in-Err-Wrong c = rw c.place-in-Err-Wrong.ensures (parsed_fails the_unit g.Unit _ _ _ ((rw c.in-Err-Wrong.field-0-is at c.in-Err-Wrong.ensures.reads) [])).1

pub returns-in-Err-Deep : goal.returns-in-Err-Deep
returns-in-Err-Deep c = rw c.place-in-Err-Deep.ensures (parsed_fails the_unit g.Unit _ _ _ ((rw c.in-Err-Deep.field-0-is at c.in-Err-Deep.ensures.reads) [])).1
