use Rattle.std.proofs.Common.{sym, ◌∙◌}
use Rattle.aud_grammar.proofs.Literals.{front_too_large}
use Rattle.aud_cursor.proofs.value.number_value.Goals as goal

pub returns-in_err-value : goal.returns-in_err-value
returns-in_err-value c = c.from_residual.ensures ∙ sym (front_too_large c.args.text.now c.loop-byte.byte-index c.loop-byte.value c.loop-byte-test.true c.loop-byte.invariant c.in_err-value.ensures)
