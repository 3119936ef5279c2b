use Rattle.std.proofs.Common.{sym, ◌∙◌}
use Rattle.aud_check_bodies.proofs.Passing.{one_term, more_terms}
use Rattle.aud_check_bodies.proofs.argument.unsigned_name.Goals as goal

pub returns-in-Some : goal.returns-in-Some
returns-in-Some c = sym (more_terms c.args.simple.now c.deref.result.now c.in-Some.field-0.now c.deref.ensures.value c.in-Some.ensures.value)

pub returns-in-None : goal.returns-in-None
returns-in-None c = c.term_name.ensures ∙ sym (one_term c.args.simple.now c.deref.result.now c.deref.ensures.value c.in-None.ensures.value)
