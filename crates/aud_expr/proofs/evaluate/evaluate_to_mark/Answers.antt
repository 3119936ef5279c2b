use Rattle.std.proofs.Common.{sym, subst}
use Rattle.aud_expr.specs.Flow.{StepFine}
use Rattle.aud_expr.proofs.Marking.{unmarked}
use Rattle.aud_expr.proofs.evaluate.evaluate_to_mark.Goals as goal

pub evaluate_until-requires-clause-fine : goal.evaluate_until-requires-clause-fine
evaluate_until-requires-clause-fine g c = subst (λ ls. StepFine ls c.args.first) (sym c.lines.ensures.lines) (c.lines.ensures.sound.operands c.args.first c.requires)

pub returns-in-Ends : goal.returns-in-Ends
returns-in-Ends g c = λ s ed ef ek et eo. unmarked c.in-Ends.field-0 c.evaluate_until.new.operands _ ((rw (c.in-Ends.is, c.lines.ensures.lines) at c.in_ok-halted.ensures.ends) s ed ef ek et eo)

pub returns-in-Marks : goal.returns-in-Marks
returns-in-Marks g c = λ s ed ef ek et eo. sym ((rw (c.in-Marks.is, c.lines.ensures.lines) at c.in_ok-halted.ensures.ends) s ed ef ek et eo)
