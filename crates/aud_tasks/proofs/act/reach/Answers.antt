use Rattle.std.proofs.Common.{sym, subst}
use Rattle.aud_typed.specs.Ties.View.{plain_program}
use Rattle.aud_code.specs.Flat.{EndLine}
use Rattle.aud_code.specs.Instruction.{Reached}
use Rattle.aud_code.specs.Sound.{counts_of, LastFine}
use Rattle.aud_code.specs.View.{plain_end}
use Rattle.aud_tasks.specs.Acting.{DoesEnd}
use Rattle.aud_tasks.proofs.Results.{on_ok}
use Rattle.aud_tasks.proofs.StepLaws.Stepping.{ends_there, no_end_there, task_there}
use Rattle.aud_tasks.proofs.act.reach.Goals as goal

pub finish-requires-clause-there : goal.finish-requires-clause-there
finish-requires-clause-there c = λ t there. ends_there c.args.compiled.code.now c.args.reached t.control.place (plain_end c.in-Some.line.now) c.in-Some.ensures.found (c.requires.reached t there)

pub finish-requires-clause-fine : goal.finish-requires-clause-fine
finish-requires-clause-fine c =
    let t = task_there c.args.state.now.tasks c.args.n c.requires.within in
    subst (λ (l : EndLine). LastFine l.last (counts_of c.args.operands.now)) (sym (ends_there c.args.compiled.code.now c.args.reached t.0.control.place (plain_end c.in-Some.line.now) c.in-Some.ensures.found (c.requires.reached t.0 t.1))) (c.requires.fine t.0 t.1)

pub returns-in-Some-clause-does : goal.returns-in-Some-clause-does
returns-in-Some-clause-does c = on_ok c.finish.result _ _ c.finish.ensures.does (λ h t there. subst (λ (l : EndLine). DoesEnd (plain_program c.args.compiled.program.now).plan c.args.compiled.code.now c.args.compiled.limits c.args.alternative c.args.n l (Reached c.args.operands.now) c.args.state.now c.finish.new.state) (ends_there c.args.compiled.code.now c.args.reached t.control.place (plain_end c.in-Some.line.now) c.in-Some.ensures.found (c.requires.reached t there)) h)

pub returns-in-None-clause-does : goal.returns-in-None-clause-does
returns-in-None-clause-does c = on_ok c.leave.result _ _ c.leave.ensures.does (λ h t there. subst (λ (l : EndLine). DoesEnd (plain_program c.args.compiled.program.now).plan c.args.compiled.code.now c.args.compiled.limits c.args.alternative c.args.n l (Reached c.args.operands.now) c.args.state.now c.leave.new.state) (sym (no_end_there c.args.compiled.code.now c.args.reached t.control.place c.in-None.ensures.missing (c.requires.reached t there))) h)
