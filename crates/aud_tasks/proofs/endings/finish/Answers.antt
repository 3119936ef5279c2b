use Rattle.std.proofs.Common.{ap, sym, ◌∙◌}
use Rattle.aud_typed.specs.Ties.View.{plain_program}
use Rattle.aud_code.specs.Flat.{barrier_at, EndLine}
use Rattle.aud_code.specs.Instruction.{Reached}
use Rattle.aud_code.specs.View.{exit_of}
use Rattle.aud_state.specs.Fast.{scene}
use Rattle.aud_tasks.proofs.StepLaws.Asked.{as_last, of_one, too_long_does}
use Rattle.aud_tasks.proofs.endings.finish.Goals as goal

pub returns-then-is_too_long-clause-does : goal.returns-then-is_too_long-clause-does
returns-then-is_too_long-clause-does c =
    let barrier = barrier_at c.args.compiled.code.now in
    let plan = (plain_program c.args.compiled.program.now).plan in
    c.in_ok-raise_in_part.ensures plan barrier
    ∙ too_long_does plan c.args.compiled.code.now c.args.compiled.limits c.args.alternative barrier c.args.n c.args.end.now.at (scene c.args.n c.args.state.now) c.args.operands.now c.args.state.now c.args.end.now.last (sym c.is_too_long.ensures ∙ c.if-is_too_long.true)

pub step_alone-requires-clause-alone : goal.step_alone-requires-clause-alone
step_alone-requires-clause-alone c = of_one c.args.end.now.last _ _ c.in-Does.is (sym c.is_too_long.ensures ∙ c.if-is_too_long.false)

pub returns-in_ok-step_alone-in-Does-clause-does : goal.returns-in_ok-step_alone-in-Does-clause-does
returns-in_ok-step_alone-in-Does-clause-does c = c.in_ok-step_alone-in-Does.ensures c.args.alternative

pub returns-in_ok-step_alone-in-Continues-clause-does : goal.returns-in_ok-step_alone-in-Continues-clause-does
returns-in_ok-step_alone-in-Continues-clause-does c = c.in_ok-step_alone-in-Continues.ensures c.args.alternative

pub returns-in_ok-step_alone-in-Guards-clause-does : goal.returns-in_ok-step_alone-in-Guards-clause-does
returns-in_ok-step_alone-in-Guards-clause-does c = c.in_ok-step_alone-in-Guards.ensures c.args.alternative

pub concern-requires-clause-there : goal.concern-requires-clause-there
concern-requires-clause-there c = λ t there. sym (ap (λ (l : EndLine). l.exit) (c.requires.there t there)) ∙ ap exit_of c.in-Concerns.is

pub concern-requires-clause-fine : goal.concern-requires-clause-fine
concern-requires-clause-fine c = rw c.in-Concerns.is at c.requires.fine

pub returns-in-Concerns-clause-does : goal.returns-in-Concerns-clause-does
returns-in-Concerns-clause-does c = as_last c.concern.result (plain_program c.args.compiled.program.now).plan c.args.compiled.code.now c.args.compiled.limits c.args.alternative c.args.n c.args.end.now.at (Reached c.args.operands.now) c.args.state.now _ c.args.end.now.last _ c.in-Concerns.is c.concern.ensures.does

pub returns-in-Ends-clause-does : goal.returns-in-Ends-clause-does
returns-in-Ends-clause-does c = as_last c.leave.result (plain_program c.args.compiled.program.now).plan c.args.compiled.code.now c.args.compiled.limits c.args.alternative c.args.n c.args.end.now.at (Reached c.args.operands.now) c.args.state.now _ c.args.end.now.last _ c.in-Ends.is c.leave.ensures.does

pub returns-in-Leaves-clause-does : goal.returns-in-Leaves-clause-does
returns-in-Leaves-clause-does c = as_last c.leave-in-Leaves.result (plain_program c.args.compiled.program.now).plan c.args.compiled.code.now c.args.compiled.limits c.args.alternative c.args.n c.args.end.now.at (Reached c.args.operands.now) c.args.state.now _ c.args.end.now.last _ c.in-Leaves.is c.leave-in-Leaves.ensures.does
