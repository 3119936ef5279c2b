use Rattle.aud_code.specs.Flat.{asked_last}
use Rattle.aud_code.specs.Instruction.{Reached}
use Rattle.aud_code.specs.Places.{loops_of}
use Rattle.aud_code.specs.View.{exit_of, plain_last}
use Rattle.aud_sequential.specs.Shown.{plans_of}
use Rattle.aud_state.proofs.TaskLaws.Beside.{between_asked, rest_kept}
use Rattle.aud_state.proofs.task.Task.step_alone.Goals as goal

pub returns-clause-does : goal.returns-clause-does
returns-clause-does c = λ s.
    between_asked (plans_of c.args.units.now) c.args.code.now (asked_last (plain_last c.args.end.now.last) (loops_of (exit_of c.args.end.now.last)) c.args.end.now.at s (Reached c.args.operands.now)) c.args.self.now.parked c.exchange.new.other c.exchange-2.new.other c.args.progress.now c.exchange.new.self c.step_alone.new.self c.exchange-2.new.self
    c.exchange.ensures.acts (c.in_ok-step_alone.ensures.does s) c.exchange-2.ensures.acts c.exchange-2.ensures.parked

pub returns-clause-kept : goal.returns-clause-kept
returns-clause-kept c = rest_kept c.args.self.now.parked c.exchange.new.other c.args.progress.now c.exchange.new.self c.step_alone.new.self c.exchange-2.new.self
    c.exchange.ensures.acts c.in_ok-step_alone.ensures.kept c.exchange-2.ensures.acts

pub step_alone-requires-clause-there : goal.step_alone-requires-clause-there
step_alone-requires-clause-there c = rw c.exchange.ensures.acts c.requires.there
