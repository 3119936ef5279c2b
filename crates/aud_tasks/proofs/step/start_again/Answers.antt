use Rattle.std.proofs.Common.{ap}
use Rattle.aud_typed.specs.Ties.View.{plain_program}
use Rattle.aud_meaning.specs.Parts.{call_of}
use Rattle.aud_tasks.proofs.Ticking.{called_once}
use Rattle.aud_tasks.proofs.step.start_again.Goals as goal

pub returns-clause-does : goal.returns-clause-does
returns-clause-does c = rw (c.new-barriers.ensures.code, c.new-barriers.ensures.program) at c.in_ok-start_again.ensures.does

pub returns-clause-few : goal.returns-clause-few
returns-clause-few c = called_once (plain_program c.args.compiled.program.now).plan (plain_program c.new-barriers.result.program.now).plan c.args.compiled.code.now c.new-barriers.result.code.now (ap (λ p. (plain_program p).plan) c.new-barriers.ensures.program) c.new-barriers.ensures.code (call_of c.args.restart.call c.args.state.now).entry c.ticks.result _ c.new-barriers.result.ticks c.new-barriers.ensures.none c.ticks.ensures c.in_ok-start_again.ensures.few
