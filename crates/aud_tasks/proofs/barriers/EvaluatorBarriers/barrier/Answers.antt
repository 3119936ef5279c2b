use Rattle.aud_typed.specs.Ties.View.{plain_program}
use Rattle.aud_tasks.proofs.barriers.EvaluatorBarriers.barrier.Goals as goal

pub returns-clause-value : goal.returns-clause-value
returns-clause-value c = c.in_ok-decision.ensures.met (plain_program c.args.self.now.program.now).plan
