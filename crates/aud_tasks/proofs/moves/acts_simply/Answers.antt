use Rattle.aud_tasks.proofs.MoveLaws.Moving.{runs_simply}
use Rattle.aud_tasks.proofs.StepLaws.Stepping.{plain_there}
use Rattle.aud_tasks.proofs.moves.acts_simply.Goals as goal

pub is_simple-requires : goal.is_simple-requires
is_simple-requires c = plain_there c.args.task c.args.state.now (c.is_plain.ensures c.if-is_plain.true)

pub returns-then-is_plain-clause-alone : goal.returns-then-is_plain-clause-alone
returns-then-is_plain-clause-alone c = λ simple plan.
    runs_simply plan c.args.code.now c.args.state.now c.args.task (c.is_plain.ensures c.if-is_plain.true) (c.is_simple.ensures simple plan)
