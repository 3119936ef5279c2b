use Rattle.std.proofs.Common.{ap}
use Rattle.aud_meaning.specs.Effects.{declares}
use Rattle.aud_sequential.specs.Parked.{numbers_from}
use Rattle.aud_code.specs.Places.{Spot}
use Rattle.aud_meaning.specs.Ties.Part.{Part, rest_of, within}
use Rattle.aud_state.proofs.TaskLaws.Beside.{between, rest_kept}
use Rattle.aud_state.proofs.task.Task.declare_tasks.Goals as goal

pub returns-clause-does : goal.returns-clause-does
returns-clause-does c =
    between (declares (numbers_from c.args.first c.args.count)) c.args.self.now c.exchange.new.other c.exchange-2.new.other c.args.progress.now c.exchange.new.self c.declare_tasks.new.self c.exchange-2.new.self
    c.exchange.ensures.acts (λ own shared. ap (λ (p : Part Spot). within own shared p) c.in_ok-declare_tasks.ensures) c.exchange-2.ensures.acts c.exchange-2.ensures.parked

pub returns-clause-kept : goal.returns-clause-kept
returns-clause-kept c = rest_kept c.args.self.now.parked c.exchange.new.other c.args.progress.now c.exchange.new.self c.declare_tasks.new.self c.exchange-2.new.self
    c.exchange.ensures.acts (ap (λ (p : Part Spot). rest_of p) c.in_ok-declare_tasks.ensures) c.exchange-2.ensures.acts
