use Rattle.std.proofs.Common.{ap, length}
use Rattle.aud_meaning.specs.Configuration.{for_accept}
use Rattle.aud_meaning.specs.Effects.{opens}
use Rattle.aud_code.specs.Places.{Spot}
use Rattle.aud_meaning.specs.Ties.Part.{Part, rest_of, within}
use Rattle.aud_state.proofs.TaskLaws.Beside.{between, rest_kept}
use Rattle.aud_state.proofs.task.Task.open_accept.Goals as goal

pub returns-clause-does : goal.returns-clause-does
returns-clause-does c =
    between (λ t. opens (for_accept c.args.call) c.args.region c.args.at t.own.display c.args.values.now (length c.args.values.now) t) c.args.self.now c.exchange.new.other c.exchange-2.new.other c.args.progress.now c.exchange.new.self c.open_accept.new.self c.exchange-2.new.self
    c.exchange.ensures.acts (λ own shared. ap (λ (p : Part Spot). within own shared p) c.in_ok-open_accept.ensures) c.exchange-2.ensures.acts c.exchange-2.ensures.parked

pub returns-clause-kept : goal.returns-clause-kept
returns-clause-kept c = rest_kept c.args.self.now.parked c.exchange.new.other c.args.progress.now c.exchange.new.self c.open_accept.new.self c.exchange-2.new.self
    c.exchange.ensures.acts (ap (λ (p : Part Spot). rest_of p) c.in_ok-open_accept.ensures) c.exchange-2.ensures.acts
