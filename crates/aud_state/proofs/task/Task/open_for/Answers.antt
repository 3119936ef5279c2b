use Rattle.std.proofs.Common.{ap, length}
use Rattle.aud_meaning.specs.Effects.{opens}
use Rattle.aud_sequential.specs.Shown.{plans_of, unit_in}
use Rattle.aud_store.specs.Ties.Stored.{plain_purpose}
use Rattle.aud_code.specs.Places.{Spot}
use Rattle.aud_meaning.specs.Ties.Part.{Part, rest_of, within}
use Rattle.aud_state.proofs.TaskLaws.Beside.{between, rest_kept}
use Rattle.aud_state.proofs.task.Task.open_for.Goals as goal

pub returns-clause-does : goal.returns-clause-does
returns-clause-does c =
    between (λ t. opens (plain_purpose c.args.purpose c.args.backs.now) (unit_in (plans_of c.args.units.now) c.args.unit).region c.args.at c.args.display.now c.args.values.now (length c.args.values.now) t) c.args.self.now c.exchange.new.other c.exchange-2.new.other c.args.progress.now c.exchange.new.self c.open_apart.new.self c.exchange-2.new.self
    c.exchange.ensures.acts (λ own shared. ap (λ (p : Part Spot). within own shared p) c.in_ok-open_apart.ensures) c.exchange-2.ensures.acts c.exchange-2.ensures.parked

pub returns-clause-kept : goal.returns-clause-kept
returns-clause-kept c = rest_kept c.args.self.now.parked c.exchange.new.other c.args.progress.now c.exchange.new.self c.open_apart.new.self c.exchange-2.new.self
    c.exchange.ensures.acts (ap (λ (p : Part Spot). rest_of p) c.in_ok-open_apart.ensures) c.exchange-2.ensures.acts
