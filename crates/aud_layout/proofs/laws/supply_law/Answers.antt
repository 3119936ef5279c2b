use Rattle.aud_layout.proofs.Flat.Laws.{supply_law, advance_law}
use Rattle.aud_layout.proofs.laws.supply_law.Goals as goal

pub returns-clause-choices : goal.returns-clause-choices
returns-clause-choices c = supply_law

pub returns-clause-time : goal.returns-clause-time
returns-clause-time c = advance_law
