use Rattle.aud_layout.proofs.Flat.Laws.{moves_law, state_law, raised_law}
use Rattle.aud_layout.proofs.laws.moves_law.Goals as goal

pub returns-clause-moves : goal.returns-clause-moves
returns-clause-moves c = moves_law

pub returns-clause-state : goal.returns-clause-state
returns-clause-state c = state_law

pub returns-clause-raised : goal.returns-clause-raised
returns-clause-raised c = raised_law
