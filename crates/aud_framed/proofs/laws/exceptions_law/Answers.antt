use Rattle.aud_framed.proofs.Blocks.{activates_framed}
use Rattle.aud_framed.proofs.Exceptions.{handled_framed, left_framed}
use Rattle.aud_framed.proofs.laws.exceptions_law.Goals as goal

pub returns-clause-handled : goal.returns-clause-handled
returns-clause-handled c = handled_framed

pub returns-clause-left : goal.returns-clause-left
returns-clause-left c = left_framed

pub returns-clause-activates : goal.returns-clause-activates
returns-clause-activates c = activates_framed
