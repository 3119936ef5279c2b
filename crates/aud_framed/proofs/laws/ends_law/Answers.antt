use Rattle.aud_framed.proofs.Blocks.{leaves_framed}
use Rattle.aud_framed.proofs.Bodies.{ends_framed}
use Rattle.aud_framed.proofs.laws.ends_law.Goals as goal

pub returns-clause-ends : goal.returns-clause-ends
returns-clause-ends clause = λ code table tasks barriers seen sound fits place next returns display o os l c s ends.
    ends_framed code table tasks barriers seen sound fits place next returns display o os l s c ends

pub returns-clause-leaves : goal.returns-clause-leaves
returns-clause-leaves clause = leaves_framed
