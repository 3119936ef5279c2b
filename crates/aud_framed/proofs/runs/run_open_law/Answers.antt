use Rattle.aud_framed.proofs.Running.Standing.{comes_open, reached_open}
use Rattle.aud_framed.proofs.runs.run_open_law.Goals as goal

pub returns-clause-open : goal.returns-clause-open
returns-clause-open c = λ plan code table tasks barriers seen name limits x sound fits levels ways direct meet. reached_open plan code table tasks barriers seen name limits sound fits levels ways direct meet x

pub returns-clause-left : goal.returns-clause-left
returns-clause-left c = λ plan code table tasks barriers seen name limits x sound fits levels ways direct meet. comes_open plan code table tasks barriers seen name limits sound fits levels ways direct meet x
