use Rattle.aud_framed.proofs.Running.Reaching.{comes_kept, reached_kept}
use Rattle.aud_framed.proofs.runs.run_framed_law.Goals as goal

pub returns-clause-framed : goal.returns-clause-framed
returns-clause-framed c = λ plan code table tasks barriers seen name limits x sound fits levels ways meet. reached_kept plan code table tasks barriers seen name limits sound fits levels ways meet x

pub returns-clause-left : goal.returns-clause-left
returns-clause-left c = λ plan code table tasks barriers seen name limits x sound fits levels ways meet. comes_kept plan code table tasks barriers seen name limits sound fits levels ways meet x
