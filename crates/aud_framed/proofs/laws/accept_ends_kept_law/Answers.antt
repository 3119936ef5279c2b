use Rattle.aud_framed.proofs.Stepping.AcceptEnds.{accept_ended_good, accept_left_good}
use Rattle.aud_framed.proofs.laws.accept_ends_kept_law.Goals as goal

pub returns-clause-ended : goal.returns-clause-ended
returns-clause-ended c = λ plan code table tasks barriers seen limits alternative n x t o os id next sound fits ways kept is running none still opened for_it ending.
    accept_ended_good plan code table tasks barriers seen sound fits ways limits alternative n x t o os id next kept is running none still opened for_it ending

pub returns-clause-left : goal.returns-clause-left
returns-clause-left c = λ plan code table tasks barriers seen limits alternative n x t o os id p sound fits ways kept is running pending inner for_it.
    accept_left_good plan code table tasks barriers seen sound fits ways limits alternative n x t o os id p kept is running pending inner for_it
