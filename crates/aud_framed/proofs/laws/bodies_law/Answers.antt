use Rattle.aud_framed.proofs.Bodies.{begins_framed, enters_framed, serves_framed, accepts_framed}
use Rattle.aud_framed.proofs.laws.bodies_law.Goals as goal

pub returns-clause-begins : goal.returns-clause-begins
returns-clause-begins c = λ code table tasks barriers seen sound fits unit level more o written longer is.
    begins_framed code table tasks barriers seen sound fits unit level more o written longer is

pub returns-clause-enters : goal.returns-clause-enters
returns-clause-enters c = λ code table tasks barriers seen sound fits place level unit returns display more o os l s statement written longer called saved.
    enters_framed code table tasks barriers seen sound fits place level unit returns display more o os l s statement written longer called saved

pub returns-clause-serves : goal.returns-clause-serves
returns-clause-serves c = λ code table tasks barriers seen sound fits place level unit object id served back returns display more o os stands goes written longer is saved.
    serves_framed code table tasks barriers seen sound fits place level unit object id served back returns display more o os stands goes written longer is saved

pub returns-clause-accepts : goal.returns-clause-accepts
returns-clause-accepts c = λ code table tasks barriers seen sound fits place b region id returns display more a o os l s opens offered does body is saved longer.
    accepts_framed code table tasks barriers seen sound fits place b region id returns display more a o os l s opens offered does body is saved longer
