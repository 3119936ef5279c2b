use Rattle.aud_framed.proofs.Steps.{part_framed, inside_framed, block_framed, accept_framed, way_framed, turn_framed}
use Rattle.aud_framed.proofs.laws.ways_law.Goals as goal

pub returns-clause-part : goal.returns-clause-part
returns-clause-part c = λ code table tasks barriers seen sound fits place part next returns display os e l s does frame many way.
    part_framed code table tasks barriers seen sound fits place returns display os l s part next e does frame many way

pub returns-clause-inside : goal.returns-clause-inside
returns-clause-inside c = λ code table tasks barriers seen sound fits place part next returns display more o os e l s does frame many way by saved longer.
    inside_framed code table tasks barriers seen sound fits place returns display os l s part next more o e does frame many way by saved longer

pub returns-clause-block : goal.returns-clause-block
returns-clause-block c = λ code table tasks barriers seen sound fits place next returns display o os l s ends.
    block_framed code table tasks barriers seen sound fits place next returns display o os l s ends

pub returns-clause-accept : goal.returns-clause-accept
returns-clause-accept c = λ code table tasks barriers seen sound fits place next returns display o os l s ends.
    accept_framed code table tasks barriers seen sound fits place next returns display o os l s ends

pub returns-clause-turn : goal.returns-clause-turn
returns-clause-turn c = λ code table tasks barriers seen sound fits place part next returns display o os f l s continues.
    turn_framed code table tasks barriers seen sound fits place part next returns display o os f l s continues

pub returns-clause-way : goal.returns-clause-way
returns-clause-way c = λ code table tasks barriers seen sound fits place returns own e w l s does exit.
    way_framed code table tasks barriers seen sound fits place returns own e w l s does exit
