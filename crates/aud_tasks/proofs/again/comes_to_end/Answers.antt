use Rattle.std.proofs.Common.{ap, ◌∙◌}
use Rattle.aud_code.specs.Flat.{EndLine}
use Rattle.aud_tasks.proofs.MoveLaws.Again.{ends_so, ends_there}
use Rattle.aud_tasks.proofs.StepLaws.Stepping.{task_there}
use Rattle.aud_tasks.proofs.again.comes_to_end.Goals as goal

pub returns-in-Some : goal.returns-in-Some
returns-in-Some c = λ plan.
    let s = c.args.state.now in
    let t = task_there s.tasks c.args.task c.requires.within in
    c.is_end.ensures
    ∙ ends_so plan c.args.code.now c.args.task s t.0 t.1 c.requires.quiet c.place.result c.place.ensures c.in-Some.end.now.last (ap (λ (l : EndLine). l.last) c.in-Some.ensures.some)

pub returns-in-None : goal.returns-in-None
returns-in-None c = λ plan.
    let s = c.args.state.now in
    let t = task_there s.tasks c.args.task c.requires.within in
    ends_there plan c.args.code.now c.args.task s t.0 t.1 c.requires.quiet c.place.result c.place.ensures c.in-None.ensures.none
