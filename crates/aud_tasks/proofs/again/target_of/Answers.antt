use Rattle.std.proofs.Common.{None, Bool, if◌then◌else◌, ap, sym, ◌∙◌}
use Rattle.aud_meaning.specs.Parts.{own_of}
use Rattle.aud_meaning.specs.Run.{again_on_task, construct_left}
use Rattle.aud_tasks.proofs.MoveLaws.Again.{made_again, on_object_none, on_task_one}
use Rattle.aud_tasks.proofs.again.target_of.Goals as goal

pub returns-then-not-leaves_accept : goal.returns-then-not-leaves_accept
returns-then-not-leaves_accept c =
    let o = own_of c.args.task c.args.state.now in
    sym (made_again c.args.again (construct_left o) ∙ ap (λ (b : Bool). if b then again_on_task c.args.again else None) (sym c.leaves_accept.ensures ∙ c.if-not-leaves_accept.true))

pub returns-in-Task : goal.returns-in-Task
returns-in-Task c =
    let o = own_of c.args.task c.args.state.now in
    sym (made_again c.args.again (construct_left o)
    ∙ ap (λ (b : Bool). if b then again_on_task c.args.again else None) (sym c.leaves_accept.ensures ∙ c.if-not-leaves_accept.false)
    ∙ on_task_one c.args.again c.in-Task.target c.in-Task.is)

pub returns-in-Object : goal.returns-in-Object
returns-in-Object c =
    let o = own_of c.args.task c.args.state.now in
    sym (made_again c.args.again (construct_left o)
    ∙ ap (λ (b : Bool). if b then again_on_task c.args.again else None) (sym c.leaves_accept.ensures ∙ c.if-not-leaves_accept.false)
    ∙ on_object_none c.args.again c.in-Object.field-0 c.in-Object.is)
