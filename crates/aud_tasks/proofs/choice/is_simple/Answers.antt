use Rattle.std.proofs.Common.{sym, ap, ◌∙◌}
use Rattle.std.specs.Option.{is_some}
use Rattle.aud_code.specs.Flat.{EndLine}
use Rattle.aud_tasks.proofs.MoveLaws.Chosen.{simple_so}
use Rattle.aud_tasks.proofs.StepLaws.Stepping.{task_there}
use Rattle.aud_tasks.proofs.choice.is_simple.Goals as goal

pub returns-in-Some : goal.returns-in-Some
returns-in-Some c = λ alone plan.
    let s = c.args.state.now in
    let t = task_there s.tasks c.args.task c.requires in
    let quiet = ap is_some (sym c.pending.ensures) ∙ sym c.is_some.ensures ∙ c.if-is_some.false in
    simple_so plan c.args.code.now c.args.task s quiet c.place.result c.in-Some.end.now.last c.place.ensures (ap (λ (l : EndLine). l.last) c.in-Some.ensures.some) t.0 t.1 (sym c.is_alone.ensures ∙ alone)
