use Rattle.std.proofs.Common.{sym, ap, ◌∙◌, arith}
use Rattle.std.specs.Option.{is_some}
use Rattle.aud_typed.specs.Ties.View.{plain_program}
use Rattle.aud_code.specs.Flat.{EndLine}
use Rattle.aud_tasks.proofs.MoveLaws.Starting.{no_start_pending, no_start_so, no_start_there, starts_so}
use Rattle.aud_tasks.proofs.StepLaws.Stepping.{no_end_behind, task_there}
use Rattle.aud_tasks.proofs.choice.start_at.Goals as goal

pub returns-then-is_some-clause-none : goal.returns-then-is_some-clause-none
returns-then-is_some-clause-none c =
    let s = c.args.state.now in
    let t = task_there s.tasks c.args.task c.requires in
    no_start_pending (plain_program c.args.compiled.program.now).plan c.args.compiled.code.now c.args.task s t.0 t.1 (ap is_some (sym c.pending.ensures) ∙ sym c.is_some.ensures ∙ c.if-is_some.true)

pub returns-then-len-place-clause-none : goal.returns-then-len-place-clause-none
returns-then-len-place-clause-none c =
    let s = c.args.state.now in
    let t = task_there s.tasks c.args.task c.requires in
    let quiet = ap is_some (sym c.pending.ensures) ∙ sym c.is_some.ensures ∙ c.if-is_some.false in
    no_start_there (plain_program c.args.compiled.program.now).plan c.args.compiled.code.now c.args.task s t.0 t.1 quiet c.place-place.result c.place-place.ensures (no_end_behind c.args.compiled.code.now c.place-place.result (omega (arith, c.len.ensures, c.if-len-place.true)))

pub returns-in-Some-clause-some : goal.returns-in-Some-clause-some
returns-in-Some-clause-some c =
    let s = c.args.state.now in
    let t = task_there s.tasks c.args.task c.requires in
    let quiet = ap is_some (sym c.pending.ensures) ∙ sym c.is_some.ensures ∙ c.if-is_some.false in
    starts_so (plain_program c.args.compiled.program.now).plan c.args.compiled.code.now c.args.task s t.0 t.1 quiet c.place-place.result c.place-place.ensures c.in-Some.end.now.last (ap (λ (l : EndLine). l.last) c.in-Some.ensures.some) c.start_of.result c.start_of.ensures

pub returns-in-Some-clause-none : goal.returns-in-Some-clause-none
returns-in-Some-clause-none c =
    let s = c.args.state.now in
    let t = task_there s.tasks c.args.task c.requires in
    let quiet = ap is_some (sym c.pending.ensures) ∙ sym c.is_some.ensures ∙ c.if-is_some.false in
    no_start_so (plain_program c.args.compiled.program.now).plan c.args.compiled.code.now c.args.task s t.0 t.1 quiet c.place-place.result c.place-place.ensures c.in-Some.end.now.last (ap (λ (l : EndLine). l.last) c.in-Some.ensures.some) c.start_of.result c.start_of.ensures

pub returns-in-None-clause-none : goal.returns-in-None-clause-none
returns-in-None-clause-none c =
    let s = c.args.state.now in
    let t = task_there s.tasks c.args.task c.requires in
    let quiet = ap is_some (sym c.pending.ensures) ∙ sym c.is_some.ensures ∙ c.if-is_some.false in
    no_start_there (plain_program c.args.compiled.program.now).plan c.args.compiled.code.now c.args.task s t.0 t.1 quiet c.place-place.result c.place-place.ensures c.in-None.ensures.none
