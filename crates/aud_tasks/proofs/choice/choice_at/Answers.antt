use Rattle.std.proofs.Common.{sym, ap, ◌∙◌, arith}
use Rattle.std.specs.Option.{is_some}
use Rattle.aud_code.specs.Flat.{EndLine}
use Rattle.aud_tasks.specs.Choices.{ComesTo}
use Rattle.aud_tasks.specs.Moving.{IsSingle}
use Rattle.aud_tasks.specs.Turning.{coming_in}
use Rattle.aud_tasks.proofs.MoveLaws.Chosen.{comes_so, every, every_none, single_pending, single_so, single_there}
use Rattle.aud_tasks.proofs.StepLaws.Stepping.{no_end_behind}
use Rattle.aud_tasks.proofs.choice.choice_at.Goals as goal

pub returns-then-is_some-clause-none : goal.returns-then-is_some-clause-none
returns-then-is_some-clause-none c = λ plan.
    single_pending plan c.args.code.now c.args.task c.args.state.now (ap is_some (sym c.pending.ensures) ∙ sym c.is_some.ensures ∙ c.if-is_some.true)

pub returns-then-len-place-clause-none : goal.returns-then-len-place-clause-none
returns-then-len-place-clause-none c = λ plan.
    let quiet = ap is_some (sym c.pending.ensures) ∙ sym c.is_some.ensures ∙ c.if-is_some.false in
    single_there plan c.args.code.now c.args.task c.args.state.now quiet c.place-place.result c.place-place.ensures (no_end_behind c.args.code.now c.place-place.result (omega (arith, c.len.ensures, c.if-len-place.true)))

pub returns-in-Some-clause-some : goal.returns-in-Some-clause-some
returns-in-Some-clause-some c = every (λ plan choice. ComesTo choice plan c.args.code.now c.args.task c.args.state.now) c.choice_of.result (λ plan.
    let quiet = ap is_some (sym c.pending.ensures) ∙ sym c.is_some.ensures ∙ c.if-is_some.false in
    comes_so plan c.args.code.now c.args.task c.args.state.now quiet c.place-place.result c.in-Some.end.now.last c.place-place.ensures (ap (λ (l : EndLine). l.last) c.in-Some.ensures.some) c.choice_of.result c.choice_of.ensures (omega (arith, c.len.ensures, c.if-len-place.false)))

pub returns-in-Some-clause-none : goal.returns-in-Some-clause-none
returns-in-Some-clause-none c = every_none (λ plan. IsSingle (coming_in plan c.args.code.now c.args.task c.args.state.now)) c.choice_of.result (λ plan.
    let quiet = ap is_some (sym c.pending.ensures) ∙ sym c.is_some.ensures ∙ c.if-is_some.false in
    single_so plan c.args.code.now c.args.task c.args.state.now quiet c.place-place.result c.in-Some.end.now.last c.place-place.ensures (ap (λ (l : EndLine). l.last) c.in-Some.ensures.some) c.choice_of.result c.choice_of.ensures)

pub returns-in-None-clause-none : goal.returns-in-None-clause-none
returns-in-None-clause-none c = λ plan.
    let quiet = ap is_some (sym c.pending.ensures) ∙ sym c.is_some.ensures ∙ c.if-is_some.false in
    single_there plan c.args.code.now c.args.task c.args.state.now quiet c.place-place.result c.place-place.ensures c.in-None.ensures.none
