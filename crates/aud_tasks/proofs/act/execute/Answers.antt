use Rattle.std.proofs.Common.{sym, subst, arith}
use Rattle.aud_typed.specs.Ties.View.{plain_program}
use Rattle.aud_code.specs.Flat.{EndLine, end_at}
use Rattle.aud_code.specs.Instruction.{Ended}
use Rattle.aud_expr.specs.Flow.{evaluated_at}
use Rattle.aud_state.specs.Fast.{scene}
use Rattle.aud_tasks.specs.Acting.{DoesEnd}
use Rattle.aud_tasks.proofs.Results.{if_ok, if_on_ok}
use Rattle.aud_tasks.proofs.StepLaws.Stepping.{no_end_behind, none_executed, spot_at, starts}
use Rattle.aud_tasks.proofs.Ticking.{barriers_alone, no_more}
use Rattle.aud_tasks.proofs.act.execute.Goals as goal

pub evaluate-requires-clause-begins : goal.evaluate-requires-clause-begins
evaluate-requires-clause-begins c = λ t there.
    let e = c.place-place.ensures t there in
    starts c.args.compiled.code.now.lines t.control.place (spot_at c.args.compiled.code.now.lines c.args.state.now.tasks c.args.n t c.requires.spots there).place (omega (arith, e))

pub returns-then-place-len-clause-does : goal.returns-then-place-len-clause-does
returns-then-place-len-clause-does c = if_on_ok c.leave.result _ _ c.leave.ensures.does (λ h t there.
    let e = c.place-place.ensures t there in
    subst (λ (l : EndLine). DoesEnd (plain_program c.args.compiled.program.now).plan c.args.compiled.code.now c.args.compiled.limits c.args.alternative c.args.n l (evaluated_at c.args.compiled.code.now t.control.place (scene c.args.n c.args.state.now)) c.args.state.now c.leave.new.state) (sym (no_end_behind c.args.compiled.code.now t.control.place (omega (arith, e)))) h)

pub returns-clause-does : goal.returns-clause-does
returns-clause-does c = λ t there.
    subst (λ (x : Ended). DoesEnd (plain_program c.args.compiled.program.now).plan c.args.compiled.code.now c.args.compiled.limits c.args.alternative c.args.n (end_at c.args.compiled.code.now t.control.place) x c.args.state.now c.follow.new.state) (c.in_ok-evaluated.ensures.ends t there) (c.in_ok-ticks.ensures.does t there)

pub returns-then-place-len-clause-few : goal.returns-then-place-len-clause-few
returns-then-place-len-clause-few c = if_ok c.leave.result _ _ c.leave.ensures.few (λ ticks h. no_more (plain_program c.args.compiled.program.now).plan c.args.compiled.code.now ticks h)

pub returns-then-place-len-clause-counts : goal.returns-then-place-len-clause-counts
returns-then-place-len-clause-counts c = if_ok c.leave.result _ _ c.leave.ensures.few (λ ticks few t there.
    let e = c.place-place.ensures t there in
    barriers_alone _ _ ticks (none_executed c.args.compiled.code.now t.control.place (scene c.args.n c.args.state.now) (omega (arith, e))) few)

pub returns-clause-counts : goal.returns-clause-counts
returns-clause-counts c = λ t there.
    let exact = c.in_ok-evaluated.ensures.ticks t there in
    let few = c.in_ok-ticks.ensures.few in
    record { least = omega (arith, exact, c.saturating_add.ensures); most = omega (arith, exact, few, c.saturating_add.ensures) }
