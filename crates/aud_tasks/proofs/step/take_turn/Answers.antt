use Rattle.std.proofs.Common.{refl, ap, sym, ◌∙◌, subst, arith}
use Rattle.aud_meaning.specs.Tasks.{delay_expires}
use Rattle.aud_typed.specs.Ties.View.{plain_program}
use Rattle.aud_meaning.specs.Run.{turn_taken}
use Rattle.aud_code.specs.Control.{going}
use Rattle.aud_code.specs.Flat.{asked_at, barrier_at}
use Rattle.aud_state.specs.Fast.{executed_in, scene}
use Rattle.aud_tasks.specs.declared.turn.Turn.{Turn}
use Rattle.aud_tasks.specs.Counting.{at_turn, most_of_barriers, Counts}
use Rattle.aud_tasks.specs.Turning.{turned}
use Rattle.aud_tasks.proofs.Results.{if_ok, if_on_ok}
use Rattle.aud_tasks.proofs.Ticking.{asked_once, barriers_alone, no_more}
use Rattle.aud_tasks.proofs.step.take_turn.Goals as goal

pub returns-in-Resting-clause-takes : goal.returns-in-Resting-clause-takes
returns-in-Resting-clause-takes c = λ t there. ap (λ (u : Turn). turn_taken (going c.args.compiled.code.now) (plain_program c.args.compiled.program.now).plan (barrier_at c.args.compiled.code.now) c.args.compiled.limits (turned (plain_program c.args.compiled.program.now).plan c.args.compiled.code.now c.args.taken.task c.args.state.now u) (asked_at c.args.compiled.code.now t.own.pending (scene c.args.taken.task c.args.state.now) t.control) c.args.taken c.args.state.now) (sym c.in-Resting.is)

pub returns-in_ok-close-in-Closing-clause-takes : goal.returns-in_ok-close-in-Closing-clause-takes
returns-in_ok-close-in-Closing-clause-takes c = λ t there. c.in_ok-close-in-Closing.ensures (plain_program c.args.compiled.program.now).plan (barrier_at c.args.compiled.code.now) ∙ ap (λ (u : Turn). turn_taken (going c.args.compiled.code.now) (plain_program c.args.compiled.program.now).plan (barrier_at c.args.compiled.code.now) c.args.compiled.limits (turned (plain_program c.args.compiled.program.now).plan c.args.compiled.code.now c.args.taken.task c.args.state.now u) (asked_at c.args.compiled.code.now t.own.pending (scene c.args.taken.task c.args.state.now) t.control) c.args.taken c.args.state.now) (sym c.in-Closing.is)

pub returns-in_ok-complete_abnormal-in-Completing-clause-takes : goal.returns-in_ok-complete_abnormal-in-Completing-clause-takes
returns-in_ok-complete_abnormal-in-Completing-clause-takes c = λ t there. c.in_ok-complete_abnormal-in-Completing.ensures (plain_program c.args.compiled.program.now).plan (barrier_at c.args.compiled.code.now) ∙ ap (λ (u : Turn). turn_taken (going c.args.compiled.code.now) (plain_program c.args.compiled.program.now).plan (barrier_at c.args.compiled.code.now) c.args.compiled.limits (turned (plain_program c.args.compiled.program.now).plan c.args.compiled.code.now c.args.taken.task c.args.state.now u) (asked_at c.args.compiled.code.now t.own.pending (scene c.args.taken.task c.args.state.now) t.control) c.args.taken c.args.state.now) (sym c.in-Completing.is)

pub returns-in-Expiring-clause-takes : goal.returns-in-Expiring-clause-takes
returns-in-Expiring-clause-takes c = λ t there.
    let plan = (plain_program c.args.compiled.program.now).plan in
    c.undelay.ensures plan (barrier_at c.args.compiled.code.now)
    ∙ ap (λ a. delay_expires (going c.args.compiled.code.now) plan (barrier_at c.args.compiled.code.now) a c.args.taken.task c.args.state.now) c.alternative.ensures
    ∙ ap (λ (u : Turn). turn_taken (going c.args.compiled.code.now) (plain_program c.args.compiled.program.now).plan (barrier_at c.args.compiled.code.now) c.args.compiled.limits (turned (plain_program c.args.compiled.program.now).plan c.args.compiled.code.now c.args.taken.task c.args.state.now u) (asked_at c.args.compiled.code.now t.own.pending (scene c.args.taken.task c.args.state.now) t.control) c.args.taken c.args.state.now) (sym c.in-Expiring.is)

pub returns-in_ok-expire-in-Cancelling-clause-takes : goal.returns-in_ok-expire-in-Cancelling-clause-takes
returns-in_ok-expire-in-Cancelling-clause-takes c = λ t there.
    let plan = (plain_program c.args.compiled.program.now).plan in
    (rw (c.new-barriers.ensures.code, c.new-barriers.ensures.program) at c.in_ok-expire-in-Cancelling.ensures.does)
    ∙ ap (λ (u : Turn). turn_taken (going c.args.compiled.code.now) plan (barrier_at c.args.compiled.code.now) c.args.compiled.limits (turned plan c.args.compiled.code.now c.args.taken.task c.args.state.now u) (asked_at c.args.compiled.code.now t.own.pending (scene c.args.taken.task c.args.state.now) t.control) c.args.taken c.args.state.now) (sym c.in-Cancelling.is)

pub returns-in_ok-withdraw-in-Withdrawing-clause-takes : goal.returns-in_ok-withdraw-in-Withdrawing-clause-takes
returns-in_ok-withdraw-in-Withdrawing-clause-takes c = λ t there.
    let plan = (plain_program c.args.compiled.program.now).plan in
    (rw (c.new-barriers-in-Withdrawing.ensures.code, c.new-barriers-in-Withdrawing.ensures.program) at c.in_ok-withdraw-in-Withdrawing.ensures.does)
    ∙ ap (λ (u : Turn). turn_taken (going c.args.compiled.code.now) plan (barrier_at c.args.compiled.code.now) c.args.compiled.limits (turned plan c.args.compiled.code.now c.args.taken.task c.args.state.now u) (asked_at c.args.compiled.code.now t.own.pending (scene c.args.taken.task c.args.state.now) t.control) c.args.taken c.args.state.now) (sym c.in-Withdrawing.is)

pub returns-in-Serving-clause-takes : goal.returns-in-Serving-clause-takes
returns-in-Serving-clause-takes c = if_on_ok c.serve.result _ _ c.serve.ensures.does (λ h t there.
    let plan = (plain_program c.args.compiled.program.now).plan in
    h
    ∙ ap (λ (u : Turn). turn_taken (going c.args.compiled.code.now) plan (barrier_at c.args.compiled.code.now) c.args.compiled.limits (turned plan c.args.compiled.code.now c.args.taken.task c.args.state.now u) (asked_at c.args.compiled.code.now t.own.pending (scene c.args.taken.task c.args.state.now) t.control) c.args.taken c.args.state.now) (sym c.in-Serving.is))

pub returns-in-Restarting-clause-takes : goal.returns-in-Restarting-clause-takes
returns-in-Restarting-clause-takes c = if_on_ok c.start_again.result _ _ c.start_again.ensures.does (λ h t there.
    let plan = (plain_program c.args.compiled.program.now).plan in
    h
    ∙ ap (λ (u : Turn). turn_taken (going c.args.compiled.code.now) plan (barrier_at c.args.compiled.code.now) c.args.compiled.limits (turned plan c.args.compiled.code.now c.args.taken.task c.args.state.now u) (asked_at c.args.compiled.code.now t.own.pending (scene c.args.taken.task c.args.state.now) t.control) c.args.taken c.args.state.now) (sym c.in-Restarting.is))

pub returns-in-Acting-clause-takes : goal.returns-in-Acting-clause-takes
returns-in-Acting-clause-takes c = if_ok c.act.result _ _ c.act.ensures.does (λ ticks h t there. h t there ∙ ap (λ (u : Turn). turn_taken (going c.args.compiled.code.now) (plain_program c.args.compiled.program.now).plan (barrier_at c.args.compiled.code.now) c.args.compiled.limits (turned (plain_program c.args.compiled.program.now).plan c.args.compiled.code.now c.args.taken.task c.args.state.now u) (asked_at c.args.compiled.code.now t.own.pending (scene c.args.taken.task c.args.state.now) t.control) c.args.taken c.args.state.now) (sym c.in-Acting.is))

pub returns-in_ok-expire-in-Cancelling-clause-few : goal.returns-in_ok-expire-in-Cancelling-clause-few
returns-in_ok-expire-in-Cancelling-clause-few c =
    let plan = (plain_program c.args.compiled.program.now).plan in
    let code = c.args.compiled.code.now in
    no_more plan code _ (asked_once plan (plain_program c.new-barriers.result.program.now).plan code c.new-barriers.result.code.now (ap (λ p. (plain_program p).plan) c.new-barriers.ensures.program) c.new-barriers.ensures.code c.ticks.result _ c.new-barriers.result.ticks c.new-barriers.ensures.none c.ticks.ensures c.in_ok-expire-in-Cancelling.ensures.few)

pub returns-in_ok-withdraw-in-Withdrawing-clause-few : goal.returns-in_ok-withdraw-in-Withdrawing-clause-few
returns-in_ok-withdraw-in-Withdrawing-clause-few c =
    let plan = (plain_program c.args.compiled.program.now).plan in
    let code = c.args.compiled.code.now in
    no_more plan code _ (asked_once plan (plain_program c.new-barriers-in-Withdrawing.result.program.now).plan code c.new-barriers-in-Withdrawing.result.code.now (ap (λ p. (plain_program p).plan) c.new-barriers-in-Withdrawing.ensures.program) c.new-barriers-in-Withdrawing.ensures.code c.ticks-in-Withdrawing.result _ c.new-barriers-in-Withdrawing.result.ticks c.new-barriers-in-Withdrawing.ensures.none c.ticks-in-Withdrawing.ensures c.in_ok-withdraw-in-Withdrawing.ensures.few)

pub returns-in-Serving-clause-few : goal.returns-in-Serving-clause-few
returns-in-Serving-clause-few c = if_ok c.serve.result _ _ c.serve.ensures.few (λ ticks h. no_more (plain_program c.args.compiled.program.now).plan c.args.compiled.code.now ticks h)

pub returns-in-Restarting-clause-few : goal.returns-in-Restarting-clause-few
returns-in-Restarting-clause-few c = if_ok c.start_again.result _ _ c.start_again.ensures.few (λ ticks h. no_more (plain_program c.args.compiled.program.now).plan c.args.compiled.code.now ticks h)

pub returns-in-Resting-clause-counts : goal.returns-in-Resting-clause-counts
returns-in-Resting-clause-counts c = subst (λ (u : Turn). Counts (at_turn (turned (plain_program c.args.compiled.program.now).plan c.args.compiled.code.now c.args.taken.task c.args.state.now u) (executed_in c.args.compiled.code.now c.args.taken.task c.args.state.now)) (most_of_barriers (plain_program c.args.compiled.program.now).plan c.args.compiled.code.now) 0) (sym c.in-Resting.is) (barriers_alone 0 _ 0 refl (omega arith))

pub returns-in_ok-close-in-Closing-clause-counts : goal.returns-in_ok-close-in-Closing-clause-counts
returns-in_ok-close-in-Closing-clause-counts c = subst (λ (u : Turn). Counts (at_turn (turned (plain_program c.args.compiled.program.now).plan c.args.compiled.code.now c.args.taken.task c.args.state.now u) (executed_in c.args.compiled.code.now c.args.taken.task c.args.state.now)) (most_of_barriers (plain_program c.args.compiled.program.now).plan c.args.compiled.code.now) 0) (sym c.in-Closing.is) (barriers_alone 0 _ 0 refl (omega arith))

pub returns-in_ok-complete_abnormal-in-Completing-clause-counts : goal.returns-in_ok-complete_abnormal-in-Completing-clause-counts
returns-in_ok-complete_abnormal-in-Completing-clause-counts c = subst (λ (u : Turn). Counts (at_turn (turned (plain_program c.args.compiled.program.now).plan c.args.compiled.code.now c.args.taken.task c.args.state.now u) (executed_in c.args.compiled.code.now c.args.taken.task c.args.state.now)) (most_of_barriers (plain_program c.args.compiled.program.now).plan c.args.compiled.code.now) 0) (sym c.in-Completing.is) (barriers_alone 0 _ 0 refl (omega arith))

pub returns-in-Expiring-clause-counts : goal.returns-in-Expiring-clause-counts
returns-in-Expiring-clause-counts c = subst (λ (u : Turn). Counts (at_turn (turned (plain_program c.args.compiled.program.now).plan c.args.compiled.code.now c.args.taken.task c.args.state.now u) (executed_in c.args.compiled.code.now c.args.taken.task c.args.state.now)) (most_of_barriers (plain_program c.args.compiled.program.now).plan c.args.compiled.code.now) 0) (sym c.in-Expiring.is) (barriers_alone 0 _ 0 refl (omega arith))

pub returns-in_ok-expire-in-Cancelling-clause-counts : goal.returns-in_ok-expire-in-Cancelling-clause-counts
returns-in_ok-expire-in-Cancelling-clause-counts c = subst (λ (u : Turn). Counts (at_turn (turned (plain_program c.args.compiled.program.now).plan c.args.compiled.code.now c.args.taken.task c.args.state.now u) (executed_in c.args.compiled.code.now c.args.taken.task c.args.state.now)) (most_of_barriers (plain_program c.args.compiled.program.now).plan c.args.compiled.code.now) c.ticks.result) (sym c.in-Cancelling.is) (barriers_alone 0 _ c.ticks.result refl (asked_once (plain_program c.args.compiled.program.now).plan (plain_program c.new-barriers.result.program.now).plan c.args.compiled.code.now c.new-barriers.result.code.now (ap (λ p. (plain_program p).plan) c.new-barriers.ensures.program) c.new-barriers.ensures.code c.ticks.result _ c.new-barriers.result.ticks c.new-barriers.ensures.none c.ticks.ensures c.in_ok-expire-in-Cancelling.ensures.few))

pub returns-in_ok-withdraw-in-Withdrawing-clause-counts : goal.returns-in_ok-withdraw-in-Withdrawing-clause-counts
returns-in_ok-withdraw-in-Withdrawing-clause-counts c = subst (λ (u : Turn). Counts (at_turn (turned (plain_program c.args.compiled.program.now).plan c.args.compiled.code.now c.args.taken.task c.args.state.now u) (executed_in c.args.compiled.code.now c.args.taken.task c.args.state.now)) (most_of_barriers (plain_program c.args.compiled.program.now).plan c.args.compiled.code.now) c.ticks-in-Withdrawing.result) (sym c.in-Withdrawing.is) (barriers_alone 0 _ c.ticks-in-Withdrawing.result refl (asked_once (plain_program c.args.compiled.program.now).plan (plain_program c.new-barriers-in-Withdrawing.result.program.now).plan c.args.compiled.code.now c.new-barriers-in-Withdrawing.result.code.now (ap (λ p. (plain_program p).plan) c.new-barriers-in-Withdrawing.ensures.program) c.new-barriers-in-Withdrawing.ensures.code c.ticks-in-Withdrawing.result _ c.new-barriers-in-Withdrawing.result.ticks c.new-barriers-in-Withdrawing.ensures.none c.ticks-in-Withdrawing.ensures c.in_ok-withdraw-in-Withdrawing.ensures.few))

pub returns-in-Serving-clause-counts : goal.returns-in-Serving-clause-counts
returns-in-Serving-clause-counts c = if_ok c.serve.result _ _ c.serve.ensures.few (λ ticks few.
    subst (λ (u : Turn). Counts (at_turn (turned (plain_program c.args.compiled.program.now).plan c.args.compiled.code.now c.args.taken.task c.args.state.now u) (executed_in c.args.compiled.code.now c.args.taken.task c.args.state.now)) (most_of_barriers (plain_program c.args.compiled.program.now).plan c.args.compiled.code.now) ticks) (sym c.in-Serving.is) (barriers_alone 0 _ ticks refl few))

pub returns-in-Restarting-clause-counts : goal.returns-in-Restarting-clause-counts
returns-in-Restarting-clause-counts c = if_ok c.start_again.result _ _ c.start_again.ensures.few (λ ticks few.
    subst (λ (u : Turn). Counts (at_turn (turned (plain_program c.args.compiled.program.now).plan c.args.compiled.code.now c.args.taken.task c.args.state.now u) (executed_in c.args.compiled.code.now c.args.taken.task c.args.state.now)) (most_of_barriers (plain_program c.args.compiled.program.now).plan c.args.compiled.code.now) ticks) (sym c.in-Restarting.is) (barriers_alone 0 _ ticks refl few))

pub returns-in-Acting-clause-counts : goal.returns-in-Acting-clause-counts
returns-in-Acting-clause-counts c = if_ok c.act.result _ _ c.act.ensures.counts (λ ticks h.
    subst (λ (u : Turn). Counts (at_turn (turned (plain_program c.args.compiled.program.now).plan c.args.compiled.code.now c.args.taken.task c.args.state.now u) (executed_in c.args.compiled.code.now c.args.taken.task c.args.state.now)) (most_of_barriers (plain_program c.args.compiled.program.now).plan c.args.compiled.code.now) ticks) (sym c.in-Acting.is) h)
