use Rattle.std.proofs.Common.{ap, false, not, sym, ◌∙◌}
use Rattle.aud_typed.specs.Ties.View.{plain_program}
use Rattle.aud_meaning.specs.Parts.{in_the_way, is_idle, object_of, Closable}
use Rattle.aud_meaning.specs.Run.{seen}
use Rattle.aud_meaning.specs.Tasks.{eligible}
use Rattle.aud_code.specs.Flat.{barrier_at, flat_controls}
use Rattle.aud_tasks.specs.declared.turn.Turn.TheVariants.{Acting, Cancelling, Closing, Completing, Expiring, Resting, Restarting, Serving, Withdrawing}
use Rattle.aud_tasks.specs.Moving.{alone_if, has_some, picked}
use Rattle.aud_tasks.proofs.MoveLaws.Moving.{acting_there, closes, only_if, serve_some, some_only, turn_told}
use Rattle.aud_tasks.proofs.MoveLaws.Resting.{rests_none}
use Rattle.aud_tasks.proofs.moves.has_move.Goals as goal

pub returns-in-Resting : goal.returns-in-Resting
returns-in-Resting c =
    let plan = (plain_program c.args.compiled.program.now).plan in
    sym (ap has_some (turn_told plan c.args.compiled.code.now c.args.state.now c.args.task c.turn_of.result Resting (c.turn_of.ensures plan) c.in-Resting.is))

pub returns-in-Completing : goal.returns-in-Completing
returns-in-Completing c =
    let plan = (plain_program c.args.compiled.program.now).plan in
    sym (ap has_some (turn_told plan c.args.compiled.code.now c.args.state.now c.args.task c.turn_of.result Completing (c.turn_of.ensures plan) c.in-Completing.is))

pub returns-in-Serving : goal.returns-in-Serving
returns-in-Serving c =
    let plan = (plain_program c.args.compiled.program.now).plan in
    let code = c.args.compiled.code.now in
    let s = c.args.state.now in
    let n = c.args.task in
    sym (ap has_some
    (turn_told plan code s n c.turn_of.result (Serving c.in-Serving.field-0) (c.turn_of.ensures plan) c.in-Serving.is)
    ∙ serve_some plan code (eligible plan (barrier_at code) c.in-Serving.field-0.object (seen plan (flat_controls plan code) s)) n)

pub returns-in-Closing : goal.returns-in-Closing
returns-in-Closing c =
    let plan = (plain_program c.args.compiled.program.now).plan in
    let code = c.args.compiled.code.now in
    let s = c.args.state.now in
    let n = c.args.task in
    some_only plan code s c.closable.result n
    ∙ ap has_some
    (ap (λ b. alone_if b n) (c.closable.ensures ∙ ap (λ m. Closable m s) c.body_master.ensures)
    ∙ closes plan code s n
    ∙ sym (turn_told plan code s n c.turn_of.result Closing (c.turn_of.ensures plan) c.in-Closing.is))

pub returns-in-Withdrawing : goal.returns-in-Withdrawing
returns-in-Withdrawing c =
    let plan = (plain_program c.args.compiled.program.now).plan in
    let code = c.args.compiled.code.now in
    let s = c.args.state.now in
    let n = c.args.task in
    some_only plan code s c.is_idle.result n
    ∙ ap has_some
    (ap (λ b. alone_if b n) c.is_idle.ensures
    ∙ only_if plan code (is_idle (object_of c.in-Withdrawing.object s)) n
    ∙ sym (turn_told plan code s n c.turn_of.result (Withdrawing c.in-Withdrawing.object) (c.turn_of.ensures plan) c.in-Withdrawing.is))

pub returns-in-Restarting : goal.returns-in-Restarting
returns-in-Restarting c =
    let plan = (plain_program c.args.compiled.program.now).plan in
    let code = c.args.compiled.code.now in
    let s = c.args.state.now in
    let n = c.args.task in
    let restart = c.in-Restarting.restart in
    some_only plan code s c.may_begin.result n
    ∙ ap has_some
    (ap (λ b. alone_if b n) c.may_begin.ensures
    ∙ only_if plan code (not (in_the_way n false (object_of restart.object s))) n
    ∙ sym (turn_told plan code s n c.turn_of.result (Restarting restart) (c.turn_of.ensures plan) c.in-Restarting.is))

pub returns-in-Expiring : goal.returns-in-Expiring
returns-in-Expiring c =
    let plan = (plain_program c.args.compiled.program.now).plan in
    let code = c.args.compiled.code.now in
    let s = c.args.state.now in
    let n = c.args.task in
    c.has_ended_delay.ensures
    ∙ ap (λ k. has_some (picked n k c.delays.result.now)) c.clock.ensures.value
    ∙ ap has_some
    (ap (picked n s.clock) c.delays.ensures
    ∙ sym (turn_told plan code s n c.turn_of.result Expiring (c.turn_of.ensures plan) c.in-Expiring.is))

pub returns-in-Cancelling : goal.returns-in-Cancelling
returns-in-Cancelling c =
    let plan = (plain_program c.args.compiled.program.now).plan in
    let code = c.args.compiled.code.now in
    let s = c.args.state.now in
    let n = c.args.task in
    some_only plan code s c.can_be_cancelled.result n
    ∙ ap has_some
    (c.can_be_cancelled.ensures plan code
    ∙ sym (turn_told plan code s n c.turn_of.result Cancelling (c.turn_of.ensures plan) c.in-Cancelling.is))

pub can_act-requires : goal.can_act-requires
can_act-requires c =
    let plan = (plain_program c.args.compiled.program.now).plan in
    acting_there plan c.args.compiled.code.now c.args.state.now c.args.task c.turn_of.result (c.turn_of.ensures plan) c.in-Acting.is

pub returns-in-Acting : goal.returns-in-Acting
returns-in-Acting c =
    let plan = (plain_program c.args.compiled.program.now).plan in
    let code = c.args.compiled.code.now in
    let s = c.args.state.now in
    let n = c.args.task in
    c.can_act.ensures
    ∙ ap has_some (sym (turn_told plan code s n c.turn_of.result Acting (c.turn_of.ensures plan) c.in-Acting.is))

pub returns-then-rests : goal.returns-then-rests
returns-then-rests c =
    let plan = (plain_program c.args.compiled.program.now).plan in
    sym (ap has_some (rests_none plan c.args.compiled.code.now c.args.task c.args.state.now (c.rests.ensures c.if-rests.true)))

pub returns-then-acts_simply : goal.returns-then-acts_simply
returns-then-acts_simply c =
    let plan = (plain_program c.args.compiled.program.now).plan in
    sym (ap has_some (c.acts_simply.ensures.alone c.if-acts_simply.true plan))
