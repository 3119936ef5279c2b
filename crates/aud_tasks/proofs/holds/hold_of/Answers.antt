use Rattle.std.proofs.Common.{ap, not, ◌∙◌}
use Rattle.aud_typed.specs.Ties.View.{plain_program}
use Rattle.aud_meaning.specs.Listings.Waits.{a_call, blocked_hold, master_if, resting_hold}
use Rattle.aud_meaning.specs.Parts.{Closable}
use Rattle.aud_tasks.specs.declared.turn.Turn.TheVariants.{Acting, Cancelling, Closing, Completing, Expiring, Resting, Restarting, Serving, Withdrawing}
use Rattle.aud_tasks.proofs.MoveLaws.Moving.{acting_there}
use Rattle.aud_tasks.proofs.ViewLaws.Held.{hold_told}
use Rattle.aud_tasks.proofs.holds.hold_of.Goals as goal

pub returns-in-Resting : goal.returns-in-Resting
returns-in-Resting c =
    let plan = (plain_program c.args.compiled.program.now).plan in
    c.resting.ensures
    ∙ ap resting_hold c.status.ensures
    ∙ hold_told plan c.args.compiled.code.now c.args.task c.args.state.now c.turn_of.result Resting (c.turn_of.ensures plan) c.in-Resting.is

pub returns-in-Closing : goal.returns-in-Closing
returns-in-Closing c =
    let plan = (plain_program c.args.compiled.program.now).plan in
    let code = c.args.compiled.code.now in
    let s = c.args.state.now in
    let n = c.args.task in
    c.at_master.ensures
    ∙ ap (λ m. master_if (not (Closable m s)) m) c.body_master.ensures
    ∙ hold_told plan code n s c.turn_of.result Closing (c.turn_of.ensures plan) c.in-Closing.is

pub returns-in-Completing : goal.returns-in-Completing
returns-in-Completing c =
    let plan = (plain_program c.args.compiled.program.now).plan in
    hold_told plan c.args.compiled.code.now c.args.task c.args.state.now c.turn_of.result Completing (c.turn_of.ensures plan) c.in-Completing.is

pub returns-in-Withdrawing : goal.returns-in-Withdrawing
returns-in-Withdrawing c =
    let plan = (plain_program c.args.compiled.program.now).plan in
    c.withdrawing.ensures
    ∙ hold_told plan c.args.compiled.code.now c.args.task c.args.state.now c.turn_of.result (Withdrawing c.in-Withdrawing.object) (c.turn_of.ensures plan) c.in-Withdrawing.is

pub returns-in-Serving : goal.returns-in-Serving
returns-in-Serving c =
    let plan = (plain_program c.args.compiled.program.now).plan in
    hold_told plan c.args.compiled.code.now c.args.task c.args.state.now c.turn_of.result (Serving c.in-Serving.field-0) (c.turn_of.ensures plan) c.in-Serving.is

pub returns-in-Restarting : goal.returns-in-Restarting
returns-in-Restarting c =
    let plan = (plain_program c.args.compiled.program.now).plan in
    c.at_object.ensures
    ∙ hold_told plan c.args.compiled.code.now c.args.task c.args.state.now c.turn_of.result (Restarting c.in-Restarting.restart) (c.turn_of.ensures plan) c.in-Restarting.is

pub returns-in-Expiring : goal.returns-in-Expiring
returns-in-Expiring c =
    let plan = (plain_program c.args.compiled.program.now).plan in
    c.blocked.ensures
    ∙ ap blocked_hold c.status-in-Expiring.ensures
    ∙ hold_told plan c.args.compiled.code.now c.args.task c.args.state.now c.turn_of.result Expiring (c.turn_of.ensures plan) c.in-Expiring.is

pub returns-in-Cancelling : goal.returns-in-Cancelling
returns-in-Cancelling c =
    let plan = (plain_program c.args.compiled.program.now).plan in
    ap a_call c.call.ensures
    ∙ hold_told plan c.args.compiled.code.now c.args.task c.args.state.now c.turn_of.result Cancelling (c.turn_of.ensures plan) c.in-Cancelling.is

pub acting-requires : goal.acting-requires
acting-requires c =
    let plan = (plain_program c.args.compiled.program.now).plan in
    acting_there plan c.args.compiled.code.now c.args.state.now c.args.task c.turn_of.result (c.turn_of.ensures plan) c.in-Acting.is

pub returns-in-Acting : goal.returns-in-Acting
returns-in-Acting c =
    let plan = (plain_program c.args.compiled.program.now).plan in
    c.acting.ensures
    ∙ hold_told plan c.args.compiled.code.now c.args.task c.args.state.now c.turn_of.result Acting (c.turn_of.ensures plan) c.in-Acting.is
