use Rattle.std.proofs.Common.{ap, false, not, sym, ◌∙◌}
use Rattle.aud_typed.specs.Ties.View.{plain_program}
use Rattle.aud_meaning.specs.Parts.{in_the_way, is_idle, object_of, Closable}
use Rattle.aud_meaning.specs.Run.{serve_moves}
use Rattle.aud_code.specs.Flat.{barrier_at}
use Rattle.aud_tasks.specs.declared.turn.Turn.TheVariants.{Acting, Cancelling, Closing, Completing, Expiring, Resting, Restarting, Serving, Withdrawing}
use Rattle.aud_tasks.specs.Moving.{alone_if, picked}
use Rattle.aud_tasks.proofs.MoveLaws.Moving.{closes, eligible_seen, only_if, turn_told}
use Rattle.aud_tasks.proofs.Results.{if_ok}
use Rattle.aud_tasks.proofs.moves.enabled_of.Goals as goal

pub returns-in-Resting : goal.returns-in-Resting
returns-in-Resting c =
    let plan = (plain_program c.args.compiled.program.now).plan in
    sym (turn_told plan c.args.compiled.code.now c.args.state.now c.args.task c.turn_of.result Resting (c.turn_of.ensures plan) c.in-Resting.is)

pub returns-in-Closing : goal.returns-in-Closing
returns-in-Closing c =
    let plan = (plain_program c.args.compiled.program.now).plan in
    let code = c.args.compiled.code.now in
    let s = c.args.state.now in
    let n = c.args.task in
    c.one_if.ensures n s.clock
    ∙ ap (λ b. alone_if b n) (c.closable.ensures ∙ ap (λ m. Closable m s) c.body_master.ensures)
    ∙ closes plan code s n
    ∙ sym (turn_told plan code s n c.turn_of.result Closing (c.turn_of.ensures plan) c.in-Closing.is)

pub returns-in-Withdrawing : goal.returns-in-Withdrawing
returns-in-Withdrawing c =
    let plan = (plain_program c.args.compiled.program.now).plan in
    let code = c.args.compiled.code.now in
    let s = c.args.state.now in
    let n = c.args.task in
    c.one_if-in-Withdrawing.ensures n s.clock
    ∙ ap (λ b. alone_if b n) c.is_idle.ensures
    ∙ only_if plan code (is_idle (object_of c.in-Withdrawing.object s)) n
    ∙ sym (turn_told plan code s n c.turn_of.result (Withdrawing c.in-Withdrawing.object) (c.turn_of.ensures plan) c.in-Withdrawing.is)

pub returns-in-Restarting : goal.returns-in-Restarting
returns-in-Restarting c =
    let plan = (plain_program c.args.compiled.program.now).plan in
    let code = c.args.compiled.code.now in
    let s = c.args.state.now in
    let n = c.args.task in
    let restart = c.in-Restarting.restart in
    c.one_if-in-Restarting.ensures n s.clock
    ∙ ap (λ b. alone_if b n) c.may_begin.ensures
    ∙ only_if plan code (not (in_the_way n false (object_of restart.object s))) n
    ∙ sym (turn_told plan code s n c.turn_of.result (Restarting restart) (c.turn_of.ensures plan) c.in-Restarting.is)

pub returns-in-Expiring : goal.returns-in-Expiring
returns-in-Expiring c =
    let plan = (plain_program c.args.compiled.program.now).plan in
    let code = c.args.compiled.code.now in
    let s = c.args.state.now in
    let n = c.args.task in
    ap (picked n s.clock) c.delays.ensures
    ∙ sym (turn_told plan code s n c.turn_of.result Expiring (c.turn_of.ensures plan) c.in-Expiring.is)

pub returns-in-Cancelling : goal.returns-in-Cancelling
returns-in-Cancelling c =
    let plan = (plain_program c.args.compiled.program.now).plan in
    let code = c.args.compiled.code.now in
    let s = c.args.state.now in
    let n = c.args.task in
    c.one_if-in-Cancelling.ensures n s.clock
    ∙ c.can_be_cancelled.ensures plan code
    ∙ sym (turn_told plan code s n c.turn_of.result Cancelling (c.turn_of.ensures plan) c.in-Cancelling.is)

pub returns-in-Acting : goal.returns-in-Acting
returns-in-Acting c = if_ok c.acting.result _ _ c.acting.ensures (λ enabled h.
    let plan = (plain_program c.args.compiled.program.now).plan in
    h ∙ sym (turn_told plan c.args.compiled.code.now c.args.state.now c.args.task c.turn_of.result Acting (c.turn_of.ensures plan) c.in-Acting.is))

pub returns-in-Completing : goal.returns-in-Completing
returns-in-Completing c =
    let plan = (plain_program c.args.compiled.program.now).plan in
    sym (turn_told plan c.args.compiled.code.now c.args.state.now c.args.task c.turn_of.result Completing (c.turn_of.ensures plan) c.in-Completing.is)

pub returns-in-Serving : goal.returns-in-Serving
returns-in-Serving c = if_ok c.serves.result _ _ c.serves.ensures (λ enabled h.
    let plan = (plain_program c.args.compiled.program.now).plan in
    let code = c.args.compiled.code.now in
    let s = c.args.state.now in
    let n = c.args.task in
    h n
    ∙ ap (λ e. serve_moves plan (barrier_at code) e n) (eligible_seen plan code s c.in-Serving.serving.object)
    ∙ sym (turn_told plan code s n c.turn_of.result (Serving c.in-Serving.serving) (c.turn_of.ensures plan) c.in-Serving.is))
