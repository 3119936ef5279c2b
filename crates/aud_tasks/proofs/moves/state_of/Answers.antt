use Rattle.std.proofs.Common.{false, true, refl, ap, sym, ◌∙◌}
use Rattle.aud_typed.specs.Ties.View.{plain_program}
use Rattle.aud_meaning.specs.Run.{moves_at}
use Rattle.aud_code.specs.Flat.{flat_controls}
use Rattle.aud_tasks.proofs.MoveLaws.Moving.{mover_moves, no_mover, some_there, state_as, state_more, state_waits, times}
use Rattle.aud_tasks.proofs.MoveLaws.Soonest.{waiting_law, waits_for}
use Rattle.aud_tasks.proofs.moves.state_of.Goals as goal

pub returns-then-has_ended : goal.returns-then-has_ended
returns-then-has_ended c =
    let plan = (plain_program c.args.compiled.program.now).plan in
    let s = c.args.state.now in
    sym (state_as plan c.args.compiled.code.now s true s.shared.cut (sym c.has_ended.ensures ∙ c.if-has_ended.true) refl)

pub returns-then-is_cut : goal.returns-then-is_cut
returns-then-is_cut c =
    let plan = (plain_program c.args.compiled.program.now).plan in
    sym (state_as plan c.args.compiled.code.now c.args.state.now false true (sym c.has_ended.ensures ∙ c.if-has_ended.false) (sym c.is_cut.ensures ∙ c.if-is_cut.true))

pub returns-in-Some : goal.returns-in-Some
returns-in-Some c =
    let plan = (plain_program c.args.compiled.program.now).plan in
    let code = c.args.compiled.code.now in
    let s = c.args.state.now in
    let runs = sym c.has_ended.ensures ∙ c.if-has_ended.false in
    let room = sym c.is_cut.ensures ∙ c.if-is_cut.false in
    let first = some_there (moves_at plan (flat_controls plan code) s) (mover_moves plan code s c.in-Some.field-0 (c.in-Some.ensures.some) runs room) in
    sym (state_more plan code s first.0 runs room first.1)

pub returns-in-Some-soonest : goal.returns-in-Some-soonest
returns-in-Some-soonest c =
    let plan = (plain_program c.args.compiled.program.now).plan in
    let code = c.args.compiled.code.now in
    let s = c.args.state.now in
    sym (state_waits plan code s (sym c.has_ended.ensures ∙ c.if-has_ended.false) (sym c.is_cut.ensures ∙ c.if-is_cut.false) (no_mover plan code s (c.in-None.ensures.none) (sym c.has_ended.ensures ∙ c.if-has_ended.false) (sym c.is_cut.ensures ∙ c.if-is_cut.false))
    ∙ sym (waiting_law plan code (times plan code s 0))
    ∙ ap waits_for (sym (c.soonest.ensures plan) ∙ c.in-Some-soonest.is))

pub returns-in-None-soonest : goal.returns-in-None-soonest
returns-in-None-soonest c =
    let plan = (plain_program c.args.compiled.program.now).plan in
    let code = c.args.compiled.code.now in
    let s = c.args.state.now in
    sym (state_waits plan code s (sym c.has_ended.ensures ∙ c.if-has_ended.false) (sym c.is_cut.ensures ∙ c.if-is_cut.false) (no_mover plan code s (c.in-None.ensures.none) (sym c.has_ended.ensures ∙ c.if-has_ended.false) (sym c.is_cut.ensures ∙ c.if-is_cut.false))
    ∙ sym (waiting_law plan code (times plan code s 0))
    ∙ ap waits_for (sym (c.soonest.ensures plan) ∙ c.in-None-soonest.is))
