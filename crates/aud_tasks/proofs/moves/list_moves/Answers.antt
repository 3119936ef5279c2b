use Rattle.std.specs.Prelude.{IsTrue}
use Rattle.std.proofs.Common.{◌≡◌, ◌+◌, Bool, true, false, sym, ◌∙◌, arith}
use Rattle.aud_typed.specs.Ties.View.{plain_program}
use Rattle.aud_tasks.proofs.MoveLaws.Listing.{all_act, all_listed, none_listed, one_listed, skipped}
use Rattle.aud_tasks.proofs.MoveLaws.Moving.{moves_all, moves_none}
use Rattle.aud_tasks.proofs.moves.list_moves.Goals as goal
use Rattle.aud_tasks.proofs.moves.list_moves.Goals.{then-are_simple, else-are_simple}

neither : {A : Type 0} (b : Bool) → b ≡ false → IsTrue b → A
neither b is holds = let wrong : false ≡ true = sym is ∙ holds in absurd (cc)

pub returns-then-not-may_move-clause-listed : goal.returns-then-not-may_move-clause-listed
returns-then-not-may_move-clause-listed c =
    let plan = (plain_program c.args.compiled.program.now).plan in
    c.clear.ensures.items ∙ sym (moves_none plan c.args.compiled.code.now c.args.state.now (sym c.may_move.ensures ∙ c.if-not-may_move.true))

pub loop-task-init : goal.loop-task-init
loop-task-init c =
    let plan = (plain_program c.args.compiled.program.now).plan in
    let code = c.args.compiled.code.now in
    let s = c.args.state.now in
    let next = c.next_awake-task in
    skipped plan code s 0 next.result next.ensures.on next.ensures.within next.ensures.rest _ _ (none_listed plan code s _ c.clear.ensures.items)

pub loop-task-preserved : goal.loop-task-preserved
loop-task-preserved c =
    let plan = (plain_program c.args.compiled.program.now).plan in
    let code = c.args.compiled.code.now in
    let s = c.args.state.now in
    let n = c.loop-task.task in
    let next = c.next_awake-task-in-loop-task in
    skipped plan code s (n + 1) next.result next.ensures.on next.ensures.within next.ensures.rest _ c.if-are_simple.are_simple
    (one_listed plan code s n c.loop-task.moves.items c.list_task.new.moves.items c.loop-task.are_simple c.if-are_simple.are_simple c.loop-task.invariant (omega arith) c.in_ok-is_simple.ensures.listed
    (elim c.if-are_simple.branch [
      | then-are_simple w ↦ λ both. w.if-are_simple.true
      | else-are_simple w ↦ λ both. sym w.are_simple-is ∙ both
    ])
    (elim c.if-are_simple.branch [
      | then-are_simple w ↦ λ both. c.in_ok-is_simple.ensures.simple (sym w.are_simple-is ∙ both)
      | else-are_simple w ↦ λ both. neither c.loop-task.are_simple w.if-are_simple.false (sym w.are_simple-is ∙ both)
    ]))

pub returns-clause-listed : goal.returns-clause-listed
returns-clause-listed c =
    let plan = (plain_program c.args.compiled.program.now).plan in
    let code = c.args.compiled.code.now in
    let s = c.args.state.now in
    all_listed plan code s c.loop-task.task c.loop-task.moves.items c.loop-task.are_simple (omega arith) c.loop-task.invariant
    ∙ sym (moves_all plan code s (sym c.may_move.ensures ∙ c.if-not-may_move.false))

pub returns-clause-simple : goal.returns-clause-simple
returns-clause-simple c = all_act (plain_program c.args.compiled.program.now).plan c.args.compiled.code.now c.args.state.now c.loop-task.task c.loop-task.moves.items c.loop-task.are_simple (omega arith) c.loop-task.invariant
