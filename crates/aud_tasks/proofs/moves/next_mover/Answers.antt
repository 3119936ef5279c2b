use Rattle.std.proofs.Common.{◌+◌, ◌++◌, ap, sym, ◌∙◌, arith}
use Rattle.aud_typed.specs.Ties.View.{plain_program}
use Rattle.aud_tasks.specs.Moving.{moves_behind, moves_of}
use Rattle.aud_tasks.proofs.MoveLaws.Moving.{moves_next, moves_past, none_first}
use Rattle.aud_tasks.proofs.MoveLaws.Resting.{rests_between}
use Rattle.aud_tasks.proofs.moves.next_mover.Goals as goal

pub returns-then-has_move-clause-some : goal.returns-then-has_move-clause-some
returns-then-has_move-clause-some c =
    let plan = (plain_program c.args.compiled.program.now).plan in record {
      within = omega arith;
      behind = c.loop-task.invariant;
      moves = sym (c.has_move.ensures) ∙ c.if-has_move.true;
    }

pub loop-task-init : goal.loop-task-init
loop-task-init c =
    let plan = (plain_program c.args.compiled.program.now).plan in
    rests_between plan c.args.compiled.code.now c.args.state.now c.args.from c.next_awake-task.result c.next_awake-task.ensures.on c.next_awake-task.ensures.within c.next_awake-task.ensures.rest

pub loop-task-preserved : goal.loop-task-preserved
loop-task-preserved c =
    let plan = (plain_program c.args.compiled.program.now).plan in
    let code = c.args.compiled.code.now in
    let s = c.args.state.now in
    let n = c.loop-task.task in
    c.loop-task.invariant
    ∙ moves_next plan code s n (omega arith)
    ∙ ap (λ ms. ms ++ moves_behind plan code (n + 1) s) (none_first (moves_of plan code n s) (sym (c.has_move.ensures) ∙ c.if-has_move.false))
    ∙ rests_between plan code s (n + 1) c.next_awake-task-in-loop-task.result c.next_awake-task-in-loop-task.ensures.on c.next_awake-task-in-loop-task.ensures.within c.next_awake-task-in-loop-task.ensures.rest

pub returns-clause-none : goal.returns-clause-none
returns-clause-none c =
    let plan = (plain_program c.args.compiled.program.now).plan in
    c.loop-task.invariant ∙ moves_past plan c.args.compiled.code.now c.args.state.now c.loop-task.task (omega arith)
