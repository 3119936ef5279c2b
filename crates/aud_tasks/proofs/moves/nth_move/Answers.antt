use Rattle.std.proofs.Common.{◌≡◌, ◌+◌, ◌-◌, ◌∷◌, [], Some, ap, sym, slice_get, ◌∙◌, arith}
use Rattle.aud_typed.specs.Ties.View.{plain_program}
use Rattle.aud_meaning.specs.Run.{own_move}
use Rattle.aud_tasks.specs.Enabled.{enabled_moves}
use Rattle.aud_tasks.proofs.MoveLaws.Moving.{get_none, moves_all, moves_none, moves_past, nth_behind, nth_here}
use Rattle.aud_tasks.proofs.MoveLaws.Resting.{rests_between}
use Rattle.aud_tasks.proofs.moves.nth_move.Goals as goal

pub returns-then-not-may_move : goal.returns-then-not-may_move
returns-then-not-may_move c =
    let plan = (plain_program c.args.compiled.program.now).plan in
    sym (ap (λ ms. slice_get ms c.args.index) (moves_none plan c.args.compiled.code.now c.args.state.now (sym c.may_move.ensures ∙ c.if-not-may_move.true)))

pub returns : goal.returns
returns c =
    let plan = (plain_program c.args.compiled.program.now).plan in
    let code = c.args.compiled.code.now in
    let s = c.args.state.now in
    sym (ap (λ ms. slice_get ms c.args.index) (moves_all plan code s (sym c.may_move.ensures ∙ c.if-not-may_move.false))
    ∙ c.loop-task.invariant
    ∙ ap (λ ms. slice_get ms c.loop-task.left) (moves_past plan code s c.loop-task.task (omega arith)))

pub returns-in-Some : goal.returns-in-Some
returns-in-Some c =
    let plan = (plain_program c.args.compiled.program.now).plan in
    let code = c.args.compiled.code.now in
    let s = c.args.state.now in
    let n = c.loop-task.task in
    let e = c.in_ok-enabled.enabled in
    let k = c.clock-clock.result in
    sym (ap (λ ms. slice_get ms c.args.index) (moves_all plan code s (sym c.may_move.ensures ∙ c.if-not-may_move.false))
    ∙ c.loop-task.invariant
    ∙ nth_here plan code s n c.loop-task.left (enabled_moves n k e) c.in-Some.found (omega arith) (ap (λ t. enabled_moves n t e) c.clock-clock.ensures.value ∙ c.in_ok-enabled.ensures) (sym c.nth.ensures ∙ c.in-Some.is))

pub overflow_sub-left : goal.overflow_sub-left
overflow_sub-left c =
    let few = get_none (enabled_moves c.loop-task.task c.clock-clock.result c.in_ok-enabled.enabled) c.loop-task.left (sym c.nth.ensures ∙ c.in_default.is) in
    omega (arith, few, c.count-left.ensures)

pub loop-task-preserved-in_default : goal.loop-task-preserved-in_default
loop-task-preserved-in_default c =
    let plan = (plain_program c.args.compiled.program.now).plan in
    let code = c.args.compiled.code.now in
    let s = c.args.state.now in
    let n = c.loop-task.task in
    let e = c.in_ok-enabled.enabled in
    let k = c.clock-clock.result in
    let is_none = sym c.nth.ensures ∙ c.in_default.is in
    let few = get_none (enabled_moves n k e) c.loop-task.left is_none in
    c.loop-task.invariant
    ∙ nth_behind plan code s n c.loop-task.left (c.loop-task.left - c.count-left.result) (enabled_moves n k e) (omega arith) (ap (λ t. enabled_moves n t e) c.clock-clock.ensures.value ∙ c.in_ok-enabled.ensures) is_none (omega (arith, few, c.count-left.ensures))
    ∙ ap (λ ms. slice_get ms (c.loop-task.left - c.count-left.result))
    (rests_between plan code s (n + 1) c.next_awake-task-in-loop-task.result c.next_awake-task-in-loop-task.ensures.on c.next_awake-task-in-loop-task.ensures.within c.next_awake-task-in-loop-task.ensures.rest)

pub loop-task-preserved : goal.loop-task-preserved
loop-task-preserved c =
    let plan = (plain_program c.args.compiled.program.now).plan in
    let code = c.args.compiled.code.now in
    let s = c.args.state.now in
    let n = c.loop-task.task in
    let e = c.in_ok-enabled.enabled in
    let k = c.clock-clock.result in
    let is_none = sym c.nth.ensures ∙ c.in_default.is in
    let few = get_none (enabled_moves n k e) c.loop-task.left is_none in
    c.loop-task.invariant
    ∙ nth_behind plan code s n c.loop-task.left (c.loop-task.left - c.count-left.result) (enabled_moves n k e) (omega arith) (ap (λ t. enabled_moves n t e) c.clock-clock.ensures.value ∙ c.in_ok-enabled.ensures) is_none (omega (arith, few, c.count-left.ensures))
    ∙ ap (λ ms. slice_get ms (c.loop-task.left - c.count-left.result))
    (rests_between plan code s (n + 1) c.next_awake-task-in-loop-task.result c.next_awake-task-in-loop-task.ensures.on c.next_awake-task-in-loop-task.ensures.within c.next_awake-task-in-loop-task.ensures.rest)

pub loop-task-init : goal.loop-task-init
loop-task-init c =
    let plan = (plain_program c.args.compiled.program.now).plan in
    ap (λ ms. slice_get ms c.args.index)
    (rests_between plan c.args.compiled.code.now c.args.state.now 0 c.next_awake-task.result c.next_awake-task.ensures.on c.next_awake-task.ensures.within c.next_awake-task.ensures.rest)

pub returns-then-acts_simply : goal.returns-then-acts_simply
returns-then-acts_simply c =
    let plan = (plain_program c.args.compiled.program.now).plan in
    let code = c.args.compiled.code.now in
    let s = c.args.state.now in
    let n = c.loop-task.task in
    let first : c.loop-task.left ≡ 0 = omega (arith, c.if-left-eq0.true) in
    sym (ap (λ ms. slice_get ms c.args.index) (moves_all plan code s (sym c.may_move.ensures ∙ c.if-not-may_move.false))
    ∙ c.loop-task.invariant
    ∙ nth_here plan code s n c.loop-task.left (own_move n ∷ []) c.only_move.result (omega arith) (sym (c.acts_simply.ensures.alone c.if-acts_simply.true plan))
    (ap (slice_get (own_move n ∷ [])) first ∙ ap Some (sym c.only_move.ensures)))
