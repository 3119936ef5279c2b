use Rattle.std.proofs.Common.{List, [], ap, sym, ◌∙◌}
use Rattle.std.specs.Prelude.{filter}
use Rattle.aud_typed.specs.Tree.{Plan}
use Rattle.aud_meaning.specs.declared.state.OpenAccept.{OpenAccept}
use Rattle.aud_meaning.specs.Run.{alternatives_of, has_queue, seen}
use Rattle.aud_code.specs.Flat.{barrier_at, flat_controls}
use Rattle.aud_tasks.specs.Choices.{marked}
use Rattle.aud_tasks.proofs.MoveLaws.Choosing.{all_called, all_open, begins, is_marked, none_called, not_marked}
use Rattle.aud_tasks.proofs.StepLaws.Stepping.{task_there}
use Rattle.aud_tasks.proofs.moves.choose.Goals as goal

-- any plan tells where the task stands
abbrev no_plan : Plan
no_plan = record { regions = []; units = []; exceptions = []; tasks = []; entries = []; objects = [] }

pub evaluate_to_mark-requires-clause-begins : goal.evaluate_to_mark-requires-clause-begins
evaluate_to_mark-requires-clause-begins c = begins no_plan c.args.code.now c.args.state.now c.args.task c.args.choice c.requires.spots (c.requires.comes no_plan)

pub returns-then-not-is_marked : goal.returns-then-not-is_marked
returns-then-not-is_marked c = λ plan.
    let code = c.args.code.now in
    let s = c.args.state.now in
    let t = task_there s.tasks c.args.task c.requires.within in
    not_marked plan code c.args.task s c.args.choice (marked code c.args.task t.0 s) c.evaluate_to_mark.new.operands c.in_ok-is_marked.is_marked c.if-not-is_marked.true (c.in_ok-is_marked.ensures t.0 t.1) (c.requires.comes plan t.0 t.1).1

pub returns-in_ok-numbers-in-Select : goal.returns-in_ok-numbers-in-Select
returns-in_ok-numbers-in-Select c = λ plan.
    let code = c.args.code.now in
    let s = c.args.state.now in
    let n = c.args.task in
    let t = task_there s.tasks n c.requires.within in
    let x = marked code n t.0 s in
    let o = c.evaluate_to_mark.new.operands in
    all_open plan code n s c.args.choice x o c.in_ok-numbers-in-Select.numbers.items c.in-Select.is (is_marked plan code n s x o c.in_ok-is_marked.is_marked c.if-not-is_marked.false (c.in_ok-is_marked.ensures t.0 t.1)) (c.requires.comes plan t.0 t.1).1
    (c.in_ok-numbers-in-Select.ensures plan code ∙ ap (λ (accepts : List OpenAccept). alternatives_of plan (barrier_at code) (filter (has_queue plan (barrier_at code) n (seen plan (flat_controls plan code) s)) accepts)) c.accepts.ensures)

pub returns-in_ok-numbers-in-Some : goal.returns-in_ok-numbers-in-Some
returns-in_ok-numbers-in-Some c = λ plan.
    let code = c.args.code.now in
    let s = c.args.state.now in
    let n = c.args.task in
    let t = task_there s.tasks n c.requires.within in
    let x = marked code n t.0 s in
    let o = c.evaluate_to_mark.new.operands in
    all_called plan code n s c.args.choice c.in-Call.entry c.in-Some.callee x o c.in_ok-numbers-in-Some.numbers.items c.in-Call.is (is_marked plan code n s x o c.in_ok-is_marked.is_marked c.if-not-is_marked.false (c.in_ok-is_marked.ensures t.0 t.1)) (sym c.callee.ensures ∙ c.in-Some.is) (c.requires.comes plan t.0 t.1).1 c.in_ok-numbers-in-Some.ensures

pub returns-in-None : goal.returns-in-None
returns-in-None c = λ plan.
    let code = c.args.code.now in
    let s = c.args.state.now in
    let n = c.args.task in
    let t = task_there s.tasks n c.requires.within in
    let x = marked code n t.0 s in
    let o = c.evaluate_to_mark.new.operands in
    none_called plan code n s c.args.choice c.in-Call.entry x o c.in-Call.is (is_marked plan code n s x o c.in_ok-is_marked.is_marked c.if-not-is_marked.false (c.in_ok-is_marked.ensures t.0 t.1)) (sym c.callee.ensures ∙ c.in-None.is) (c.requires.comes plan t.0 t.1).1
