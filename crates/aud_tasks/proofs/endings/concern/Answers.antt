use Rattle.std.proofs.Common.{ap, ◌∙◌}
use Rattle.aud_typed.specs.Ties.View.{plain_program}
use Rattle.aud_code.specs.Sound.{counts_of}
use Rattle.aud_code.specs.View.{plain_kind, way_beside}
use Rattle.aud_tasks.proofs.StepLaws.Entering.{as_among, has_cells, is_named, requeue_named}
use Rattle.aud_tasks.proofs.Results.{on_ok}
use Rattle.aud_tasks.proofs.endings.concern.Goals as goal

pub returns-in_ok-declare-in-DeclareTasks-clause-does : goal.returns-in_ok-declare-in-DeclareTasks-clause-does
returns-in_ok-declare-in-DeclareTasks-clause-does c = as_among (plain_program c.args.compiled.program.now).plan c.args.compiled.code.now c.args.compiled.limits c.args.alternative c.args.n c.args.at c.args.operands.now c.args.state.now _ c.args.among.now _ c.in-DeclareTasks.is (c.in_ok-declare-in-DeclareTasks.ensures c.args.alternative)

pub returns-in_ok-activate-in-Activate-clause-does : goal.returns-in_ok-activate-in-Activate-clause-does
returns-in_ok-activate-in-Activate-clause-does c = as_among (plain_program c.args.compiled.program.now).plan c.args.compiled.code.now c.args.compiled.limits c.args.alternative c.args.n c.args.at c.args.operands.now c.args.state.now _ c.args.among.now _ c.in-Activate.is (c.in_ok-activate-in-Activate.ensures c.args.alternative)

pub returns-in_ok-end_activation-in-Activated-clause-does : goal.returns-in_ok-end_activation-in-Activated-clause-does
returns-in_ok-end_activation-in-Activated-clause-does c = as_among (plain_program c.args.compiled.program.now).plan c.args.compiled.code.now c.args.compiled.limits c.args.alternative c.args.n c.args.at c.args.operands.now c.args.state.now _ c.args.among.now _ c.in-Activated.is (c.in_ok-end_activation-in-Activated.ensures c.args.alternative)

pub returns-in_ok-delay-in-Delay-clause-does : goal.returns-in_ok-delay-in-Delay-clause-does
returns-in_ok-delay-in-Delay-clause-does c = as_among (plain_program c.args.compiled.program.now).plan c.args.compiled.code.now c.args.compiled.limits c.args.alternative c.args.n c.args.at c.args.operands.now c.args.state.now _ c.args.among.now _ c.in-Delay.is (c.in_ok-delay-in-Delay.ensures c.args.alternative)

pub returns-in_ok-accept-in-Accept-clause-does : goal.returns-in_ok-accept-in-Accept-clause-does
returns-in_ok-accept-in-Accept-clause-does c = as_among (plain_program c.args.compiled.program.now).plan c.args.compiled.code.now c.args.compiled.limits c.args.alternative c.args.n c.args.at c.args.operands.now c.args.state.now _ c.args.among.now _ c.in-Accept.is (c.in_ok-accept-in-Accept.ensures c.args.alternative)

pub returns-in_ok-call-in-Call-clause-does : goal.returns-in_ok-call-in-Call-clause-does
returns-in_ok-call-in-Call-clause-does c = as_among (plain_program c.args.compiled.program.now).plan c.args.compiled.code.now c.args.compiled.limits c.args.alternative c.args.n c.args.at c.args.operands.now c.args.state.now _ c.args.among.now _ c.in-Call.is c.in_ok-call-in-Call.ensures

pub returns-in_ok-select-in-Select-clause-does : goal.returns-in_ok-select-in-Select-clause-does
returns-in_ok-select-in-Select-clause-does c = as_among (plain_program c.args.compiled.program.now).plan c.args.compiled.code.now c.args.compiled.limits c.args.alternative c.args.n c.args.at c.args.operands.now c.args.state.now _ c.args.among.now _ c.in-Select.is c.in_ok-select-in-Select.ensures

pub call-requires : goal.call-requires
call-requires c = is_named c.in-Call.entry (plain_kind c.in-Call.kind) (counts_of c.args.operands.now) (rw c.in-Call.is at c.requires.fine)

pub declare-requires-in-DeclareObject : goal.declare-requires-in-DeclareObject
declare-requires-in-DeclareObject c = has_cells c.args.operands.now c.in-DeclareObject.declaration (rw c.in-DeclareObject.is at c.requires.fine)

pub returns-in_ok-declare-in-DeclareObject-clause-does : goal.returns-in_ok-declare-in-DeclareObject-clause-does
returns-in_ok-declare-in-DeclareObject-clause-does c = as_among (plain_program c.args.compiled.program.now).plan c.args.compiled.code.now c.args.compiled.limits c.args.alternative c.args.n c.args.at c.args.operands.now c.args.state.now _ c.args.among.now _ c.in-DeclareObject.is (c.in_ok-declare-in-DeclareObject.ensures c.args.alternative)

pub returns-in-CallObject-clause-does : goal.returns-in-CallObject-clause-does
returns-in-CallObject-clause-does c = on_ok c.call-in-CallObject.result _ _ c.call-in-CallObject.ensures.does (λ h. as_among (plain_program c.args.compiled.program.now).plan c.args.compiled.code.now c.args.compiled.limits c.args.alternative c.args.n c.args.at c.args.operands.now c.args.state.now _ c.args.among.now _ c.in-CallObject.is (h c.args.alternative))

pub returns-in_ok-start-in-Operation-clause-does : goal.returns-in_ok-start-in-Operation-clause-does
returns-in_ok-start-in-Operation-clause-does c = as_among (plain_program c.args.compiled.program.now).plan c.args.compiled.code.now c.args.compiled.limits c.args.alternative c.args.n c.args.at c.args.operands.now c.args.state.now _ c.args.among.now _ c.in-Operation.is (c.in_ok-start-in-Operation.ensures c.args.alternative)

pub on_task-requires-clause-named : goal.on_task-requires-clause-named
on_task-requires-clause-named c = let again = c.in-RequeueTask.again in requeue_named again.entry again.with_formals again.with_abort (counts_of c.args.operands.now) (rw c.in-RequeueTask.is at c.requires.fine)

pub on_task-requires-clause-there : goal.on_task-requires-clause-there
on_task-requires-clause-there c = λ t there. c.requires.there t there ∙ ap way_beside c.in-RequeueTask.is

pub on_object-requires : goal.on_object-requires
on_object-requires c = λ t there. c.requires.there t there ∙ ap way_beside c.in-RequeueObject.is

pub returns-in-RequeueTask-clause-does : goal.returns-in-RequeueTask-clause-does
returns-in-RequeueTask-clause-does c = as_among (plain_program c.args.compiled.program.now).plan c.args.compiled.code.now c.args.compiled.limits c.args.alternative c.args.n c.args.at c.args.operands.now c.args.state.now _ c.args.among.now _ c.in-RequeueTask.is (c.on_task.ensures c.args.alternative)

pub returns-in-RequeueObject-clause-does : goal.returns-in-RequeueObject-clause-does
returns-in-RequeueObject-clause-does c = as_among (plain_program c.args.compiled.program.now).plan c.args.compiled.code.now c.args.compiled.limits c.args.alternative c.args.n c.args.at c.args.operands.now c.args.state.now _ c.args.among.now _ c.in-RequeueObject.is (c.on_object.ensures c.args.alternative)
