use Rattle.std.specs.Prelude.{option_map, ◌++◌, Vec, Ok}
use Rattle.std.specs.Global.{Global}
use Rattle.std.proofs.Common.{◌≡◌, ◌+◌, drop, ap, subst, ◌∙◌, arith}
use Rattle.std.proofs.lemmas.List.{drop_all}
use Rattle.aud_syntax.specs.Ties.View.{plain_name, plain_names}
use Rattle.aud_syntax.proofs.Written.{dropped}
use Rattle.aud_typed.specs.declared.program.TaskName.{TaskName}
use Rattle.aud_typed.specs.Ties.View.{plain_task, plain_task_names}
use Rattle.aud_typing.specs.Ties.Typing.{Leaves}
use Rattle.aud_check_bodies.specs.Aborts.{named_faults, named_task, listed}
use Rattle.aud_check_bodies.proofs.Aborting.{tasks_ahead, tasks_end}
use Rattle.aud_check_bodies.proofs.abort.others.Goals as goal

pub loop-name-preserved : goal.loop-name-preserved
loop-name-preserved c =
    let place = c.args.scope.now in
    let names = c.args.names.now in
    let i = c.loop-name.name-index in
    let x = plain_name c.name-item.result in
    let one : Leaves (λ t. option_map plain_task t) (Ok c.in_ok-rest.next) c.loop-name.faults c.task.new.faults (named_faults x place) (named_task x place) =
    subst (λ r. Leaves (λ t. option_map plain_task t) r c.loop-name.faults c.task.new.faults (named_faults x place) (named_task x place)) c.in_ok-rest.ensures.next c.task.ensures in
    let made : plain_task_names c.add.new.all.items ≡ plain_task_names c.loop-name.all.items ++ listed (named_task x place) =
    c.in_ok-add.ensures ∙ ap (λ (v : Vec TaskName Global). plain_task_names v.items ++ listed (option_map plain_task c.in_ok-rest.next)) c.in_ok-rest.ensures.first ∙ ap (λ z. plain_task_names c.loop-name.all.items ++ listed z) one.1 in
    tasks_ahead place c.args.faults.now c.loop-name.faults c.task.new.faults (plain_task_names c.loop-name.all.items) (plain_task_names c.add.new.all.items) (plain_task_names c.args.first.items) x (plain_names (drop (i + 1) names)) (plain_names (drop i names)) (plain_names names)
    (ap plain_names (dropped names i c.name-item.result (omega arith) c.name-item.is)) c.loop-name.invariant one.0 made

pub returns : goal.returns
returns c =
    let names = c.args.names.now in
    let i = c.loop-name.name-index in
    tasks_end c.args.scope.now c.args.faults.now c.loop-name.faults (plain_task_names c.loop-name.all.items) (plain_task_names c.args.first.items) (plain_names (drop i names)) (plain_names names) (ap plain_names (drop_all i names c.loop-name-test.false)) c.loop-name.invariant
