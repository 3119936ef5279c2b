use Rattle.std.specs.Prelude.{List, ◌++◌, IfOk, is_some}
use Rattle.std.proofs.Common.{◌≡◌, ap, subst, ◌∙◌}
use Rattle.aud_syntax.specs.Ties.View.{plain_name}
use Rattle.aud_typed.specs.Ties.View.{plain_statement}
use Rattle.aud_fault.specs.declared.fault.Fault.{Fault}
use Rattle.aud_fault.specs.Least.{noted}
use Rattle.aud_names.specs.declared.resolution.Denoted.{Denoted}
use Rattle.aud_names.specs.Resolution.{Resolved, resolved}
use Rattle.aud_names.specs.Rules.{requeue_in_place}
use Rattle.aud_typing.specs.Expressions.{Typed, Checked, checked_arguments}
use Rattle.aud_check_bodies.specs.Requeues.{target_faults, requeued, typed_requeue}
use Rattle.aud_check_bodies.specs.Ties.Tables.{plain_tables}
use Rattle.aud_check_bodies.specs.Ties.Within.{plain_requeuing}
use Rattle.aud_typing.specs.Ties.Typing.{plain_typed, in_box}
use Rattle.aud_typing.proofs.Notes.{noted_then, leaves}
use Rattle.aud_check_bodies.proofs.requeue.requeue.Goals as goal

pub returns : goal.returns
returns c =
    let at = c.args.at in
    let n = plain_name c.args.name.now in
    let place = c.args.scope.now in
    let t = plain_tables c.args.tables.now in
    let r = plain_requeuing c.args.requeuing c.args.profile.now in
    let d : Denoted = c.resolve-denoted.result in
    let meant : Resolved = resolved n place in
    let checked : Checked = checked_arguments n place in
    let f0 = c.requeue_in_place.new.faults in
    let f1 = c.resolve-denoted.new.faults in
    let f2 = c.arguments.new.faults in
    let f3 = c.check_target.new.faults in
    let out_of_place : List Fault = requeue_in_place (is_some r) at in
    let of_target : List Fault = target_faults meant.denoted.meaning n meant.denoted.at r checked.typed place t in
    let first : f0 ≡ noted c.args.faults.now out_of_place = c.requeue_in_place.ensures ∙ ap (λ b. noted c.args.faults.now (requeue_in_place b at)) (c.is_somewhere.ensures c.args.profile.now) in
    let last : f3 ≡ noted f2 of_target =
    c.check_target.ensures
    ∙ ap (λ v. noted f2 (target_faults d.meaning n d.at r (plain_typed v) place t)) c.deref.ensures
    ∙ ap (λ (x : Typed). noted f2 (target_faults d.meaning n d.at r x place t)) c.in_ok-last.ensures.1
    ∙ ap (λ (x : Denoted). noted f2 (target_faults x.meaning n x.at r checked.typed place t)) c.resolve-denoted.ensures.denoted in
    let arguments : f3 ≡ noted f1 (checked.faults ++ of_target) = noted_then f1 f2 f3 checked.faults of_target c.in_ok-last.ensures.0 last in
    let named : f3 ≡ noted f0 (meant.faults ++ (checked.faults ++ of_target)) = noted_then f0 f1 f3 meant.faults (checked.faults ++ of_target) c.resolve-denoted.ensures.noted arguments in
    let all = noted_then c.args.faults.now f0 f3 out_of_place (meant.faults ++ (checked.faults ++ of_target)) first named in
    let made : IfOk c.requeued.result (λ typed. plain_statement typed.value ≡ typed_requeue at n c.args.with_abort place t) =
    subst (λ (x : Denoted). IfOk c.requeued.result (λ typed. plain_statement typed.value ≡ requeued at x.meaning n c.args.with_abort place t)) c.resolve-denoted.ensures.denoted c.requeued.ensures in
    leaves (in_box plain_statement) c.requeued.result c.args.faults.now f3 _ (typed_requeue at n c.args.with_abort place t) all made
