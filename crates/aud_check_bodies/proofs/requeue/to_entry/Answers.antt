use Rattle.std.specs.Prelude.{IfOk, option_map}
use Rattle.std.proofs.Common.{◌≡◌, ap, subst, ◌∙◌}
use Rattle.aud_syntax.specs.Ties.View.{plain_name}
use Rattle.aud_typed.specs.Ties.View.{plain_callee, plain_statement}
use Rattle.aud_typing.specs.Expressions.{Checked}
use Rattle.aud_typing.specs.Ties.Typing.{plain_typed}
use Rattle.aud_check_bodies.specs.Calls.{index_checked}
use Rattle.aud_check_bodies.specs.Requeues.{target_callee, requeued_to}
use Rattle.aud_check_bodies.specs.Ties.Tables.{plain_tables}
use Rattle.aud_check_bodies.proofs.requeue.to_entry.Goals as goal

pub returns : goal.returns
returns c =
    let e = c.args.entry in
    let index : Checked = index_checked e.owner (plain_name c.args.name.now) c.args.scope.now in
    let callee : option_map plain_callee c.target_callee-callee.result ≡ target_callee e.owner index.typed =
    c.target_callee-callee.ensures ∙ ap (λ x. target_callee e.owner (plain_typed x)) c.into_inner.ensures ∙ ap (target_callee e.owner) c.in_ok-index.ensures in
    subst (λ z. IfOk c.requeued_to.result (λ typed. plain_statement typed.value ≡ requeued_to c.args.at e c.args.with_abort z (plain_tables c.args.tables.now))) callee c.requeued_to.ensures
