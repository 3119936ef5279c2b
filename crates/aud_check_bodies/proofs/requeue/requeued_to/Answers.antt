use Rattle.std.specs.Prelude.{List, Bool, option_map}
use Rattle.std.proofs.Common.{ap, sym, ◌∙◌}
use Rattle.aud_typed.specs.declared.program.Statement.TheVariants.{Requeue}
use Rattle.aud_typed.specs.Tree as tree
use Rattle.aud_typed.specs.Ties.View.{plain_callee, plain_requeue, plain_statement}
use Rattle.aud_names.specs.declared.names.NamedParameter.{NamedParameter}
use Rattle.aud_typing.proofs.Notes.{boxes}
use Rattle.aud_check_bodies.specs.Requeues.{has_formals, requeued_to}
use Rattle.aud_check_bodies.specs.Ties.Tables.{plain_tables}
use Rattle.aud_check_bodies.proofs.requeue.requeued_to.Goals as goal

pub returns : goal.returns
returns c =
    let at = c.args.at in
    let e = c.args.entry in
    let with_abort = c.args.with_abort in
    let made : Bool → tree.Statement = λ b. tree.requeue at (record { callee = plain_callee c.in-Some.callee; entry = e.number; with_formals = b; with_abort = with_abort }) in
    boxes plain_statement c.boxed-3.result (Requeue at c.in_ok-requeue.requeue) _ c.boxed-3.ensures
    (ap (λ r. tree.requeue at (plain_requeue r)) c.in_ok-requeue.ensures
    ∙ ap made (c.has_formals-with_formals.ensures ∙ ap (λ (l : List NamedParameter). has_formals l) c.entry_profile.ensures)
    ∙ ap (λ x. requeued_to at e with_abort (option_map plain_callee x) (plain_tables c.args.tables.now)) (sym c.in-Some.is))
