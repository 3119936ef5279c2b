use Rattle.std.proofs.Common.{ap, sym, ◌∙◌}
use Rattle.aud_typed.specs.declared.program.Statement.TheVariants.{EntryCall}
use Rattle.aud_typed.specs.Tree.{part_of}
use Rattle.aud_typed.specs.Ties.View.{plain_statement, plain_arguments, plain_form, entry_call_in}
use Rattle.aud_typed.proofs.Opened.{entry_call_open}
use Rattle.aud_typing.proofs.Notes.{boxes}
use Rattle.aud_check_bodies.specs.Calls.{entry_call_to}
use Rattle.aud_check_bodies.specs.Ties.Arms.{plain_items}
use Rattle.aud_check_bodies.specs.Ties.Passed.{plain_whose}
use Rattle.aud_check_bodies.proofs.entry_call.entry_call_to.Goals as goal

pub returns : goal.returns
returns c =
    let called = c.args.called in
    boxes plain_statement c.boxed-3.result (EntryCall c.in_ok-statement.statement) _ c.boxed-3.ensures
    (entry_call_open c.in_ok-statement.statement ∙ ap entry_call_in c.in_ok-statement.ensures
    ∙ ap (λ w. entry_call_to (plain_whose w) c.args.at called.entry (plain_arguments called.arguments.items) (plain_form c.args.form) (part_of (plain_items c.args.parts.0)) (part_of (plain_items c.args.parts.1))) (sym c.in-Other.is))
