use Rattle.std.specs.Prelude.{Option, IfOk}
use Rattle.std.proofs.Common.{◌≡◌, ap, sym, subst, ◌∙◌}
use Rattle.aud_text.specs.declared.place.Pos.{Pos}
use Rattle.aud_syntax.specs.declared.tree.Name.{out-Name}
use Rattle.aud_syntax.specs.Ties.View.{plain_name}
use Rattle.aud_typed.specs.Tree as tree
use Rattle.aud_typed.specs.Ties.View.{plain_statement, plain_statements}
use Rattle.aud_names.specs.Resolution.{name_ident}
use Rattle.aud_check_bodies.specs.Calls.{EntryCalled, entry_call_faults, entry_called, entry_call_of}
use Rattle.aud_check_bodies.specs.Ties.Arms.{plain_items}
use Rattle.aud_check_bodies.specs.Ties.Passed.{plain_maybe_called}
use Rattle.aud_check_bodies.specs.Ties.Tables.{plain_tables}
use Rattle.aud_typing.specs.Ties.Typing.{in_box}
use Rattle.aud_typing.proofs.Notes.{leaves}
use Rattle.aud_typing.proofs.Opened.{name_begins}
use Rattle.aud_check_bodies.proofs.entry_call.entry_call.Goals as goal

pub returns : goal.returns
returns c =
    let n = plain_name c.args.name.now in
    let place = c.args.scope.now in
    let t = plain_tables c.args.tables.now in
    let e = c.args.entry in
    let found = plain_maybe_called c.in_ok-called.called in
    let begin = (out-Name c.args.name.now).first.ident.at in
    let made : Pos → tree.Part → tree.Part → Option EntryCalled → tree.Statement = λ at p q x. entry_call_of at tree.plainly p q x in
    let whole : tree.Statement = made (name_ident n).at tree.nothing tree.nothing (entry_called e n place t) in
    let same : made begin (tree.part_of (plain_items c.new.result)) (tree.part_of (plain_items c.new-2.result)) found ≡ whole =
    ap (λ xs. made begin (tree.part_of (plain_statements xs)) (tree.part_of (plain_items c.new-2.result)) found) c.new.ensures.items
    ∙ ap (λ xs. made begin tree.nothing (tree.part_of (plain_statements xs)) found) c.new-2.ensures.items
    ∙ ap (λ at. made at tree.nothing tree.nothing found) (sym (name_begins c.args.name.now)) ∙ ap (made (name_ident n).at tree.nothing tree.nothing) c.in_ok-called.ensures.1 in
    leaves (in_box plain_statement) c.entry_call_of.result c.args.faults.now c.entry_called.new.faults (entry_call_faults e n c.args.at place t) whole c.in_ok-called.ensures.0
    (subst (λ y. IfOk c.entry_call_of.result (λ s. plain_statement s.value ≡ y)) same c.entry_call_of.ensures)
