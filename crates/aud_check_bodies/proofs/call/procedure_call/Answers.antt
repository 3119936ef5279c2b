use Rattle.std.proofs.Common.{sym, ap, ◌∙◌}
use Rattle.aud_text.specs.declared.place.Pos.{Pos}
use Rattle.aud_syntax.specs.declared.tree.Name.{out-Name}
use Rattle.aud_syntax.specs.Ties.View.{plain_name}
use Rattle.aud_typed.specs.Ties.View.{plain_statement}
use Rattle.aud_names.specs.Resolution.{name_ident, last_args}
use Rattle.aud_check_bodies.specs.Arguments.{all_passed, arguments_faults}
use Rattle.aud_check_bodies.specs.Calls.{procedure_called}
use Rattle.aud_typing.proofs.Notes.{leaves_box}
use Rattle.aud_typing.proofs.Opened.{name_begins}
use Rattle.aud_check_bodies.proofs.call.procedure_call.Goals as goal

pub returns : goal.returns
returns c =
    let n = plain_name c.args.name.now in
    let passed = all_passed c.args.profile.now (last_args n) c.args.scope.now in
    let same = c.procedure_called-statement.ensures ∙ ap (procedure_called c.args.unit (out-Name c.args.name.now).first.ident.at) c.in_ok-passed.ensures.1 ∙ ap (λ (p : Pos). procedure_called c.args.unit p passed) (sym (name_begins c.args.name.now)) in
    leaves_box plain_statement c.boxed.result c.args.faults.now c.all_given.new.faults (arguments_faults c.args.profile.now n c.args.at c.args.scope.now) c.procedure_called-statement.result (procedure_called c.args.unit (name_ident n).at passed) c.in_ok-passed.ensures.0 c.boxed.ensures same
