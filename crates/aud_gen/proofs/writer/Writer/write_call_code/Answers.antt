use Rattle.std.proofs.Common.{sym, subst}
use Rattle.aud_typed.specs.declared.program.EntryCallStatement.{out-EntryCallStatement}
use Rattle.aud_typed.specs.Ties.View.{plain_arguments, plain_callee, plain_form}
use Rattle.aud_gen.specs.Writes.{Instructs}
use Rattle.aud_gen.proofs.Calls.{call_split}
use Rattle.aud_gen.proofs.Writing.{◌then◌}
use Rattle.aud_gen.proofs.writer.Writer.write_call_code.Goals as goal

pub returns : goal.returns
returns c =
    let s = out-EntryCallStatement c.args.call.now in
    subst (λ is. Instructs c.args.self.now c.write_called.new.self is) (sym (call_split (plain_callee s.callee) (plain_arguments s.arguments.items) (plain_form s.form)))
    (c.write_callee.ensures then (rw c.deref.ensures.value at c.write_called.ensures))
