use Rattle.std.proofs.Common.{sym, ◌∙◌, arith}
use Rattle.aud_debug.proofs.Queued.{name_found, name_missing}
use Rattle.aud_debug.proofs.declared.entry_name.Goals as goal

pub returns-in-Some : goal.returns-in-Some
returns-in-Some c =
    let at = rw c.deref.ensures.value at c.in-Some.ensures.lookup in
    c.as_bytes.ensures ∙ name_found c.args.compiled.program.now.entries.items c.args.entry c.in-Some.entry.now at.3.0 at.1

pub returns-in-None : goal.returns-in-None
returns-in-None c =
    let past = rw c.deref.ensures.value at c.in-None.ensures.lookup in
    sym (name_missing c.args.compiled.program.now.entries.items c.args.entry (omega (arith, past)))
