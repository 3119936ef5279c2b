use Rattle.std.proofs.Common.{sym, ap, ◌∙◌, arith}
use Rattle.aud_typed.specs.Ties.View.{plain_program}
use Rattle.aud_meaning.specs.Listings.{entries_by}
use Rattle.aud_debug.proofs.Queued.{entries_found, entries_missing}
use Rattle.aud_debug.proofs.queues.entries_of.Goals as goal

pub returns-in-Some-get : goal.returns-in-Some-get
returns-in-Some-get c =
    let p = c.args.compiled.program.now in
    let at = rw c.deref.ensures.value at c.in-Some-get.ensures.lookup in
    c.deref-in-Some-get.ensures.value
    ∙ entries_found p.tasks.items c.in-Some.task_type c.in-Some-get.task_type.now at.3.0 at.1
    ∙ ap (entries_by (plain_program p).plan) (sym c.in-Some.is)

pub returns-in-None : goal.returns-in-None
returns-in-None c =
    let p = c.args.compiled.program.now in
    let past = rw c.deref.ensures.value at c.in-None.ensures.lookup in
    sym (entries_missing p.tasks.items c.in-Some.task_type (omega (arith, past)))
    ∙ ap (entries_by (plain_program p).plan) (sym c.in-Some.is)
