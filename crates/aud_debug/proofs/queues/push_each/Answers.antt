use Rattle.std.proofs.Common.{◌+◌, drop, get_or, refl, arith}
use Rattle.aud_typed.specs.Ties.View.{plain_program}
use Rattle.aud_debug.specs.Ties.Rows.{entry_lines, queue_line}
use Rattle.aud_debug.proofs.Ended.{all_come}
use Rattle.aud_debug.proofs.Pages.{comes_more}
use Rattle.aud_debug.proofs.Queued.{next_entry, no_entry}
use Rattle.aud_debug.proofs.queues.push_each.Goals as goal

pub loop-entry-preserved : goal.loop-entry-preserved
loop-entry-preserved c =
    let plan = (plain_program c.args.compiled.program.now).plan in
    let s = c.args.state.now in
    let o = c.args.owner in
    let es = c.args.entries.now in
    let i = c.loop-entry.entry-index in
    let e = get_or es i 0 in
    comes_more _ _ _ (queue_line plan o e s) (entry_lines plan o (drop (i + 1) es) s) (entry_lines plan o (drop i es) s) (entry_lines plan o es s)
    c.in_ok-push_queue.ensures (next_entry plan s o es i (omega arith)) c.loop-entry.invariant

pub returns : goal.returns
returns c =
    let plan = (plain_program c.args.compiled.program.now).plan in
    let es = c.args.entries.now in
    all_come _ _ _ (entry_lines plan c.args.owner es c.args.state.now) _ (no_entry plan c.args.state.now c.args.owner es c.loop-entry.entry-index (omega (arith, c.loop-entry-test.false))) refl c.loop-entry.invariant
