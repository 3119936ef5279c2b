use Rattle.std.proofs.Common.{◌∷◌, [], ◌+◌, ap, drop, get_or, sym, ◌∙◌, arith}
use Rattle.aud_typed.specs.Ties.View.{plain_program}
use Rattle.aud_meaning.specs.Listings.Objects.{barrier_lines}
use Rattle.aud_meaning.specs.Parts.{object_plan}
use Rattle.aud_code.specs.Flat.{barrier_at}
use Rattle.aud_debug.specs.Ties.Watched.{barrier_line, declared_in}
use Rattle.aud_debug.proofs.Ended.{all_come}
use Rattle.aud_debug.proofs.Pages.{comes_more}
use Rattle.aud_debug.proofs.Watched.{next_barrier, no_barrier}
use Rattle.aud_debug.proofs.objects.push_barriers.Goals as goal

pub loop-entry-preserved : goal.loop-entry-preserved
loop-entry-preserved c =
    let plan = (plain_program c.args.compiled.program.now).plan in
    let code = c.args.compiled.code.now in
    let s = c.args.state.now in
    let n = c.args.object in
    let d = declared_in plan n s in
    let es = c.protected_entries_of-entries.result.now in
    let i = c.loop-entry.entry-index in
    comes_more _ _ _ (barrier_line plan code n (get_or es i 0) s ∷ []) (barrier_lines plan (barrier_at code) n d (drop (i + 1) es) s) (barrier_lines plan (barrier_at code) n d (drop i es) s) (barrier_lines plan (barrier_at code) n d es s)
    c.in_ok-push_barrier.ensures (next_barrier plan code s n es i (omega arith)) c.loop-entry.invariant

pub returns : goal.returns
returns c =
    let plan = (plain_program c.args.compiled.program.now).plan in
    let code = c.args.compiled.code.now in
    let s = c.args.state.now in
    let n = c.args.object in
    let d = declared_in plan n s in
    let es = c.protected_entries_of-entries.result.now in
    let are = c.protected_entries_of-entries.ensures ∙ ap (λ k. (object_plan plan k).entries) c.declaration.ensures in
    all_come _ _ _ (barrier_lines plan (barrier_at code) n d es s) _ (no_barrier plan code s n es c.loop-entry.entry-index (omega (arith, c.loop-entry-test.false))) (ap (λ l. barrier_lines plan (barrier_at code) n d l s) are) c.loop-entry.invariant
