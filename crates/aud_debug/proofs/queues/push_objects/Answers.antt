use Rattle.std.proofs.Common.{◌+◌, ap, refl, ◌∙◌, arith}
use Rattle.aud_typed.specs.Ties.View.{plain_program}
use Rattle.aud_meaning.specs.Parts.{object_plan}
use Rattle.aud_debug.proofs.Ended.{all_come}
use Rattle.aud_debug.proofs.Pages.{comes_more}
use Rattle.aud_debug.proofs.Queued.{objects_from, objects_next, objects_past, of_object}
use Rattle.aud_debug.proofs.queues.push_objects.Goals as goal

pub loop-object-preserved : goal.loop-object-preserved
loop-object-preserved c =
    let plan = (plain_program c.args.compiled.program.now).plan in
    let s = c.args.state.now in
    let n = c.loop-object.object in
    let are = c.protected_entries_of-entries.ensures ∙ ap (λ d. (object_plan plan d).entries) c.declaration.ensures in
    comes_more _ _ _ (of_object plan s n) (objects_from plan s (n + 1)) (objects_from plan s n) (objects_from plan s 0)
    (rw are at c.in_ok-push_each.ensures) (objects_next plan s n (omega arith)) c.loop-object.invariant

pub returns : goal.returns
returns c =
    let plan = (plain_program c.args.compiled.program.now).plan in
    let s = c.args.state.now in
    all_come _ _ _ (objects_from plan s 0) _ (objects_past plan s c.loop-object.object (omega arith)) refl c.loop-object.invariant
