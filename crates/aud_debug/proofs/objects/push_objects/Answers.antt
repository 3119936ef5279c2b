use Rattle.std.proofs.Common.{◌+◌, refl, arith}
use Rattle.aud_typed.specs.Ties.View.{plain_program}
use Rattle.aud_debug.specs.Ties.Watched.{object_lines_of}
use Rattle.aud_debug.proofs.Ended.{all_come}
use Rattle.aud_debug.proofs.Pages.{comes_more}
use Rattle.aud_debug.proofs.Watched.{shown_from, shown_next, shown_past}
use Rattle.aud_debug.proofs.objects.push_objects.Goals as goal

pub loop-object-preserved : goal.loop-object-preserved
loop-object-preserved c =
    let plan = (plain_program c.args.compiled.program.now).plan in
    let code = c.args.compiled.code.now in
    let s = c.args.state.now in
    let n = c.loop-object.object in
    comes_more _ _ _ (object_lines_of plan code n s) (shown_from plan code s (n + 1)) (shown_from plan code s n) (shown_from plan code s 0)
    c.in_ok-push_object.ensures (shown_next plan code s n (omega arith)) c.loop-object.invariant

pub returns : goal.returns
returns c =
    let plan = (plain_program c.args.compiled.program.now).plan in
    let code = c.args.compiled.code.now in
    let s = c.args.state.now in
    all_come _ _ _ (shown_from plan code s 0) _ (shown_past plan code s c.loop-object.object (omega arith)) refl c.loop-object.invariant
