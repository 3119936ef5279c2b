use Rattle.std.proofs.Common.{◌∷◌}
use Rattle.aud_typed.specs.Ties.View.{plain_program}
use Rattle.aud_debug.specs.Ties.Watched.{object_head}
use Rattle.aud_debug.proofs.Ended.{line_ended}
use Rattle.aud_debug.proofs.objects.push_first.Goals as goal

pub returns : goal.returns
returns c =
    let plan = (plain_program c.args.compiled.program.now).plan in
    line_ended _ _ _ (object_head plan c.args.object c.args.state.now) _ _ c.in_ok-push_head.ensures c.in_ok-end_line.ensures.bytes c.in_ok-end_line.ensures.count
