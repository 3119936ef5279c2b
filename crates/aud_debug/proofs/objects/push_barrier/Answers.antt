use Rattle.std.proofs.Common.{◌∷◌}
use Rattle.aud_typed.specs.Ties.View.{plain_program}
use Rattle.aud_debug.specs.Ties.Watched.{barrier_line}
use Rattle.aud_debug.proofs.Ended.{line_ended}
use Rattle.aud_debug.proofs.objects.push_barrier.Goals as goal

pub returns : goal.returns
returns c =
    let plan = (plain_program c.args.compiled.program.now).plan in
    line_ended _ _ _ (barrier_line plan c.args.compiled.code.now c.args.object c.args.entry c.args.state.now) _ _ c.in_ok-push_decision.ensures c.in_ok-end_line.ensures.bytes c.in_ok-end_line.ensures.count
