use Rattle.std.proofs.Common.{arith}
use Rattle.aud_typed.specs.Ties.View.{plain_program}
use Rattle.aud_debug.proofs.Waiting.{next_accept, no_accept}
use Rattle.aud_debug.proofs.waits.push_accepts.Goals as goal

pub loop-accept-preserved : goal.loop-accept-preserved
loop-accept-preserved c =
    let plan = (plain_program c.args.compiled.program.now).plan in
    next_accept plan _ _ _ _ _ c.args.accepts.now c.loop-accept.accept-index _ c.loop-accept-test.true c.in_ok-extend_from_slice.ensures.items c.in_ok-extend_from_slice-2.ensures.items c.entry_name.ensures c.loop-accept.invariant

pub returns : goal.returns
returns c =
    let plan = (plain_program c.args.compiled.program.now).plan in
    no_accept plan c.loop-accept.out.items _ c.args.accepts.now c.loop-accept.accept-index (omega (arith, c.loop-accept-test.false)) c.loop-accept.invariant
