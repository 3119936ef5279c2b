use Rattle.std.proofs.Common.{◌≡◌, ◌<◌, ◌-◌, map, arith}
use Rattle.std.proofs.lemmas.Bool.{false≢true}
use Rattle.aud_code.specs.Frames.{At}
use Rattle.aud_code.specs.View.{plain_end, plain_line}
use Rattle.aud_code.proofs.Framing.{one_loop_out, no_loop_out}
use Rattle.aud_code.proofs.frames.leaves_loops.Goals as goal

pub loop-init : goal.loop-init
loop-init c =
    let none : c.args.loops - 0 ≡ c.args.loops = omega arith in
    rw none (λ h. h, λ h. h)

pub loop-preserved : goal.loop-preserved
loop-preserved c =
    let lines = map plain_line c.args.lines.now in
    let left : c.loop.counter < c.args.loops = omega arith in
    let out = one_loop_out lines (At lines c.args.to) c.args.loops c.loop.counter left c.loop.around (plain_end c.in-Some.step.now) c.in-Some.ensures.some.0 c.in-Some.ensures.some.1 in
    (λ h. out.0 (c.loop.invariant.0 h), λ h. c.loop.invariant.1 (out.1 h))

pub returns-in-None : goal.returns-in-None
returns-in-None c =
    let lines = map plain_line c.args.lines.now in
    let left : c.loop.counter < c.args.loops = omega arith in (
      λ e. absurd (false≢true e),
      λ h. absurd (no_loop_out lines (At lines c.args.to) c.args.loops c.loop.counter left c.loop.around c.in-None.ensures.none (c.loop.invariant.0 h)),
    )

pub returns : goal.returns
returns c =
    let none : c.args.loops - c.loop.counter ≡ 0 = omega (arith, c.loop-test.false, c.loop.auto.counter-end) in
    let inv = rw none at c.loop.invariant in
    (λ e. inv.1 (c.is_within.ensures.0 e), λ h. c.is_within.ensures.1 (inv.0 h))
