use Rattle.std.proofs.Common.{ap, arith}
use Rattle.aud_machine.specs.Shown.{Shown}
use Rattle.aud_bench.proofs.Serving.{has_passed}
use Rattle.aud_bench.proofs.service.let_pass.Goals as goal

pub returns : goal.returns
returns c =
    let exact = c.advance.ensures.exact in
    has_passed c.args.machine.now c.advance.new.self c.args.wait c.min.result c.clock.result
    (ap (λ (m : Shown). m.limits) exact, ap (λ (m : Shown). m.program) exact)
    (λ shown h. (λ fits. omega (arith, fits, c.clock-room.ensures.shown shown h, c.milliseconds.ensures.value, c.min.ensures), c.advance.ensures.shows shown h))
    c.clock.ensures.shown (omega (arith, c.milliseconds.ensures.value, c.milliseconds.ensures.within))
