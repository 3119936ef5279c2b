use Rattle.std.proofs.Common.{ap, arith}
use Rattle.aud_desk.proofs.Working.{idle}
use Rattle.aud_desk.proofs.gate.work_off.Goals as goal
use Rattle.aud_desk.proofs.gate.work_off.Goals.{then-work-eq0-via-then-work-eq0, then-work-eq0-via-else-work-eq0+then-work-eq0-2}

-- nothing is left, or nothing was done
pub returns-then-work-eq0-clause-answered : goal.returns-then-work-eq0-clause-answered
returns-then-work-eq0-clause-answered g c =
    λ is_open. elim c.then-work-eq0.branch [
      | then-work-eq0-via-then-work-eq0 w ↦ omega (arith, w.if-work-eq0.true, c.slice-work.ensures.left)
      | then-work-eq0-via-else-work-eq0+then-work-eq0-2 w ↦ idle 1000 c.loop-alloc.parcel.bench c.slice-work.new.parcel.bench c.slice-work.result.done (omega arith) (ap (λ p. p.bench) c.slice-work.ensures.parcel) c.slice-work.ensures.done (omega (arith, w.if-work-eq0-2.true)) is_open
    ]
