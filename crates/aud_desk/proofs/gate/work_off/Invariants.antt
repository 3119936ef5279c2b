use Rattle.std.proofs.Common.{◌≡◌, ◌-◌}
use Rattle.aud_bench.specs.Alone.{cost}
use Rattle.aud_desk.proofs.gate.work_off.Given as goal

abbrev pub invariant-loop-alloc : goal.invariant-loop-alloc
invariant-loop-alloc g l = record {
  seat : l.parcel.seat ≡ l.initial.parcel.seat;
  limits : l.parcel.bench.limits ≡ l.initial.parcel.bench.limits;
  journal : l.parcel.bench.journal ≡ l.initial.parcel.bench.journal;
}

abbrev pub decreases-loop-alloc : goal.decreases-loop-alloc
decreases-loop-alloc g l = cost l.parcel.bench.limits l.parcel.bench.journal - l.parcel.bench.units
