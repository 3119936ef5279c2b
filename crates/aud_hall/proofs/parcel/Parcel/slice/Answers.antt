use Rattle.std.proofs.Common.{sym, subst, arith}
use Rattle.aud_bench.specs.Seen.{Seen as Bench}
use Rattle.aud_hall.specs.Ties.Right.{IsTrue}
use Rattle.aud_hall.proofs.CheckIns.{worked_true}
use Rattle.aud_hall.proofs.parcel.Parcel.slice.Goals as goal

pub invariant_of-self : goal.invariant_of-self
invariant_of-self c =
    let b : Bench = c.deref_mut.result.now in
    let e = c.slice.ensures in
    worked_true b c.slice.new.self c.slice.result.done (record {
      limits = e.journal.1;
      journal = e.journal.0;
      taken = e.taken;
      units_are = e.units;
      spent = λ h. (e.spent h).0;
      exact = λ h. omega (arith, e.done h);
      cut = λ h f. omega (arith, e.cut h f);
    }) (subst IsTrue (sym c.deref_mut.ensures.value) c.self.invariant)
