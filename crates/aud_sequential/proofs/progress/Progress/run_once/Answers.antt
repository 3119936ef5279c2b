use Rattle.std.proofs.Common.{refl, arith}
use Rattle.aud_sequential.proofs.progress.Progress.run_once.Goals as goal

pub returns : goal.returns
returns c = record {
  runs = record {
    among = (refl, refl);
    begins = c.requires.place;
    callers = refl;
    steps = omega arith;
    within = omega arith;
    few = omega arith;
  };
  here = refl;
}
