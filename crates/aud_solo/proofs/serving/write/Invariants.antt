use Rattle.std.proofs.Common.{◌≡◌, ◌++◌, ℕ, List, length}
use Rattle.std.specs.Io.KnownBytes.{Appends}
use Rattle.aud_solo.proofs.serving.write.Given as goal

abbrev pub invariant-loop-rest : goal.invariant-loop-rest
invariant-loop-rest g l =
    let sink = g.T.Sink in
    record {
      written : (some : List ℕ) × Appends (sink.contents l.fn.writer) (sink.contents l.writer) some × (l.fn.bytes ≡ some ++ l.rest);
      failures : sink.failures l.writer ≡ sink.failures l.fn.writer;
    }

abbrev pub decreases-loop-rest : goal.decreases-loop-rest
decreases-loop-rest g l = length l.rest
