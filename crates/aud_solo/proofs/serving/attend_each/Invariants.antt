use Rattle.std.proofs.Common.{◌≡◌, ◌++◌, List, Option, ℕ, take}
use Rattle.aud_bench.specs.declared.request.Request.{Request}
use Rattle.aud_solo.specs.Streams.{Grows}
use Rattle.aud_solo.specs.Ties.Serving.{HasTold}
use Rattle.aud_solo.proofs.serving.attend_each.Given as goal

abbrev pub invariant-loop-request : goal.invariant-loop-request
invariant-loop-request g l =
    let words = g.A.Attendant.words in
    let sink = g.T.Sink in
    record {
      told :
          (before : Option (List ℕ)) (asked : List Request) → HasTold words before (sink.contents l.fn.writer) asked l.fn.attendant → HasTold words before (sink.contents l.writer) (asked ++ take l.request-index l.requests) l.attendant;
      grows : Grows (sink.contents l.fn.writer) (sink.contents l.writer);
      failures : sink.failures l.writer ≡ sink.failures l.fn.writer;
    }
