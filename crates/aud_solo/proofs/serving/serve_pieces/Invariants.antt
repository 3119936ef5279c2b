use Rattle.std.proofs.Common.{◌≡◌, ℕ, ◌+◌, List, [], Option, false}
use Rattle.aud_solo.specs.Ties.Serving.{HasTold, HasServed}
use Rattle.aud_solo.proofs.serving.serve_pieces.Given as goal

abbrev pub invariant-loop : goal.invariant-loop
invariant-loop g l =
    let words = g.A.Attendant.words in
    let source = g.S.Source in
    let sink = g.T.Sink in
    record {
      served : (before : Option (List ℕ)) → HasTold words before (sink.contents l.fn.writer) [] l.fn.attendant → HasServed words (source.remaining l.fn.reader) (source.remaining l.reader) before (sink.contents l.writer) (source.pieces l.fn.reader) (source.pieces l.reader) l.feed l.attendant;
      going : words.over l.attendant ≡ false;
      calls : source.calls l.reader ≡ source.calls l.fn.reader + l.counter;
      read : source.failures l.reader ≡ source.failures l.fn.reader;
      written : sink.failures l.writer ≡ sink.failures l.fn.writer;
    }
