use Rattle.std.proofs.Common.{◌≡◌, ◌++◌, ℕ, List, subst, sym, ◌∙◌}
use Rattle.std.proofs.lemmas.List.{take_rest}
use Rattle.std.specs.Io.KnownBytes.{Appends}
use Rattle.aud_solo.proofs.StreamLaws.{written_more, written_front}
use Rattle.aud_solo.proofs.serving.write.Goals as goal

pub returns-in_default-clause-write : goal.returns-in_default-clause-write
returns-in_default-clause-write g c =
    let contents = g.T.Sink.contents in
    λ e. written_front (contents c.args.writer.now) (contents c.loop-rest.writer) (contents c.push.new.self) c.args.bytes.now c.loop-rest.rest.now c.loop-rest.invariant.written c.in_default.ensures.bytes

pub loop-rest-preserved : goal.loop-rest-preserved
loop-rest-preserved g c =
    let contents = g.T.Sink.contents in
    let rest = c.loop-rest.rest.now in
    let is = take_rest rest c.in-Ok.count in
    record {
      written =
          subst (λ (t : List ℕ). (some : List ℕ) × Appends (contents c.args.writer.now) (contents c.push.new.self) some × (c.args.bytes.now ≡ some ++ t)) (sym is)
          (written_more (contents c.args.writer.now) (contents c.loop-rest.writer) (contents c.push.new.self) c.args.bytes.now rest c.in-Ok.count c.loop-rest.invariant.written c.in-Ok.ensures.bytes);
      failures = c.in-Ok.ensures.failures ∙ c.loop-rest.invariant.failures;
    }

pub returns-in_default-clause-grows : goal.returns-in_default-clause-grows
returns-in_default-clause-grows g c =
    let contents = g.T.Sink.contents in
    let front = written_front (contents c.args.writer.now) (contents c.loop-rest.writer) (contents c.push.new.self) c.args.bytes.now c.loop-rest.rest.now c.loop-rest.invariant.written c.in_default.ensures.bytes in
    (front.0, front.2)

pub returns-clause-grows : goal.returns-clause-grows
returns-clause-grows g c = (c.loop-rest.invariant.written.0, c.loop-rest.invariant.written.1)
