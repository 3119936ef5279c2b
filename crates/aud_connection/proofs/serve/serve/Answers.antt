use Rattle.aud_connection.proofs.Visits.{stops_at}
use Rattle.aud_connection.proofs.serve.serve.Goals as goal

pub returns-clause-quit : goal.returns-clause-quit
returns-clause-quit g c =
    stops_at g.D.Seating.limits (λ visitor. visitor.visit) (g.S.Source.remaining c.args.reader.now) (g.S.Source.remaining c.serve.new.reader) (g.T.Sink.contents c.args.writer.now) (g.T.Sink.contents c.serve.new.writer) (g.S.Source.pieces c.args.reader.now) (g.S.Source.pieces c.serve.new.reader) c.serve.ensures.stops
