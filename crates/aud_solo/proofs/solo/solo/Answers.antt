use Rattle.aud_solo.proofs.SessionLaws.{stops_at}
use Rattle.aud_solo.proofs.solo.solo.Goals as goal

pub serve-requires : goal.serve-requires
serve-requires g c = (c.new-session.ensures.limits, c.new-session.ensures.asked, c.new-session.ensures.over)

pub returns-clause-quit : goal.returns-clause-quit
returns-clause-quit g c = stops_at (g.S.Source.remaining c.args.reader.now) (g.S.Source.remaining c.serve.new.reader) (g.T.Sink.contents c.args.writer.now) (g.T.Sink.contents c.serve.new.writer) (g.S.Source.pieces c.args.reader.now) (g.S.Source.pieces c.serve.new.reader) c.serve.ensures.stops
