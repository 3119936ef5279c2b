use Rattle.std.proofs.Common.{rules}
use Rattle.aud_solo.proofs.ServingLaws.{some_unread, front_unread}
use Rattle.aud_solo.proofs.serving.serve_all.Goals as goal

pub returns-in_err-greet-clause-serves : goal.returns-in_err-greet-clause-serves
returns-in_err-greet-clause-serves g c =
    let words = g.A.Attendant.words in
    let left = g.S.Source.remaining c.args.reader.now in
    let before = g.T.Sink.contents c.args.writer.now in
    let now = g.T.Sink.contents c.greet.new.writer in
    let t = c.greet.ensures.tells in
    record {
      all = search rules;
      ended = search rules;
      read = λ e. absurd (c.greet.ensures.read (search rules));
      memory = λ e. some_unread words left before now (t.memory (search rules));
      write = λ e. front_unread words left before now (t.write (search rules));
    }
