use Rattle.std.proofs.Common.{rules, IsErrOf}
use Rattle.std.specs.Io.KnownBytes.{Appends}
use Rattle.aud_lines.specs.Requests.{requests}
use Rattle.aud_solo.specs.declared.serving.ServeFault.TheVariants as fault
use Rattle.aud_solo.proofs.ServingLaws.{cut, cut_part, part, stops_more}
use Rattle.aud_solo.proofs.serving.serve.Goals as goal

pub returns-in_err-write-clause-serves : goal.returns-in_err-write-clause-serves
returns-in_err-write-clause-serves g c =
    let contents = g.T.Sink.contents in
    let out : IsErrOf c.serve_all-served.result fault.Memory = search rules in
    let failed : IsErrOf c.write.result fault.Write = search rules in
    let (input, taken, some) = c.serve_all-served.ensures.serves.memory out in
    let rest = cut_part g.A.Attendant.words.tells (contents c.args.writer.now) (contents c.serve_all-served.new.writer) (contents c.write.new.writer) (requests input) c.out_of_memory.result.now c.out_of_memory.ensures some (c.write.ensures.write failed) in
    record { all = search rules; ended = search rules; read = search rules; memory = search rules; write = λ e. (input, taken, rest) }

pub returns-in_ok-write-clause-serves : goal.returns-in_ok-write-clause-serves
returns-in_ok-write-clause-serves g c =
    let contents = g.T.Sink.contents in
    let out : IsErrOf c.serve_all-served.result fault.Memory = search rules in
    let whole : Appends (contents c.serve_all-served.new.writer) (contents c.write.new.writer) c.out_of_memory.result.now = search rules in
    let (input, taken, some) = c.serve_all-served.ensures.serves.memory out in
    let short = cut g.A.Attendant.words.tells (contents c.args.writer.now) (contents c.serve_all-served.new.writer) (contents c.write.new.writer) (requests input) c.out_of_memory.result.now c.out_of_memory.ensures some whole in
    record { all = search rules; ended = search rules; read = search rules; memory = λ e. (input, taken, short); write = search rules }

pub returns-in_err-write-clause-stops : goal.returns-in_err-write-clause-stops
returns-in_err-write-clause-stops g c =
    let contents = g.T.Sink.contents in
    stops_more g.A.Attendant.words (g.S.Source.remaining c.args.reader.now) (g.S.Source.remaining c.serve_all-served.new.reader) (contents c.args.writer.now) (contents c.serve_all-served.new.writer) (contents c.write.new.writer) (g.S.Source.pieces c.args.reader.now) (g.S.Source.pieces c.serve_all-served.new.reader) c.serve_all-served.ensures.stops c.write.ensures.grows

pub returns-in_ok-write-clause-stops : goal.returns-in_ok-write-clause-stops
returns-in_ok-write-clause-stops g c =
    let contents = g.T.Sink.contents in
    stops_more g.A.Attendant.words (g.S.Source.remaining c.args.reader.now) (g.S.Source.remaining c.serve_all-served.new.reader) (contents c.args.writer.now) (contents c.serve_all-served.new.writer) (contents c.write.new.writer) (g.S.Source.pieces c.args.reader.now) (g.S.Source.pieces c.serve_all-served.new.reader) c.serve_all-served.ensures.stops c.write.ensures.grows

pub returns-else-matches-clause-serves : goal.returns-else-matches-clause-serves
returns-else-matches-clause-serves g c =
    let tells = g.A.Attendant.words.tells in
    let s = c.serve_all-served.ensures.serves in
    record {
      all = s.all;
      ended = s.ended;
      read = s.read;
      memory = search rules;
      write = λ e. let w = s.write e in (w.0, w.1, part tells (g.T.Sink.contents c.args.writer.now) (g.T.Sink.contents c.serve_all-served.new.writer) (requests w.0) w.2);
    }
