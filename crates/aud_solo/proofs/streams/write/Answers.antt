use Rattle.std.proofs.Common.{take, drop, sym}
use Rattle.std.proofs.lemmas.List.{take-append-drop}
use Rattle.aud_solo.proofs.StreamLaws.{kept_behind}
use Rattle.aud_solo.proofs.streams.write.Goals as goal

pub returns-in-Err-clause-bytes : goal.returns-in-Err-clause-bytes
returns-in-Err-clause-bytes g c =
    let contents = g.W.Write.contents in
    let n = c.in_ok-count.count in
    (take n c.args.bytes.now, drop n c.args.bytes.now, kept_behind (contents c.args.writer.now) (contents c.write_once.new.writer) (contents c.flush.new.self) (take n c.args.bytes.now) c.in_ok-count.ensures.bytes c.flush.ensures.bytes, sym (take-append-drop n c.args.bytes.now))
