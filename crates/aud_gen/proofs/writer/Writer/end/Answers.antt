use Rattle.std.proofs.Common.{[], ◌∷◌, ap, sym}
use Rattle.aud_code.specs.Flat.{end}
use Rattle.aud_code.specs.View.{plain_end}
use Rattle.aud_gen.proofs.Writing.{same_written, within_stays}
use Rattle.aud_gen.proofs.writer.Writer.end.Goals as goal

pub returns : goal.returns
returns c =
    let line = λ (w : _). end (plain_end (record { last = c.args.last; at = c.args.at; out = c.args.out; within = w })) ∷ [] in
    same_written _ _ (ap line (sym (within_stays c.args.within))) c.write.ensures
