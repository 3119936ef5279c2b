use Rattle.std.specs.Prelude.{slice_set}
use Rattle.smallvec.specs.SmallVec.{with_items}
use Rattle.aud_store.proofs.Framed.{first_written, shelf_written}
use Rattle.aud_store.proofs.Writes.{written_inline}
use Rattle.aud_store.proofs.frames.Frames.assign.Goals as goal

pub returns-then-frame-eq0 : goal.returns-then-frame-eq0
returns-then-frame-eq0 c =
    let first = c.self.inside.first in
    first_written c.self.inside.made c.args.frame first.items (with_items first c.write.new.cells).items c.self.inside.shelf c.args.self.now (λ vs. slice_set vs c.args.index c.args.value) c.self.view_is c.requires c.if-frame-eq0.true
    (written_inline first c.as_mut_slice.result.now c.write.new.cells c.args.index c.args.value c.as_mut_slice.ensures.value c.write.ensures)

pub returns : goal.returns
returns c =
    shelf_written c.self.inside.made c.args.frame c.self.inside.first.items c.self.inside.shelf c.write-2.new.self c.args.self.now (λ vs. slice_set vs c.args.index c.args.value) c.self.view_is c.requires c.if-frame-eq0.false
    c.write-2.ensures.written
