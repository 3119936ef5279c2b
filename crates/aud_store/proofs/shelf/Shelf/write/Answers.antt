use Rattle.std.specs.Prelude.{slice_set}
use Rattle.smallvec.specs.SmallVec.{with_items}
use Rattle.aud_store.proofs.Keeping.{written_changes}
use Rattle.aud_store.proofs.Writes.{written_inline}
use Rattle.aud_store.proofs.shelf.Shelf.write.Goals as goal

pub returns-in-Some-clause-written : goal.returns-in-Some-clause-written
returns-in-Some-clause-written c =
    let cells = c.index_mut.result.now in
    written_changes c.args.made c.args.self.now c.args.number c.in-Some.key (with_items cells c.write.new.cells) c.requires c.in-Some.ensures.found
    (λ vs. slice_set vs c.args.index c.args.value) cells c.index_mut.ensures.value
    (written_inline cells c.as_mut_slice.result.now c.write.new.cells c.args.index c.args.value c.as_mut_slice.ensures.value c.write.ensures)
