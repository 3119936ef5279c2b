use Rattle.std.proofs.Common.{◌+◌, arith}
use Rattle.aud_store.proofs.Keeping.{shelf_more}
use Rattle.aud_store.proofs.Writes.{on_err}
use Rattle.aud_store.proofs.shelf.Shelf.push.Goals as goal

pub returns-in_err-keep-clause-still : goal.returns-in_err-keep-clause-still
returns-in_err-keep-clause-still c = on_err c.from_residual.result (c.in_err-keep.ensures.still c.args.number c.requires.shelf)

pub returns-clause-shelf : goal.returns-clause-shelf
returns-clause-shelf c =
    let more = c.args.number + 1 in
    c.in_ok-keep.ensures.shelf more (shelf_more c.args.number more c.args.self.now (omega arith) c.requires.shelf) (omega arith)

pub returns-clause-pushed : goal.returns-clause-pushed
returns-clause-pushed c = c.in_ok-keep.ensures.cells c.args.number c.requires.shelf
