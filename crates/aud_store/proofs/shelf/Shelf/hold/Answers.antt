use Rattle.aud_store.proofs.Keeping.{gap_empty, none_put}
use Rattle.aud_store.proofs.shelf.Shelf.hold.Goals as goal

pub returns-in_err-key-in-Err-clause-shelf : goal.returns-in_err-key-in-Err-clause-shelf
returns-in_err-key-in-Err-clause-shelf c = c.in_err-key-in-Err.ensures.still c.args.made c.requires.shelf

pub returns-in_ok-key-in-Err-clause-shelf : goal.returns-in_ok-key-in-Err-clause-shelf
returns-in_ok-key-in-Err-clause-shelf c = c.in_ok-key-in-Err.ensures.shelf c.args.made c.requires.shelf c.requires.within

pub returns-in_ok-key-in-Err-clause-same : goal.returns-in_ok-key-in-Err-clause-same
returns-in_ok-key-in-Err-clause-same c =
    none_put c.args.number c.args.self.now c.keep.new.self (gap_empty c.args.self.now c.args.number c.in-Err.at c.in-Err.ensures.absent)
    (c.in_ok-key-in-Err.ensures.cells c.args.made c.requires.shelf)
