use Rattle.aud_store.proofs.Keeping.{gap_empty}
use Rattle.aud_store.proofs.shelf.Shelf.key.Goals as goal

pub returns-in-Err-clause-absent : goal.returns-in-Err-clause-absent
returns-in-Err-clause-absent c = gap_empty c.args.self.now c.args.number _ c.in-Err.ensures.absent
