use Rattle.std.proofs.Common.{ap, sym, ◌∙◌}
use Rattle.aud_store.specs.Ties.Shelf.{cells_in}
use Rattle.aud_store.proofs.Keeping.{key_cells}
use Rattle.aud_store.proofs.shelf.Shelf.cells.Goals as goal

pub returns-in-Some : goal.returns-in-Some
returns-in-Some c =
    c.as_slice.ensures
    ∙ sym (key_cells c.args.made c.args.self.now c.args.number c.in-Some.key c.requires c.in-Some.ensures.found ∙ ap cells_in c.index.ensures)
