use Rattle.std.proofs.Common.{ap, sym, ◌∙◌}
use Rattle.aud_store.specs.Ties.Shelf.{cells_in}
use Rattle.aud_store.proofs.Keeping.{key_cells, written_changes}
use Rattle.aud_store.proofs.shelf.Shelf.replace.Goals as goal

pub returns-clause-given : goal.returns-clause-given
returns-clause-given c =
    ap (λ v. v.items) c.replace.ensures.value
    ∙ sym (key_cells c.args.made c.args.self.now c.args.number c.in_ok-key.key c.requires c.in_ok-key.ensures.found ∙ ap cells_in c.index_mut.ensures.value)

pub returns-clause-replaced : goal.returns-clause-replaced
returns-clause-replaced c =
    written_changes c.args.made c.args.self.now c.args.number c.in_ok-key.key c.replace.new.dest c.requires c.in_ok-key.ensures.found
    (λ none. c.args.cells.items) c.index_mut.result.now c.index_mut.ensures.value (ap (λ v. v.items) c.replace.ensures.after)
