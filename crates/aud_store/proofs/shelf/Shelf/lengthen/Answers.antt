use Rattle.std.proofs.Common.{◌++◌, replicate, ◌∙◌}
use Rattle.aud_store.proofs.Keeping.{changes_after, none_changes, written_changes}
use Rattle.aud_store.proofs.Writes.{on_err}
use Rattle.aud_store.proofs.shelf.Shelf.lengthen.Goals as goal

pub returns-in_err-lengthen-clause-kept : goal.returns-in_err-lengthen-clause-kept
returns-in_err-lengthen-clause-kept c =
    let changes = written_changes c.args.made c.hold.new.self c.args.number c.in_ok-key.key c.lengthen.new.cells c.hold.ensures.shelf c.in_ok-key.ensures.found
    (λ cells. cells) c.index_mut.result.now c.index_mut.ensures.value c.in_err-lengthen.ensures.kept in
    on_err c.from_residual-in_err-lengthen.result (λ n. none_changes c.args.number c.hold.new.self _ changes n ∙ c.hold.ensures.same n)

pub returns-clause-longer : goal.returns-clause-longer
returns-clause-longer c =
    changes_after c.args.number (λ cells. cells ++ replicate c.args.count c.args.value) c.args.self.now c.hold.new.self _ c.hold.ensures.same
    (written_changes c.args.made c.hold.new.self c.args.number c.in_ok-key.key c.lengthen.new.cells c.hold.ensures.shelf c.in_ok-key.ensures.found
    (λ cells. cells ++ replicate c.args.count c.args.value) c.index_mut.result.now c.index_mut.ensures.value c.in_ok-lengthen.ensures.longer)
