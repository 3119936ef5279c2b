use Rattle.std.proofs.Common.{◌++◌, ap, ◌∙◌}
use Rattle.aud_store.proofs.Keeping.{changes_after, none_changes, written_changes}
use Rattle.aud_store.proofs.Writes.{on_err}
use Rattle.aud_store.proofs.shelf.Shelf.extend.Goals as goal

pub returns-in_err-extend_from_slice-clause-kept : goal.returns-in_err-extend_from_slice-clause-kept
returns-in_err-extend_from_slice-clause-kept c =
    let changes = written_changes c.args.made c.hold.new.self c.args.number c.in_ok-key.key c.extend_from_slice.new.self c.hold.ensures.shelf c.in_ok-key.ensures.found
    (λ cells. cells) c.index_mut.result.now c.index_mut.ensures.value (ap (λ v. v.items) c.in_err-extend_from_slice.ensures.err) in
    on_err c.from_residual-in_err-extend_from_slice.result (λ n. none_changes c.args.number c.hold.new.self _ changes n ∙ c.hold.ensures.same n)

pub returns-clause-longer : goal.returns-clause-longer
returns-clause-longer c =
    changes_after c.args.number (λ cells. cells ++ c.args.values.now) c.args.self.now c.hold.new.self _ c.hold.ensures.same
    (written_changes c.args.made c.hold.new.self c.args.number c.in_ok-key.key c.extend_from_slice.new.self c.hold.ensures.shelf c.in_ok-key.ensures.found
    (λ cells. cells ++ c.args.values.now) c.index_mut.result.now c.index_mut.ensures.value c.in_ok-extend_from_slice.ensures.ok)
