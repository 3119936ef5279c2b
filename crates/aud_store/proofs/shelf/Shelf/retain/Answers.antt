use Rattle.std.proofs.Common.{◌≡◌, ◌<◌, ◌≤◌, length, sym, subst, ◌∙◌, arith}
use Rattle.std.proofs.lemmas.List.Filters.{FiltersInPlace-all, FiltersInPlace-more_no, FiltersInPlace-more_set}
use Rattle.aud_store.proofs.Keeping.{GivenBack, one_stays, one_goes, read_there, retained_shelf, retained_cells}
use Rattle.aud_store.proofs.shelf.Shelf.retain.Goals as goal
use Rattle.aud_store.proofs.shelf.Shelf.retain.Goals.{then-is_among, else-is_among}

pub loop-index-preserved : goal.loop-index-preserved
loop-index-preserved c =
    let at = c.loop-index in
    let old = c.args.self.now in
    let kept = c.index-kept.result.now in
    let within : at.index < length at.self.kept.items = omega (arith, c.loop-index-test.true, c.len-index-end.ensures, old.kept.ok.0, at.invariant.moved.long) in
    elim c.if-is_among.branch [
      | then-is_among w ↦ rw (w.self-is, w.left-is) (record {
        moved = FiltersInPlace-more_set {x = kept} at.invariant.moved within (sym c.is_among.ensures ∙ w.if-is_among.true) c.index-kept.ensures;
        given = one_stays c.args.named.now old at.self.slots at.index at.invariant.given;
      })
      | else-is_among w ↦ rw (w.self-is, w.left-is) (record {
        moved = FiltersInPlace-more_no {x = kept} at.invariant.moved within (sym c.is_among.ensures ∙ w.if-is_among.false) c.index-kept.ensures;
        given = one_goes c.args.named.now old at.self.slots w.try_remove.new.self at.index kept at.invariant.given w.try_remove.ensures.updates (sym c.is_among.ensures ∙ w.if-is_among.false)
            (read_there old.kept.items at.self.kept.items at.index kept at.invariant.moved.rest c.index-kept.ensures);
      })
    ]

pub returns-clause-shelf : goal.returns-clause-shelf
returns-clause-shelf c =
    let at = c.loop-index in
    let old = c.args.self.now in
    let all : length old.kept.items ≤ at.index = omega (arith, c.loop-index-test.false, c.len-index-end.ensures, old.kept.ok.0) in
    let end : at.index ≡ length old.kept.items = omega (arith, all, at.invariant.moved.within) in
    retained_shelf c.args.named.now old _ c.requires.ordered (subst (GivenBack c.args.named.now old at.self.slots) end at.invariant.given)
    (c.truncate.ensures.items ∙ FiltersInPlace-all at.invariant.moved all)

pub returns-clause-named : goal.returns-clause-named
returns-clause-named c =
    let at = c.loop-index in
    let old = c.args.self.now in
    let all : length old.kept.items ≤ at.index = omega (arith, c.loop-index-test.false, c.len-index-end.ensures, old.kept.ok.0) in
    let end : at.index ≡ length old.kept.items = omega (arith, all, at.invariant.moved.within) in
    retained_cells c.args.named.now old (record { kept = c.truncate.new.self; slots = at.self.slots }) c.requires.ordered (subst (GivenBack c.args.named.now old at.self.slots) end at.invariant.given)
    (c.truncate.ensures.items ∙ FiltersInPlace-all at.invariant.moved all)
