use Rattle.std.proofs.Common.{IfErr, IfOk, rules}
use Rattle.std.proofs.lemmas.List.Sorted.{answers_always}
use Rattle.aud_store.specs.declared.shelf.Kept.{Kept}
use Rattle.aud_store.specs.Ties.Shelf.{IsAt, IsGap}
use Rattle.aud_store.proofs.Keeping.{found_place}
use Rattle.aud_store.proofs.shelf.Shelf.find.Goals as goal
use Rattle.aud_store.proofs.shelf.Shelf.find.Goals.{After-binary_search_by_key}

-- the closure gives numbers, and the slice is what is kept
place : (c : After-binary_search_by_key) → IfOk c.binary_search_by_key.result (IsAt c.args.self.now.kept.items c.args.number) × IfErr c.binary_search_by_key.result (IsGap c.args.self.now.kept.items c.args.number)
place c =
    let facts = c.binary_search_by_key.ensures in
    let by_key = facts.position (λ (k : Kept). k.number) (answers_always _ _ _ (λ f a r g called. search rules)) in
    rw (← c.deref.ensures.value) (found_place c.deref.result.now (rw c.deref.ensures.value c.requires) c.args.number c.binary_search_by_key.result facts.bound by_key)

pub returns-clause-found : goal.returns-clause-found
returns-clause-found c = (place (goal.at.returns-clause-found c).After-binary_search_by_key).0

pub returns-clause-absent : goal.returns-clause-absent
returns-clause-absent c = (place (goal.at.returns-clause-absent c).After-binary_search_by_key).1
