use Rattle.std.proofs.lemmas.List.Filters.{FiltersInPlace}
use Rattle.aud_meaning.specs.Parts.{contains}
use Rattle.aud_store.specs.declared.shelf.Kept.{Kept}
use Rattle.aud_store.proofs.Keeping.{GivenBack}
use Rattle.aud_store.proofs.shelf.Shelf.retain.Given as goal

abbrev pub invariant-loop-index : goal.invariant-loop-index
invariant-loop-index l = record {
  moved : FiltersInPlace (λ (k : Kept). contains k.number l.named) l.fn.self.kept.items l.self.kept.items l.left l.index;
  given : GivenBack l.named l.fn.self l.self.slots l.index;
}
