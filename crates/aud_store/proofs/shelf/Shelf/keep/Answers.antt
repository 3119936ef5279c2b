use Rattle.std.proofs.Common.{◌≡◌, None, Some, ap, sym, ◌∙◌}
use Rattle.slab.specs.Slab.{get, Updates}
use Rattle.aud_store.specs.Ties.Shelf.{Slots}
use Rattle.aud_store.proofs.Keeping.{filled_after, kept_changes, kept_found, kept_shelf}
use Rattle.aud_store.proofs.shelf.Shelf.keep.Goals as goal
use Rattle.aud_store.proofs.shelf.Shelf.keep.Goals.{After-insert_reserved}

-- the key had no cells
vacant : (c : After-insert_reserved) → get c.args.self.now.slots c.vacant_key-key.result ≡ None
vacant c = ap (λ (s : Slots). get s c.vacant_key-key.result) (sym c.reserve.ensures.rest_kept) ∙ c.vacant_key-key.ensures.vacant

-- and has these now
updates : (c : After-insert_reserved) → Updates c.args.self.now.slots c.insert_reserved.new.self c.vacant_key-key.result (Some c.in_ok-cells.cells)
updates c = filled_after c.args.self.now.slots c.reserve.new.self c.insert_reserved.new.self _ c.vacant_key-key.result c.insert_reserved.result _ c.reserve.ensures.rest_kept (c.insert_reserved.ensures.key ∙ sym c.vacant_key-key.ensures.value) c.insert_reserved.ensures.updates

pub returns-clause-shelf : goal.returns-clause-shelf
returns-clause-shelf c =
    let after = (goal.at.returns-clause-shelf c).After-insert_reserved in
    kept_shelf c.args.self.now _ c.args.number c.args.at c.vacant_key-key.result c.args.cells.now c.in_ok-cells.cells c.requires.some c.requires.gap (vacant after) (updates after) c.in_ok-cells.ensures.ok c.in_ok-insert.ensures.items

pub returns-clause-cells : goal.returns-clause-cells
returns-clause-cells c =
    let after = (goal.at.returns-clause-cells c).After-insert_reserved in
    kept_changes c.args.self.now _ c.args.number c.args.at c.vacant_key-key.result c.args.cells.now c.in_ok-cells.cells c.requires.some c.requires.gap (vacant after) (updates after) c.in_ok-cells.ensures.ok c.in_ok-insert.ensures.items

pub returns-clause-found : goal.returns-clause-found
returns-clause-found c =
    let after = (goal.at.returns-clause-found c).After-insert_reserved in
    kept_found c.args.self.now (record { kept = c.insert.new.self; slots = c.insert_reserved.new.self }) c.args.number c.args.at c.vacant_key-key.result c.args.cells.now c.in_ok-cells.cells c.requires.some c.requires.gap (vacant after) (updates after) c.in_ok-cells.ensures.ok c.in_ok-insert.ensures.items
