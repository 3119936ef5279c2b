use Rattle.std.proofs.Common.{◌≡◌, drop, map}
use Rattle.aud_syntax.specs.Ties.View.{plain_private_item}
use Rattle.aud_fault.specs.Least.{noted}
use Rattle.aud_names.specs.Ties.Regions.{plain_regions}
use Rattle.aud_check_bodies.specs.Objects.{declared_items, items_faults}
use Rattle.aud_check_bodies.specs.Ties.Objects.{plain_parts}
use Rattle.aud_check_bodies.proofs.object.declare_items.Given as goal

abbrev pub invariant-loop-next : goal.invariant-loop-next
invariant-loop-next l = record {
  declared : declared_items l.object (map plain_private_item (drop l.next-index l.list)) (plain_regions l.outer) (plain_parts l.parts l.around l.tables) ≡ declared_items l.object (map plain_private_item l.list) (plain_regions l.outer) (plain_parts l.fn.parts l.fn.around l.fn.tables);
  noted : noted l.faults (items_faults l.object (map plain_private_item (drop l.next-index l.list)) (plain_regions l.outer) (plain_parts l.parts l.around l.tables)) ≡ noted l.fn.faults (items_faults l.object (map plain_private_item l.list) (plain_regions l.outer) (plain_parts l.fn.parts l.fn.around l.fn.tables));
}
