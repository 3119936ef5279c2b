use Rattle.std.proofs.Common.{◌≡◌, drop, map}
use Rattle.aud_syntax.specs.Ties.View.{plain_operation}
use Rattle.aud_fault.specs.Least.{noted}
use Rattle.aud_names.specs.Ties.Regions.{plain_regions}
use Rattle.aud_check_bodies.specs.Objects.{declared_operations, operations_faults}
use Rattle.aud_check_bodies.specs.Ties.Objects.{plain_parts}
use Rattle.aud_check_bodies.proofs.object.declare_operations.Given as goal

abbrev pub invariant-loop-next : goal.invariant-loop-next
invariant-loop-next l = record {
  declared : declared_operations l.object (map plain_operation (drop l.next-index l.list)) (plain_regions l.outer) (plain_parts l.parts l.around l.tables) ≡ declared_operations l.object (map plain_operation l.list) (plain_regions l.outer) (plain_parts l.fn.parts l.fn.around l.fn.tables);
  noted : noted l.faults (operations_faults l.object (map plain_operation (drop l.next-index l.list)) (plain_regions l.outer) (plain_parts l.parts l.around l.tables)) ≡ noted l.fn.faults (operations_faults l.object (map plain_operation l.list) (plain_regions l.outer) (plain_parts l.fn.parts l.fn.around l.fn.tables));
}
