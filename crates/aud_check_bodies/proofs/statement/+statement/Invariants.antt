use Rattle.std.proofs.Common.{drop, map}
use Rattle.aud_syntax.specs.declared.tree.ProtectedBody.{out-ProtectedBody}
use Rattle.aud_syntax.specs.Ties.View.{plain_others, arm_list, guarded_list, handler_list, plain_declarations, operation_body_list}
use Rattle.aud_typed.specs.Ties.View.{plain_statement}
use Rattle.aud_check_bodies.specs.Statements.{checked_others, checked_arms, checked_alternatives, checked_handlers, checked_declarations, checked_bodies}
use Rattle.aud_check_bodies.specs.Ties.Arms.{plain_arm, plain_handler, plain_alternative}
use Rattle.aud_names.specs.Ties.Regions.{plain_place}
use Rattle.aud_check_bodies.specs.Ties.Tables.{plain_tables}
use Rattle.aud_check_bodies.specs.Ties.Within.{around_of}
use Rattle.aud_check_bodies.specs.Ties.Objects.{both_places}
use Rattle.aud_check_bodies.proofs.Declared.{DeclaresAhead}
use Rattle.aud_check_bodies.proofs.ObjectBodies.{BodiesAhead}
use Rattle.aud_check_bodies.proofs.Walked.{Left}
use Rattle.aud_check_bodies.proofs.statement.+statement.Given as goal

abbrev pub invariant-arms-loop-next : goal.invariant-arms-loop-next
invariant-arms-loop-next l = Left (map plain_arm l.typed.items) l.faults (checked_arms (arm_list (drop l.next-index l.arms)) (around_of l.within) l.within.scope.now (plain_tables l.tables)) l.fn.faults (checked_arms (arm_list l.arms) (around_of l.within) l.within.scope.now (plain_tables l.fn.tables))

abbrev pub invariant-more_statements-loop-next : goal.invariant-more_statements-loop-next
invariant-more_statements-loop-next l = Left (map plain_statement l.typed.items) l.faults (checked_others (plain_others (drop l.next-index l.others)) (around_of l.within) l.within.scope.now (plain_tables l.tables)) l.fn.faults (checked_others (plain_others l.others) (around_of l.within) l.within.scope.now (plain_tables l.fn.tables))

abbrev pub invariant-handlers-loop-next : goal.invariant-handlers-loop-next
invariant-handlers-loop-next l = Left (map plain_handler l.typed.items) l.faults (checked_handlers (handler_list (drop l.next-index l.handlers)) (around_of l.within) l.within.scope.now (plain_tables l.tables)) l.fn.faults (checked_handlers (handler_list l.handlers) (around_of l.within) l.within.scope.now (plain_tables l.fn.tables))

abbrev pub invariant-alternatives-loop-next : goal.invariant-alternatives-loop-next
invariant-alternatives-loop-next l = Left (map plain_alternative l.typed.items) l.faults (checked_alternatives (guarded_list (drop l.next-index l.others)) (around_of l.within) l.within.scope.now (plain_tables l.tables)) l.fn.faults (checked_alternatives (guarded_list l.others) (around_of l.within) l.within.scope.now (plain_tables l.fn.tables))

abbrev pub invariant-declared-loop-next : goal.invariant-declared-loop-next
invariant-declared-loop-next l = DeclaresAhead l.faults l.part (checked_declarations (plain_declarations (drop l.next-index l.source)) (plain_place l.part.region l.outer) (plain_tables l.tables)) l.initial.faults l.initial.part (checked_declarations (plain_declarations l.source) (plain_place l.initial.part.region l.outer) (plain_tables l.initial.tables))

abbrev pub invariant-bodies_within-loop-next : goal.invariant-bodies_within-loop-next
invariant-bodies_within-loop-next l =
    BodiesAhead l.faults (checked_bodies (operation_body_list (drop l.next-index (out-ProtectedBody l.node).bodies.items)) (both_places l.declared_parts l.inside l.in_function) l.awaited.items (plain_tables l.tables))
    l.fn.faults (checked_bodies (operation_body_list (out-ProtectedBody l.fn.node).bodies.items) (both_places l.fn.declared_parts l.fn.inside l.fn.in_function) l.fn.awaited.items (plain_tables l.fn.tables))
