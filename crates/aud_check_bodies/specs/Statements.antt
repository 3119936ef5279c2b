-- Statements, declarative parts and bodies (RM 3.11, 5, 6.3, 11.2).
use Rattle.std.specs.Prelude.{ℕ, Bool, true, false, List, [], ◌∷◌, ◌++◌, Option, Some, None, is_some, not}
use Rattle.aud_text.specs.declared.place.Pos.{Pos}
use Rattle.aud_syntax.specs.declared.tree.Ident.{Ident}
use Rattle.aud_syntax.specs.Plain.{Expression, MaybeExpression, no_expression, an_expression, Formal, Declaration, object, constant, array, exception, procedure, task, task_body, protected, protected_body, OperationBody, entry_body, procedure_body, function_body, OperationBodies, no_bodies, more_bodies, no_declarations, more_declarations, Statement, null, assign, call, if_then, loop, exit, block, return, raise, accepting, delaying, select_accept, select_call, abort, requeue, Arms, no_arms, more_arms, Iteration, forever, while, for, Statements, in_order, MoreStatements, no_statements, more_statements, Declarations, Body, body, Handlers, no_handlers, more_handlers, Choices, Simple, Accept, accept, Doing, without_do, with_do, Alternative, accept_alternative, delay_alternative, terminate_alternative, Alternatives, no_alternatives, more_alternatives, Otherwise, or_delay, or_else}
use Rattle.aud_typed.specs.declared.program.Exception.{Exception}
use Rattle.aud_typed.specs.declared.program.Subtype.{Subtype}
use Rattle.aud_typed.specs.Tree as tree
use Rattle.aud_fault.specs.declared.fault.Fault.{Fault}
use Rattle.aud_names.specs.declared.rules.Base.TheVariants.{Whole}
use Rattle.aud_names.specs.declared.awaited.AwaitedPart.{AwaitedPart}
use Rattle.aud_names.specs.declared.names.Entry.{Entry}
use Rattle.aud_names.specs.declared.names.NamedParameter.{NamedParameter}
use Rattle.aud_names.specs.Names.{Region, Place, innermost, in_region, place_in, in_frame, hiding}
use Rattle.aud_names.specs.Objects.{awaited_parts}
use Rattle.aud_check_bodies.specs.declared.within.Leaves.{Leaves}
use Rattle.aud_check_bodies.specs.declared.within.Leaves.TheVariants as leaves
use Rattle.aud_check_bodies.specs.Labels.{Labels, exit_loop}
use Rattle.aud_names.specs.Rules.{declared_once, right_name_at_end, right_label_at_end, exit_in_loop, return_in_place}
use Rattle.aud_check_bodies.specs.Tables.{Tables, Outcome, fine, after, and_then, next_region, with_region, region_kept, region_named, next_unit, unit_kept, with_unit}
use Rattle.aud_typing.specs.Expressions.{checked_simple, simple_at, wants}
use Rattle.aud_typing.specs.Conditions.{condition_faults, condition, maybe_condition_faults, maybe_condition}
use Rattle.aud_check_bodies.specs.Declarations.{integer_of, given_faults, given_value, Declared, leaving, checked_objects, checked_arrays, checked_exceptions, with_procedure, nothing_declared, joined_declared}
use Rattle.aud_check_bodies.specs.Formals.{Formals, body_formals}
use Rattle.aud_check_bodies.specs.Objects.{checked_protected, object_awaited, object_behind, object_body_of}
use Rattle.aud_check_bodies.specs.Operations.{Head, of_entry, of_procedure, of_function, is_function_head, BodyPlaces, body_places, operation_place, head_leaves, shape_of, operation_of}
use Rattle.aud_check_bodies.specs.Tasks.{checked_task, with_bodies, task_awaited, place_behind, task_body_of, with_activation}
use Rattle.aud_check_bodies.specs.Regions.{loop_region, in_loop, shown_names}
use Rattle.aud_check_bodies.specs.Values.{assign_faults, typed_assign}
use Rattle.aud_check_bodies.specs.Calls.{call_faults, typed_call, entry_call_of, selected_call_faults, selected_call}
use Rattle.aud_check_bodies.specs.Aborts.{abort_faults, typed_abort}
use Rattle.aud_check_bodies.specs.Requeues.{Requeuing, requeue_faults, typed_requeue}
use Rattle.aud_check_bodies.specs.Delays.{delay_at, delay_faults, typed_delay}
use Rattle.aud_check_bodies.specs.Accepts.{accept_formals, accept_faults, accepted, number_of, with_accepted, TypedAccept}
use Rattle.aud_check_bodies.specs.Selects.{TypedAlternative, accepts, delays, terminates, alternatives_of, form_faults, form_of}
use Rattle.aud_check_bodies.specs.Handlers.{raise_faults, typed_raise, none_chosen, all_choices_faults, choices_of, is_others}

-- what a statement knows of the constructs around it in its body: loops and blocks, whether a handler is among them, what a return would
-- leave, the entries of the accepts, and the accept or entry body whose call a requeue makes again
pub record Around : Type 0 where
  pub labels : Labels
  pub in_handler : Bool
  pub leaves : Leaves
  pub accepting : List ℕ
  pub requeuing : Option Requeuing

-- nothing is around the statements of a body: labels and handlers end at its border (RM 5.7(4), 11.3(3))
abbrev pub leaving_body : Leaves → Around
leaving_body l = record { labels = []; in_handler = false; leaves = l; accepting = []; requeuing = None }

abbrev pub nothing_around : Around
nothing_around = leaving_body leaves.Procedure

abbrev pub task_around : Around
task_around = leaving_body leaves.Task

abbrev pub labelled : Bool → Option Ident → Around → Around
labelled is_loop label around = record around { labels = (record { is_loop = is_loop; name = label }) ∷ around.labels }

abbrev pub handling : Around → Around
handling around = record around { in_handler = true }

-- in an entry body with these formals, of an object of this number
abbrev pub in_entry : Head → List NamedParameter → ℕ → Option Requeuing
in_entry (of_entry barrier) profile number = Some (record { profile = profile; object = Some number })
in_entry _ profile number = None

-- within an accept of an entry with these formals: no exit leaves it (RM 5.7(4)), and a return leaves no more than it (RM 6.5(4))
abbrev pub in_accept : Option Entry → List NamedParameter → Around → Around
in_accept e profile around = record {
  labels = [];
  in_handler = around.in_handler;
  leaves = leaves.Procedure;
  accepting = with_accepted e around.accepting;
  requeuing = Some (record { profile = profile; object = None });
}

-- Loops.

-- where a loop or block begins: at its label, if it has one
abbrev pub begin_at : Option Ident → Pos → Pos
begin_at None at = at
begin_at (Some label) at = label.at

-- a bound of a loop's parameter is an Integer (RM 5.5(4), profile)
abbrev pub bound_faults : Simple → Place → List Fault
bound_faults s place = (checked_simple s place).faults ++ wants Whole (simple_at s) (checked_simple s place).typed

abbrev pub bound_of : Simple → Place → tree.IntegerExpression
bound_of s place = integer_of (checked_simple s place).typed

-- a parameter is not visible in its own bounds (RM 8.3(16))
abbrev pub iteration_faults : Iteration → Place → List Fault
iteration_faults forever place = []
iteration_faults (while c) place = condition_faults c place
iteration_faults (for i backward low high) place = bound_faults low (hiding (i ∷ []) place) ++ bound_faults high (hiding (i ∷ []) place)

-- the place of a loop's statements, which see its parameter
abbrev pub loop_place : Iteration → Place → Place
loop_place forever place = place
loop_place (while c) place = place
loop_place (for i backward low high) place = in_loop i place

-- a parameter has a frame of its own
abbrev pub loop_tables : Iteration → Place → Tables → Tables
loop_tables forever place t = t
loop_tables (while c) place t = t
loop_tables (for i backward low high) place t = with_region (shown_names (loop_region i place).symbols) t

-- a loop that begins at its label and whose first word behind that is at a place
abbrev pub looped : Pos → Pos → Iteration → Place → ℕ → tree.Statement → tree.Statement
looped at next_at forever place region ss = tree.plain_loop ss
looped at next_at (while c) place region ss = tree.while_loop at (condition c place) ss
looped at next_at (for i backward low high) place region ss =
    tree.for_loop (record { at = at; next_at = next_at; region = region; backward = backward }) (bound_of low (hiding (i ∷ []) place)) (bound_of high (hiding (i ∷ []) place)) ss

-- Exits.

-- the number of an exit's loop; a faulty exit has none, and nothing is done of its program
abbrev pub loop_number : Option ℕ → ℕ
loop_number None = 0
loop_number (Some n) = n

-- What is made of sequences, arms and handlers.

-- a sequence of statements (RM 5.1(2)): the first, and those behind it
pub record TypedStatements : Type 0 where
  pub first : tree.Statement
  pub others : List tree.Statement

abbrev pub sequence_of : TypedStatements → tree.Statement
sequence_of s = tree.before s.first s.others

-- of an if statement
pub record TypedArm : Type 0 where
  pub at : Pos
  pub condition : tree.BooleanExpression
  pub statements : tree.Statement

abbrev pub arm_then : TypedArm → tree.Part → tree.Statement
arm_then a behind = tree.if_then a.at a.condition a.statements behind

-- an `elsif` is an if statement in the else part of what stands before it (RM 5.3(5))
abbrev pub arms_then : List TypedArm → tree.Part → tree.Part
arms_then [] otherwise = otherwise
arms_then (a ∷ more) otherwise = tree.some (arm_then a (arms_then more otherwise))

-- with its statements, which are checked behind its condition
abbrev pub arm_of : Pos → Expression → Place → Outcome TypedStatements → Outcome TypedArm
arm_of at c place ss = after (condition_faults c place) (and_then ss (λ x t. fine (record { at = at; condition = condition c place; statements = sequence_of x }) t))

pub record TypedHandler : Type 0 where
  pub others : Bool
  pub choices : List Exception
  pub statements : tree.Statement

-- with its statements
abbrev pub handler_of : Choices → Place → Outcome TypedStatements → Outcome TypedHandler
handler_of choices place ss = and_then ss (λ x t. fine (record { others = is_others choices; choices = choices_of choices place; statements = sequence_of x }) t)

abbrev pub handlers_of : List TypedHandler → tree.Handlers
handlers_of [] = tree.no_handlers
handlers_of (h ∷ hs) = tree.handler h.others h.choices h.statements (handlers_of hs)

-- of a body without its declarations
pub record TypedBody : Type 0 where
  pub statements : tree.Statement
  pub handlers : tree.Handlers

abbrev pub body_with : List tree.Statement → Body → TypedBody → tree.Body
body_with elaborations (body begin ss hs end name semicolon) b = tree.body (tree.part_of elaborations) begin b.statements b.handlers end

-- where a body's `begin` stands, the name at its end, and the semicolon
abbrev pub begin_of : Body → Pos
begin_of (body begin ss hs end name semicolon) = begin

abbrev pub end_name : Body → Option Ident
end_name (body begin ss hs end name semicolon) = name

abbrev pub end_semicolon : Body → Pos
end_semicolon (body begin ss hs end name semicolon) = semicolon

-- Returns (RM 6.5): a task's body is not left by one, but an accept in it is; a function by one with a value, and nothing else.

abbrev pub may_return : Leaves → Bool → Bool
may_return leaves.Task valued = false
may_return leaves.Procedure valued = not valued
may_return (leaves.Function s) valued = valued

-- the subtype of the value
abbrev pub returned_subtype : Leaves → Option Subtype
returned_subtype (leaves.Function s) = s
returned_subtype _ = None

abbrev pub return_faults : Pos → MaybeExpression → Leaves → Place → List Fault
return_faults at no_expression l place = return_in_place (may_return l false) at
return_faults at (an_expression e) l place = return_in_place (may_return l true) at ++ given_faults e (returned_subtype l) place

abbrev pub typed_return : Pos → MaybeExpression → Leaves → Place → tree.Statement
typed_return at no_expression l place = tree.return at
typed_return at (an_expression e) l place = tree.return_value at (given_value e (returned_subtype l) place)

-- Bodies that are entered. What is checked of their declarations, and of the statements behind these, is told by where it stands.

-- the region of a place is entered, of a task's body where the flag holds: first its declarations, and then the statements, which see what
-- it declares
abbrev pub entered : Bool → Body → (Place → Tables → Outcome Declared) → (Place → Tables → Outcome TypedBody) → Place → Tables → Outcome tree.Body
entered of_task b declared stated place t =
    and_then (with_bodies (declared place (region_kept t))) (λ d t1.
    and_then (stated d.place (region_named (next_region t) (shown_names (innermost d.place).symbols) t1)) (λ x t2.
    fine (body_with (with_activation of_task (begin_of b) d.elaborations) b x) t2))

-- the body of a procedure, operation or entry, behind its formals, or a task's; the name after its end must be its own (RM 6.3, 9.1, 9.4)
abbrev pub unit_of : Bool → Pos → List ℕ → Option Ident → Place → ℕ → Outcome tree.Body → Outcome tree.UnitBody
unit_of is_function at name last place region o =
    and_then o (λ b t. after (right_name_at_end name last) (fine (record { level = (innermost place).level; region = region; is_function = is_function; at = at; body = b }) t))

-- what is around the statements of an operation's body, which stands at a place in its object's
abbrev pub operation_around : Head → List Formal → ℕ → Place → Around
operation_around head fs number here =
    record (leaving_body (head_leaves head (shape_of head fs here).returned)) { requeuing = in_entry head (shape_of head fs here).profile number }

-- the place behind the name of a procedure, which is visible in its own body (RM 8.3)
abbrev pub procedure_place : Ident → Place → Tables → Place
procedure_place i place t = in_region (with_procedure i (next_unit t) (innermost place)) place

-- a procedure's declaration at a place, of which these are the formals, and the place behind its name, whose scope begins behind them (RM
-- 8.2(2))
abbrev pub procedure_of : Ident → Formals → (Place → Tables → Outcome tree.UnitBody) → Place → Place → Tables → Outcome Declared
procedure_of i fs checked place here t =
    after (fs.faults ++ declared_once i.name i.at (innermost place).symbols)
    (and_then (checked (place_in fs.region here.regions) (unit_kept fs.profile t)) (λ u t1. fine (nothing_declared here) (with_unit (next_unit t) u t1)))

-- a loop's statements, which see its parameter
abbrev pub iterated : Pos → Pos → Iteration → (Place → Tables → Outcome TypedStatements) → Place → Tables → Outcome tree.Statement
iterated at next_at i stated place t =
    after (iteration_faults i place) (and_then (stated (loop_place i place) (loop_tables i place t)) (λ x t1.
    fine (looped at next_at i place (next_region t) (sequence_of x)) t1))

abbrev mutual
  -- RM 5.1
  pub checked_statement : Statement → Around → Place → Tables → Outcome tree.Statement
  checked_statement (null at) around place t = fine (tree.null at) t
  checked_statement (assign n value) around place t = after (assign_faults n value place t) (fine (typed_assign n value place t) t)
  checked_statement (call n) around place t = after (call_faults n place t) (fine (typed_call n place t) t)
  checked_statement (if_then at c ss arms otherwise) around place t =
      and_then (arm_of at c place (checked_statements ss around place t)) (λ a t1. and_then (checked_arms arms around place t1) (λ more t2. and_then (checked_others otherwise around place t2) (λ rest t3.
      fine (arm_then a (arms_then more (tree.part_of rest))) t3)))
  checked_statement (loop label at i ss last semicolon) around place t =
      after (right_label_at_end label last semicolon) (iterated (begin_at label at) at i (λ inner t1. checked_statements ss (labelled true label around) inner t1) place t)
  checked_statement (exit at name c) around place t =
      after (exit_in_loop (is_some (exit_loop name around.labels)) at ++ maybe_condition_faults c place) (fine (tree.exit at (loop_number (exit_loop name around.labels)) (maybe_condition c place)) t)
  checked_statement (block label at declare ds b) around place t =
      after (right_label_at_end label (end_name b) (end_semicolon b)) (and_then (entered false b (λ inner t1. checked_declarations ds inner t1) (λ inner t1. checked_body b (labelled false label around) inner t1) (in_frame place) t) (λ x t1.
      fine (tree.block (begin_at label at) (next_region t) x) t1))
  checked_statement (return at e) around place t = after (return_faults at e around.leaves place) (fine (typed_return at e around.leaves place) t)
  checked_statement (raise at name) around place t = after (raise_faults at name around.in_handler place) (fine (typed_raise at name place) t)
  checked_statement (accepting x) around place t = and_then (checked_accept x around place t) (λ a t1. fine (tree.accept a.at a.entry a.doing) t1)
  checked_statement (delaying d) around place t = after (delay_faults d place) (fine (tree.delay (delay_at d) (typed_delay d place)) t)
  checked_statement (select_accept at guard x xs otherwise) around place t =
      and_then (checked_alternative x guard around place t) (λ a t1. and_then (checked_alternatives xs around place t1) (λ more t2. and_then (checked_others otherwise around place t2) (λ rest t3.
      fine (tree.select at (alternatives_of (a ∷ more)) (tree.part_of rest)) t3)))
  checked_statement (select_call at n behind otherwise) around place t =
      after (form_faults otherwise place ++ selected_call_faults n place t) (and_then (checked_others behind around place t) (λ xs t1. and_then (checked_otherwise otherwise around place t1) (λ rest t2.
      fine (entry_call_of at (form_of otherwise place) (tree.part_of xs) (tree.part_of rest) (selected_call n place t)) t2)))
  checked_statement (abort at x xs) around place t = after (abort_faults x xs place) (fine (typed_abort at x xs place) t)
  checked_statement (requeue at x with_abort) around place t =
      after (requeue_faults at x around.requeuing place t) (fine (typed_requeue at x with_abort place t) t)

  -- RM 9.5.2
  pub checked_accept : Accept → Around → Place → Tables → Outcome TypedAccept
  checked_accept (accept at i fs doing) around place t =
      after (accept_faults i fs around.accepting place t) (and_then (checked_doing doing i (accept_formals fs place).region (in_accept (accepted i place) (accept_formals fs place).profile around) place t) (λ x t1.
      fine (record { at = at; entry = number_of (accepted i place); doing = x }) t1))

  -- in the region of an accept's formals; the name after its end must be the entry's
  pub checked_doing : Doing → Ident → Region → Around → Place → Tables → Outcome tree.Doing
  checked_doing without_do i r around place t = fine tree.without_do t
  checked_doing (with_do b) i r around place t =
      and_then (checked_body b around (place_in r place.regions) (with_region (shown_names r.symbols) t)) (λ x t1.
      after (right_name_at_end i.name (end_name b)) (fine (tree.with_do (next_region t) (body_with [] b x)) t1))

  -- RM 9.7.1: behind its guard
  pub checked_alternative : Alternative → MaybeExpression → Around → Place → Tables → Outcome TypedAlternative
  checked_alternative (accept_alternative x ss) guard around place t =
      after (maybe_condition_faults guard place) (and_then (checked_accept x around place t) (λ a t1. and_then (checked_others ss around place t1) (λ xs t2.
      fine (accepts (maybe_condition guard place) a (tree.part_of xs)) t2)))
  checked_alternative (delay_alternative d ss) guard around place t =
      after (maybe_condition_faults guard place ++ delay_faults d place) (and_then (checked_others ss around place t) (λ xs t1.
      fine (delays (maybe_condition guard place) (typed_delay d place) (tree.part_of xs)) t1))
  checked_alternative terminate_alternative guard around place t = after (maybe_condition_faults guard place) (fine (terminates (maybe_condition guard place)) t)

  pub checked_alternatives : Alternatives → Around → Place → Tables → Outcome (List TypedAlternative)
  checked_alternatives no_alternatives around place t = fine [] t
  checked_alternatives (more_alternatives guard x xs) around place t = and_then (checked_alternative x guard around place t) (λ a t1. and_then (checked_alternatives xs around place t1) (λ more t2. fine (a ∷ more) t2))

  -- RM 9.7.2, 9.7.3
  pub checked_otherwise : Otherwise → Around → Place → Tables → Outcome (List tree.Statement)
  checked_otherwise (or_delay d ss) around place t = checked_others ss around place t
  checked_otherwise (or_else ss) around place t = and_then (checked_statements ss around place t) (λ x t1. fine (x.first ∷ x.others) t1)

  -- RM 5.3
  pub checked_arms : Arms → Around → Place → Tables → Outcome (List TypedArm)
  checked_arms no_arms around place t = fine [] t
  checked_arms (more_arms at c ss arms) around place t = and_then (arm_of at c place (checked_statements ss around place t)) (λ a t1. and_then (checked_arms arms around place t1) (λ more t2. fine (a ∷ more) t2))

  pub checked_statements : Statements → Around → Place → Tables → Outcome TypedStatements
  checked_statements (in_order s ss) around place t =
      and_then (checked_statement s around place t) (λ x t1. and_then (checked_others ss around place t1) (λ xs t2. fine (record { first = x; others = xs }) t2))

  pub checked_others : MoreStatements → Around → Place → Tables → Outcome (List tree.Statement)
  checked_others no_statements around place t = fine [] t
  checked_others (more_statements s ss) around place t =
      and_then (checked_statement s around place t) (λ x t1. and_then (checked_others ss around place t1) (λ xs t2. fine (x ∷ xs) t2))

  -- RM 11.2
  pub checked_body : Body → Around → Place → Tables → Outcome TypedBody
  checked_body (body begin ss hs end name semicolon) around place t =
      and_then (checked_statements ss around place t) (λ x t1. after (all_choices_faults hs none_chosen place) (and_then (checked_handlers hs (handling around) place t1) (λ ys t2.
      fine (record { statements = sequence_of x; handlers = handlers_of ys }) t2)))

  pub checked_handlers : Handlers → Around → Place → Tables → Outcome (List TypedHandler)
  checked_handlers no_handlers around place t = fine [] t
  checked_handlers (more_handlers choices ss hs) around place t =
      and_then (handler_of choices place (checked_statements ss around place t)) (λ h t1. and_then (checked_handlers hs around place t1) (λ ys t2. fine (h ∷ ys) t2))

  -- RM 3.11
  pub checked_declarations : Declarations → Place → Tables → Outcome Declared
  checked_declarations no_declarations place t = fine (nothing_declared place) t
  checked_declarations (more_declarations d ds) place t =
      and_then (checked_declaration d place t) (λ x t1. and_then (checked_declarations ds x.place t1) (λ y t2. fine (joined_declared x y) t2))

  pub checked_declaration : Declaration → Place → Tables → Outcome Declared
  checked_declaration (object first others subtype initial) place t = leaving t (checked_objects (first ∷ others) first.at subtype initial false place)
  checked_declaration (constant first others subtype value) place t = leaving t (checked_objects (first ∷ others) first.at subtype (an_expression value) true place)
  checked_declaration (array first others low high subtype) place t = leaving t (checked_arrays (first ∷ others) first.at low high subtype place)
  checked_declaration (exception first others) place t = checked_exceptions (first ∷ others) place t
  checked_declaration (procedure at i fs ds b) place t =
      procedure_of i (body_formals fs place) (λ inner t1.
      unit_of false at i.name (end_name b) inner (next_region t1) (entered false b (λ further t2. checked_declarations ds further t2) (λ further t2. checked_body b nothing_around further t2) inner t1)) place (procedure_place i place t) t
  checked_declaration (task at is_type i d) place t = checked_task at is_type i d place t
  checked_declaration (task_body at i ds b) place t =
      task_body_of i (task_awaited i place) (λ inner t1.
      unit_of false at i.name (end_name b) inner (next_region t1) (entered true b (λ further t2. checked_declarations ds further t2) (λ further t2. checked_body b task_around further t2) inner t1)) (place_behind i place) t
  checked_declaration (protected at i operations hidden last) place t = checked_protected at i operations hidden last place t
  checked_declaration (protected_body at i bodies last) place t =
      object_body_of i (object_awaited i place) last (λ object t1.
      checked_bodies bodies (body_places i.name object (object_behind i place)) (awaited_parts object (innermost (object_behind i place)).parts) t1) (object_behind i place) t

  -- RM 9.4(7): those that wait for their bodies still
  pub checked_bodies : OperationBodies → BodyPlaces → List AwaitedPart → Tables → Outcome (List AwaitedPart)
  checked_bodies no_bodies o awaited t = fine awaited t
  checked_bodies (more_bodies x xs) o awaited t = and_then (checked_operation x o awaited t) (λ still t1. checked_bodies xs o still t1)

  -- RM 9.4(8)
  pub checked_operation : OperationBody → BodyPlaces → List AwaitedPart → Tables → Outcome (List AwaitedPart)
  checked_operation (entry_body at i fs barrier ds b) o awaited t =
      operation_of (of_entry barrier) i fs (λ inner t1.
      unit_of false at i.name (end_name b) inner (next_region t1) (entered false b (λ further t2. checked_declarations ds further t2) (λ further t2. checked_body b (operation_around (of_entry barrier) fs o.object o.inside) further t2) inner t1)) o awaited t
  checked_operation (procedure_body at i fs ds b) o awaited t =
      operation_of of_procedure i fs (λ inner t1.
      unit_of false at i.name (end_name b) inner (next_region t1) (entered false b (λ further t2. checked_declarations ds further t2) (λ further t2. checked_body b (operation_around of_procedure fs o.object o.inside) further t2) inner t1)) o awaited t
  checked_operation (function_body at i fs mark ds b) o awaited t =
      operation_of (of_function mark) i fs (λ inner t1.
      unit_of true at i.name (end_name b) inner (next_region t1) (entered false b (λ further t2. checked_declarations ds further t2) (λ further t2. checked_body b (operation_around (of_function mark) fs o.object o.in_function) further t2) inner t1)) o awaited t

-- The same of a loop behind the check of its label.

abbrev pub checked_loop : Option Ident → Pos → Iteration → Statements → Around → Place → Tables → Outcome tree.Statement
checked_loop label at i ss around place t = iterated (begin_at label at) at i (λ inner t1. checked_statements ss (labelled true label around) inner t1) place t

-- The same of a body by itself.

abbrev pub entered_body : Bool → Declarations → Body → Around → Place → Tables → Outcome tree.Body
entered_body of_task ds b around place t = entered of_task b (λ inner t1. checked_declarations ds inner t1) (λ inner t1. checked_body b around inner t1) place t

-- the statements behind declarations that have these elaborations
abbrev pub body_behind : Bool → List tree.Statement → Body → Around → Place → Tables → Outcome tree.Body
body_behind of_task elaborations b around place t =
    and_then (checked_body b around place t) (λ x t1. fine (body_with (with_activation of_task (begin_of b) elaborations) b x) t1)

abbrev pub around_unit : Bool → Around
around_unit true = task_around
around_unit false = nothing_around

abbrev pub checked_unit : Bool → Pos → List ℕ → Declarations → Body → Place → Tables → Outcome tree.UnitBody
checked_unit of_task at name ds b place t = unit_of false at name (end_name b) place (next_region t) (entered_body of_task ds b (around_unit of_task) place t)

-- and of the body of an operation or entry, at a place in its object's
abbrev pub checked_operation_unit : Head → Pos → Ident → List Formal → Declarations → Body → ℕ → Place → Place → Tables → Outcome tree.UnitBody
checked_operation_unit head at i fs ds b number here place t =
    unit_of (is_function_head head) at i.name (end_name b) place (next_region t) (entered_body false ds b (operation_around head fs number here) place t)

abbrev pub checked_operation_of : Head → Pos → Ident → List Formal → Declarations → Body → BodyPlaces → List AwaitedPart → Tables → Outcome (List AwaitedPart)
checked_operation_of head at i fs ds b o awaited t = operation_of head i fs (λ inner t1. checked_operation_unit head at i fs ds b o.object (operation_place head o) inner t1) o awaited t
