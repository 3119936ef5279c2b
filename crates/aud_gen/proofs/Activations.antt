-- In a program in memory, declarative parts alone activate tasks.
use Rattle.std.proofs.Common.{List, [], ◌∷◌, ◌++◌, map, Bool, true, false, refl}
use Rattle.aud_text.specs.declared.place.Pos.{Pos}
use Rattle.aud_typed.specs.declared.program.Statement.{Statement, Declare, DeclareArray, DeclareTasks, DeclareObject, Activated, Null, Assign, Put, If', While', Loop', For', Exit, Raise, RaiseAgain, Block', Return, ReturnValue, ProcedureCall, OwnEntryCall, OperationCall, EntryCall', Delay, Accept', Select', Abort, Requeue, Row_of-Statement, end_of-Statement, more_of-Statement}
use Rattle.aud_typed.specs.declared.program.IfStatement.{IfStatement, IfStatement', Row_of-Arm, end_of-Arm, more_of-Arm}
use Rattle.aud_typed.specs.declared.program.BlockStatement.{BlockStatement, BlockStatement'}
use Rattle.aud_typed.specs.declared.program.AcceptStatement.{AcceptStatement, AcceptStatement', Held-AcceptStatement-doing, None', Some'}
use Rattle.aud_typed.specs.declared.program.Doing.{Doing, Doing'}
use Rattle.aud_typed.specs.declared.program.SelectStatement.{Row_of-Alternative, end_of-Alternative, more_of-Alternative}
use Rattle.aud_typed.specs.declared.program.Alternative as alternative
use Rattle.aud_typed.specs.declared.program.Alternative.{Alternative}
use Rattle.aud_typed.specs.declared.program.Body.{Body, Body', Row_of-Handler, end_of-Handler, more_of-Handler}
use Rattle.aud_typed.specs.declared.program.Unit as declared
use Rattle.aud_typed.specs.declared.program.Program.{Program}
use Rattle.aud_typed.specs.Tree as tree
use Rattle.aud_typed.specs.Tree.{before, part_of, activation, Part}
use Rattle.aud_typed.specs.Ties.View.{plain_statement, plain_row, plain_if, plain_arms, plain_block, plain_accept, plain_held, plain_doing, plain_alternatives, plain_alternative, plain_handlers, plain_body, plain_unit, plain_program}
use Rattle.aud_layout.specs.Activations.{StatementActivates, PartActivates, HandlersActivate, BodyActivates, DoingActivates, OfferedActivates, BodiesActivate, ActivatesInParts}

-- Of a list.

abbrev ListActivates : Bool → List tree.Statement → Type 0
ListActivates declares [] = Unit {0}
ListActivates declares (s ∷ ss) = StatementActivates declares s × ListActivates declares ss

before_activates : (declares : Bool) (s : tree.Statement) (ss : List tree.Statement) → StatementActivates declares s → ListActivates declares ss → StatementActivates declares (before s ss)
before_activates declares s [] h k = h
before_activates declares s (t ∷ ts) h k = (h, before_activates declares t ts k.0 k.1)

part_activates : (declares : Bool) (ss : List tree.Statement) → ListActivates declares ss → PartActivates declares (part_of ss)
part_activates declares [] k = tt
part_activates declares (s ∷ ss) k = before_activates declares s ss k.0 k.1

-- the activation at a `begin` stands behind declarations
activation_behind : (ss : List tree.Statement) (activates : Bool) (begin : Pos) → ListActivates true ss → ListActivates true (ss ++ activation activates begin)
activation_behind [] true begin k = (refl, tt)
activation_behind [] false begin k = tt
activation_behind (s ∷ ss) activates begin k = (k.0, activation_behind ss activates begin k.1)

-- Of what is in memory.

mutual
  statement_activates : (declares : Bool) (s : Statement) → StatementActivates declares (plain_statement s)
  statement_activates declares (Declare at up_to e) = tt
  statement_activates declares (DeclareArray at t n) = tt
  statement_activates declares (DeclareTasks at ts) = tt
  statement_activates declares (DeclareObject at n es) = tt
  statement_activates declares (Activated at) = tt
  statement_activates declares (Null at) = tt
  statement_activates declares (Assign at r e) = tt
  statement_activates declares (Put at t) = tt
  statement_activates declares (If' _ s) = if_activates declares s
  statement_activates declares (While' at c _ _ first _ others) = before_activates false (plain_statement first) (plain_row others) (statement_activates false first) (row_activates false others)
  statement_activates declares (Loop' _ _ first _ others) = before_activates false (plain_statement first) (plain_row others) (statement_activates false first) (row_activates false others)
  statement_activates declares (For' _ at next_at region backward a b _ first _ others) = before_activates false (plain_statement first) (plain_row others) (statement_activates false first) (row_activates false others)
  statement_activates declares (Exit at n c) = tt
  statement_activates declares (Raise at x) = tt
  statement_activates declares (RaiseAgain at) = tt
  statement_activates declares (Block' _ b) = block_activates declares b
  statement_activates declares (Return at) = tt
  statement_activates declares (ReturnValue at e) = tt
  statement_activates declares (ProcedureCall at c) = tt
  statement_activates declares (OwnEntryCall at arguments form) = tt
  statement_activates declares (OperationCall at v c) = tt
  statement_activates declares (EntryCall' _ at callee entry arguments form _ after _ otherwise) = (part_activates false (plain_row after) (row_activates false after), part_activates false (plain_row otherwise) (row_activates false otherwise))
  statement_activates declares (Delay at e) = tt
  statement_activates declares (Abort at ts) = tt
  statement_activates declares (Requeue at r) = tt
  statement_activates declares (Accept' _ s) = accept_activates declares s
  statement_activates declares (Select' _ at _ alternatives _ otherwise) = (alternatives_activate alternatives, part_activates false (plain_row otherwise) (row_activates false otherwise))

  row_activates : (declares : Bool) {n : _} (row : Row_of-Statement n) → ListActivates declares (plain_row row)
  row_activates declares end_of-Statement = tt
  row_activates declares (more_of-Statement s rest) = (statement_activates declares s, row_activates declares rest)

  if_activates : (declares : Bool) (s : IfStatement) → StatementActivates declares (plain_if s)
  if_activates declares (IfStatement' at c _ first _ others _ arms _ otherwise) = (
    before_activates false (plain_statement first) (plain_row others) (statement_activates false first) (row_activates false others),
    arms_activate arms (part_of (plain_row otherwise)) (part_activates false (plain_row otherwise) (row_activates false otherwise)),
  )

  arms_activate : {n : _} (arms : Row_of-Arm n) (otherwise : Part) → PartActivates false otherwise → PartActivates false (plain_arms arms otherwise)
  arms_activate end_of-Arm otherwise k = k
  arms_activate (more_of-Arm at c _ first _ others rest) otherwise k = (
    before_activates false (plain_statement first) (plain_row others) (statement_activates false first) (row_activates false others),
    arms_activate rest otherwise k,
  )

  block_activates : (declares : Bool) (s : BlockStatement) → StatementActivates declares (plain_block s)
  block_activates declares (BlockStatement' at region b) = body_activates b

  accept_activates : (declares : Bool) (s : AcceptStatement) → StatementActivates declares (plain_accept s)
  accept_activates declares (AcceptStatement' at entry doing) = held_activates doing

  held_activates : (doing : Held-AcceptStatement-doing) → DoingActivates (plain_held doing)
  held_activates None' = tt
  held_activates (Some' d) = doing_activates d

  doing_activates : (d : Doing) → DoingActivates (plain_doing d)
  doing_activates (Doing' region b) = body_activates b

  alternatives_activate : {n : _} (row : Row_of-Alternative n) → OfferedActivates (plain_alternatives row)
  alternatives_activate end_of-Alternative = tt
  alternatives_activate (more_of-Alternative a rest) = alternative_activates a (plain_alternatives rest) (alternatives_activate rest)

  alternative_activates : (a : Alternative) (rest : tree.Alternatives) → OfferedActivates rest → OfferedActivates (plain_alternative a rest)
  alternative_activates (alternative.Accept' guard (AcceptStatement' at entry doing) _ after) rest k = (held_activates doing, (part_activates false (plain_row after) (row_activates false after), k))
  alternative_activates (alternative.Delay' guard e _ after) rest k = (part_activates false (plain_row after) (row_activates false after), k)
  alternative_activates (alternative.Terminate guard) rest k = k

  handlers_activate : {n : _} (row : Row_of-Handler n) → HandlersActivate (plain_handlers row)
  handlers_activate end_of-Handler = tt
  handlers_activate (more_of-Handler others choices _ first _ more rest) = (
    before_activates false (plain_statement first) (plain_row more) (statement_activates false first) (row_activates false more),
    handlers_activate rest,
  )

  body_activates : (b : Body) → BodyActivates (plain_body b)
  body_activates (Body' _ declarations begin activates _ first _ others _ handlers end) = (
    part_activates true (plain_row declarations ++ activation activates begin) (activation_behind (plain_row declarations) activates begin (row_activates true declarations)),
    (
      before_activates false (plain_statement first) (plain_row others) (statement_activates false first) (row_activates false others),
      handlers_activate handlers,
    ),
  )

units_activate : (units : List declared.Unit) → BodiesActivate (map (λ (u : tree.UnitBody). u.body) (map plain_unit units))
units_activate [] = tt
units_activate (u ∷ us) = (body_activates u.body, units_activate us)

pub program_activates : (p : Program) → ActivatesInParts (plain_program p)
program_activates p = units_activate p.units.items
