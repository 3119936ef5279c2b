-- What is written of the statements and bodies of a program in memory.
use Rattle.std.specs.Prelude.{◌≡◌, ℕ, suc, ◌+◌, ◌-◌, ◌^◌, min, List, [], ◌∷◌, ◌++◌, length, map, Option, None, Some, Bool, true, false, if◌then◌else◌}
use Rattle.aud_text.specs.declared.place.Pos.{Pos}
use Rattle.aud_typed.specs.Tree as tree
use Rattle.aud_typed.specs.Tree.{For, part_of, nothing, some, body, if_then, while_loop, for_loop}
use Rattle.aud_typed.specs.declared.program.Connective.{Connective}
use Rattle.aud_typed.specs.declared.program.Connective.TheVariants.{Logical, AndThen, OrElse}
use Rattle.aud_typed.specs.declared.program.Statement as memory
use Rattle.aud_typed.specs.declared.program.Arm.{Arm}
use Rattle.aud_typed.specs.declared.program.ForStatement.{ForStatement, out-ForStatement}
use Rattle.aud_typed.specs.declared.program.EntryCallStatement.{EntryCallStatement, out-EntryCallStatement}
use Rattle.aud_typed.specs.declared.program.AcceptStatement.{AcceptStatement, out-AcceptStatement}
use Rattle.aud_typed.specs.declared.program.SelectStatement.{SelectStatement, out-SelectStatement}
use Rattle.aud_typed.specs.declared.program.Alternative.{Alternative}
use Rattle.aud_typed.specs.declared.program.Unit as declared
use Rattle.aud_typed.specs.declared.program.Entry.{Entry}
use Rattle.aud_typed.specs.declared.program.EntryBody.{EntryBody}
use Rattle.aud_typed.specs.Ties.View.{plain_integer, plain_boolean, plain_statements, statements_in, body_in, plain_entry, plain_alternative, alternatives_in, doing_in, entry_call_in, accept_in, select_in}
use Rattle.aud_meaning.specs.declared.state.Construct.{Construct}
use Rattle.aud_meaning.specs.Items.{no_body}
use Rattle.aud_code.specs.Places.{Way}
use Rattle.aud_code.specs.Instruction.{Instruction, Combine, Component, Mark, Name, PassIfFalse, PassIfTrue}
use Rattle.aud_code.specs.Flat as flat
use Rattle.aud_code.specs.Flat.{FlatLine, Flat}
use Rattle.aud_code.specs.View.{plain_end}
use Rattle.aud_code.specs.declared.line.Last.{Last}
use Rattle.aud_code.specs.declared.line.Offer.{Offer}
use Rattle.aud_layout.specs.Instructions.{integer_code, condition_code, task_code, value_code, guards_code, delays_code}
use Rattle.aud_layout.specs.Layout.{Around, ways_count, around_out, in_call, continues, line, end_line, doing_place, part_place, stubs, guard_line_by, statement_size_by, part_size_by, offered_size_by, parts_from_by, bodies_from_by, statement_code_by, part_code_by, doing_code_by, offered_code_by, handlers_code_by, unit_code_by}
use Rattle.aud_layout.specs.Assembly.{within_moved, step_lines}
use Rattle.aud_layout.specs.Written.{flat_step, written, written_bodies}

-- Lengths.

-- a length as it is counted, which stops at the largest number
abbrev pub counted : ℕ → ℕ
counted n = min n (2 ^ 64 - 1)

-- the condition of an arm, its step, its statements
abbrev pub arm_length : Arm → ℕ → ℕ
arm_length arm ways = suc (statement_size_by flat_step (statements_in arm.statements) ways + length (condition_code (plain_boolean arm.condition)))

-- an alternative by itself
abbrev pub alone : Alternative → tree.Alternatives
alone a = plain_alternative a tree.no_alternatives

-- what its accept does, and what stands behind that
abbrev pub alternative_size : Alternative → ℕ → ℕ
alternative_size a ways = offered_size_by flat_step (alone a) ways

-- Lines.

-- the ending of a step, as the layout's stand in code
abbrev pub ended : Last → Pos → ℕ → Option ℕ → List FlatLine
ended last at out within = flat.end (plain_end (record { last = last; at = at; out = out; within = within_moved (λ n. n) within })) ∷ []

-- what is written: whether memory was refused, and the lines
pub record Code : Type 0 where
  pub refused : Bool
  pub lines : List FlatLine

-- unless memory is refused by now, it was not before, and these lines are written behind those that were there
pub record Writes (old new : Code) (lines : List FlatLine) : Type 0 where
  pub unless_refused : new.refused ≡ false → (old.refused ≡ false) × (new.lines ≡ old.lines ++ lines)

-- the same of these instructions
pub record Instructs (old new : Code) (is : List Instruction) : Type 0 where
  pub writes : Writes old new (map flat.instructs is)

-- lines by the place of the first and what surrounds them
abbrev pub WritesInside : (old new : Code) → Around → (ℕ → Around → List FlatLine) → Type 0
WritesInside old new a lines = Writes old new (lines (length old.lines) a)

-- no line is written; unless memory is refused by now, it was not before, and this is so
pub record Finds (old new : Code) (it : Type 0) : Type 0 where
  pub same : new.lines ≡ old.lines
  pub unless_refused : new.refused ≡ false → (old.refused ≡ false) × it

-- the right side of an operator, and the operator
abbrev pub right_code : Connective → tree.BooleanExpression → List Instruction
right_code (Logical operator) y = condition_code y ++ Combine operator ∷ []
right_code AndThen y = PassIfFalse (length (condition_code y)) ∷ condition_code y
right_code OrElse y = PassIfTrue (length (condition_code y)) ∷ condition_code y

-- a statement, and a part, from a place on, before the place next
abbrev pub statement_lines : tree.Statement → (place next : ℕ) → Around → List FlatLine
statement_lines s place next around = written (statement_code_by flat_step s place next around)

abbrev pub part_lines : tree.Part → (place next : ℕ) → Around → List FlatLine
part_lines p place next around = written (part_code_by flat_step p place next around)

-- whether there are statements
abbrev pub has_statements : tree.Part → Bool
has_statements nothing = false
has_statements (some s) = true

-- a statement of a list: the last one leads to the place next, another one to what stands behind it
abbrev pub listed_lines : tree.Statement → Bool → (place next : ℕ) → Around → List FlatLine
listed_lines s is_last place next around = statement_lines s place (if is_last then next else place + statement_size_by flat_step s (ways_count around)) around

-- a statement that holds no others
abbrev pub IsAlone : memory.Statement → Type 0
IsAlone (memory.Declare at up_to e) = Unit {0}
IsAlone (memory.DeclareArray at t n) = Unit {0}
IsAlone (memory.DeclareTasks at ts) = Unit {0}
IsAlone (memory.DeclareObject at n es) = Unit {0}
IsAlone (memory.Activated at) = Unit {0}
IsAlone (memory.Null at) = Unit {0}
IsAlone (memory.Assign at r e) = Unit {0}
IsAlone (memory.Put at t) = Unit {0}
IsAlone (memory.Exit at n c) = Unit {0}
IsAlone (memory.Raise at x) = Unit {0}
IsAlone (memory.RaiseAgain at) = Unit {0}
IsAlone (memory.Return at) = Unit {0}
IsAlone (memory.ReturnValue at e) = Unit {0}
IsAlone (memory.ProcedureCall at c) = Unit {0}
IsAlone (memory.OwnEntryCall at arguments form) = Unit {0}
IsAlone (memory.OperationCall at v c) = Unit {0}
IsAlone (memory.Delay at e) = Unit {0}
IsAlone (memory.Abort at ts) = Unit {0}
IsAlone (memory.Requeue at r) = Unit {0}
IsAlone s = ⊥

-- an arm, which leads behind itself where there is more
abbrev pub arm_lines : Arm → Bool → (place next : ℕ) → Around → List FlatLine
arm_lines arm more place next around =
    let ss = statements_in arm.statements in
    let step = if_then arm.at (plain_boolean arm.condition) ss nothing in
    let inside = flat_step step place in
    let behind = inside + statement_size_by flat_step ss (ways_count around) in
    step_lines (λ n. n) (line step ((if more then behind else next) ∷ inside ∷ []) [] None around) ++ statement_lines ss inside next around

-- its step
abbrev pub arm_step : Arm → Bool → (place next : ℕ) → Around → List FlatLine
arm_step arm more place next around =
    let ss = statements_in arm.statements in
    let step = if_then arm.at (plain_boolean arm.condition) ss nothing in
    let inside = flat_step step place in
    let behind = inside + statement_size_by flat_step ss (ways_count around) in
    step_lines (λ n. n) (line step ((if more then behind else next) ∷ inside ∷ []) [] None around)

-- the step of a `while`; its statements stand behind it
abbrev pub while_lines : Pos → tree.BooleanExpression → (place next out : ℕ) → Option ℕ → List FlatLine
while_lines at c place next out within =
    let step = while_loop at c (tree.null at) in
    step_lines (λ n. n) (line step (next ∷ flat_step step place ∷ []) [] None (in_call within out))

-- how many instructions the bounds of a `for` take
abbrev pub bounds : ForStatement → ℕ
bounds s = length (integer_code (plain_integer (out-ForStatement s).first)) + length (integer_code (plain_integer (out-ForStatement s).last))

-- the two steps of a `for`, the first one at a place, the second one at the place again, behind which its statements stand
abbrev pub for_lines : ForStatement → (place again next out : ℕ) → Option ℕ → List FlatLine
for_lines s place again next out within =
    let o = out-ForStatement s in
    let f : For = record { at = o.at; next_at = o.next_at; region = o.region; backward = o.backward } in
    written (line (for_loop f (plain_integer o.first) (plain_integer o.last) (tree.null o.at)) (next ∷ suc again ∷ []) [] None (in_call within out) ∷ record { what = continues f; at = f.next_at; out = out; within = Some place; ways = next ∷ suc again ∷ []; bodies = []; exit = None } ∷ [])

-- the step of an entry call, which leads to two places
abbrev pub call_lines : EntryCallStatement → (next otherwise out : ℕ) → Option ℕ → List FlatLine
call_lines s next otherwise out within = written (line (entry_call_in s) (next ∷ otherwise ∷ []) [] None (in_call within out) ∷ [])

-- that step at a place, behind which stands what follows the call, and then what is done where it is left
abbrev pub call_step : EntryCallStatement → (place next : ℕ) → Around → List FlatLine
call_step s place next a =
    let o = out-EntryCallStatement s in
    let p = part_of (plain_statements o.after.items) in
    let inside = flat_step (entry_call_in s) place in
    let second = inside + part_size_by flat_step p (ways_count a) in
    call_lines s (part_place p inside next) (part_place (part_of (plain_statements o.otherwise.items)) second next) a.out a.within

-- the step of an accept, which leads to what it does
abbrev pub accept_lines : AcceptStatement → (start next out : ℕ) → Option ℕ → List FlatLine
accept_lines s start next out within = written (line (accept_in s) (next ∷ []) (start ∷ []) None (in_call within out) ∷ [])

-- that step at a place, behind which stands what the accept does
abbrev pub accept_step : AcceptStatement → (place next out : ℕ) → Option ℕ → List FlatLine
accept_step s place next out within = accept_lines s (doing_place (doing_in (out-AcceptStatement s).doing) (place + 1) next) next out within

-- whose entry is called
abbrev pub callee_code : tree.Callee → List Instruction
callee_code (tree.of_task t) = task_code t ++ (Name ∷ Mark ∷ [])
callee_code (tree.of_object v) = []

-- one task that is named
abbrev pub name_code : tree.TaskName → List Instruction
name_code t = task_code t ++ Name ∷ []

-- one component of an object that is declared
abbrev pub component_code : tree.ValueExpression → List Instruction
component_code e = value_code e ++ Component ∷ []

-- the instructions of a selective accept; its step, which stands at a place
abbrev pub choice_code : tree.Alternatives → List Instruction
choice_code offered = guards_code 1 offered ++ (Mark ∷ delays_code 1 offered)

abbrev pub select_lines : SelectStatement → (own otherwise : ℕ) → (ways bodies : List ℕ) → (out : ℕ) → Option ℕ → List FlatLine
select_lines s own otherwise ways bodies out within = written (line (select_in s) (otherwise ∷ ways) (own ∷ bodies) None (in_call within out) ∷ [])

-- behind it stands what lies in the alternatives, and then the else part
abbrev pub select_step : SelectStatement → (place next : ℕ) → Around → List FlatLine
select_step s place next a =
    let o = out-SelectStatement s in
    let offered = alternatives_in o.alternatives.items in
    let inside = flat_step (select_in s) place in
    let second = inside + offered_size_by flat_step offered (ways_count a) in
    select_lines s place (part_place (part_of (plain_statements o.otherwise.items)) second next) (parts_from_by flat_step offered inside next (ways_count a)) (bodies_from_by flat_step offered inside next (ways_count a)) a.out a.within

-- where an alternative leads in which lies what stands from a place on, whatever leads out
abbrev pub IsOffer : Offer → Alternative → (place next : ℕ) → Type 0
IsOffer o a place next = (ways : ℕ) → (parts_from_by flat_step (alone a) place next ways ≡ o.behind ∷ []) × (bodies_from_by flat_step (alone a) place next ways ≡ o.body ∷ [])

-- what an accept does whose step stands at the place opener; what lies in alternatives
abbrev pub doing_lines : tree.Doing → (opener place next out : ℕ) → List FlatLine
doing_lines d opener place next out = written (doing_code_by flat_step d opener place next out)

abbrev pub offered_lines : tree.Alternatives → (opener place next : ℕ) → Around → List FlatLine
offered_lines offered opener place next a = written (offered_code_by flat_step offered opener place next a)

-- lines by which a block is left on these ways, the first of them at a place
abbrev pub stub_lines : List Way → Pos → Option ℕ → ℕ → List FlatLine
stub_lines ws end within place = written (stubs ws end within place)

-- the line at the place guard, which guards statements by the handlers that stand behind it
abbrev pub guard_lines : tree.Handlers → Pos → (guard last ways : ℕ) → Option ℕ → List FlatLine
guard_lines h end guard last ways within = written (guard_line_by flat_step h end (suc guard) last ways within ∷ [])

abbrev pub handlers_lines : tree.Handlers → (place last : ℕ) → Around → List FlatLine
handlers_lines h place last a = written (handlers_code_by flat_step h place last a)

-- a body with its end at the place last
abbrev pub body_lines : Construct → tree.Body → (last place next out : ℕ) → Around → List FlatLine
body_lines c (body d begin s h end) last place next out a =
    let first = place + part_size_by flat_step d (ways_count a) in
    let guard = first + statement_size_by flat_step s (ways_count a) in
    part_lines d place first (around_out last a)
    ++ (statement_lines s first last (around_out guard a)
    ++ (guard_lines h end guard last (ways_count a) a.within ++ (handlers_lines h (suc guard) last (around_out last a) ++ written (end_line c end next out a.within ∷ []))))

abbrev pub unit_lines : tree.Body → ℕ → List FlatLine
unit_lines b place = written (unit_code_by flat_step b place)

abbrev pub bodies_in : List declared.Unit → List tree.Body
bodies_in units = map (λ (u : declared.Unit). body_in u.body) units

-- the barriers of entries; a task's has none, and is open
abbrev pub barrier_in : Option EntryBody → tree.BooleanExpression
barrier_in None = tree.truth true
barrier_in (Some b) = plain_boolean b.barrier

abbrev pub barriers_in : List Entry → List tree.BooleanExpression
barriers_in entries = map (λ (e : tree.EntryBody). e.barrier) (map plain_entry entries)

abbrev pub units_code : List declared.Unit → List Entry → Flat
units_code units entries = written_bodies (bodies_in units) (barriers_in entries)

-- of a body that no program has
abbrev pub idle_lines : ℕ → List FlatLine
idle_lines place = unit_lines no_body place
