-- Each variable that is read or assigned has been elaborated (RM 3.3.1, 8.3), and each number names an item: a table, exception, unit, type
-- of tasks, object or entry that is there, or a loop around the exit that leaves it. Accepts and calls of tasks name entries of tasks, and
-- calls of objects entries of objects; each entry stands once, with one type of tasks or one object. A call of an entry has as many
-- arguments as each accept and the body of that have formals, and a call of an object names a cell of the frame that is innermost around
-- the object's. That no statement declares tasks is said beside it (`DeclaresInParts`). It is not said that a type of which no task is
-- created has its body, that a call that is made again has as many arguments as the entry has formals, nor that the object in the cell of
-- a call is of the declaration that has the operation or entry.
use Rattle.std.specs.Prelude.{◌≡◌, ◌⊎◌, ℕ, suc, ◌+◌, ◌-◌, max, ◌<◌, ◌≤◌, List, [], ◌∷◌, ◌++◌, length, slice_index_or, Option, None, Some, nat_eq, Bool, true, false, ◌||◌}
use Rattle.std.specs.List.{AllByRecursion}
use Rattle.aud_typed.specs.declared.program.Variable.{Variable}
use Rattle.aud_typed.specs.declared.program.ArrayAt.{ArrayAt}
use Rattle.aud_typed.specs.declared.program.Exception.{Exception}
use Rattle.aud_typed.specs.declared.program.Exception.TheVariants.{Predefined, Declared}
use Rattle.aud_typed.specs.Tree.{Argument, by_value, by_copy, Calling, UnitPlan, TaskPlan, ObjectPlan, EntryPlan, IntegerExpression, number, variable, element, unary, binary, count, TaskName, single, indexed, DelayExpression, milliseconds, seconds, CallForm, plainly, conditionally, timed, Callee, of_task, of_object, EntryCall, BooleanExpression, truth, stored, negation, relation, comparison, logical, and_then, or_else, callable, terminated, ValueExpression, whole, boolean, Reference, scalar, component, TextExpression, literal, image, image_truth, join, new_line, Tasks, Statement, sequence, declare, declare_array, declare_tasks, declare_object, activated, activate, null, assign, put, if_then, plain_loop, while_loop, for_loop, exit, return, return_value, raising, raising_again, block, procedure_call, own_entry_call, operation_call, entry_call, delay, accept, select, abort, requeue, Requeue, Doing, without_do, with_do, Alternatives, no_alternatives, accepting, delaying, terminating, Part, nothing, some, Handlers, no_handlers, handler, Body, body, Shown, as_whole, as_truth, as_wholes, as_truths, hidden, Named, Plan, Program}
use Rattle.aud_typed.specs.Why.Numbers.{UnitsNumbers}

-- how many names of an open frame are elaborated, and how many cells they have
pub record Elaborated : Type 0 where
  pub names : ℕ
  pub cells : ℕ

-- of each open frame, outermost first
abbrev pub Scope : Type 0
Scope = List Elaborated

abbrev pub none_yet : Elaborated
none_yet = record { names = 0; cells = 0 }

-- no frame is open at a level past the scope's end
abbrev pub cells_at : ℕ → Scope → ℕ
cells_at level scope = (slice_index_or scope level none_yet).cells

-- the variable has been elaborated
abbrev pub IsElaborated : Variable → Scope → Type 0
IsElaborated v scope = v.index < cells_at v.level scope

-- the array has been elaborated
abbrev pub AreElaborated : ArrayAt → Scope → Type 0
AreElaborated a scope = a.first.index + a.length ≤ cells_at a.first.level scope

module _ (plan : Plan) where
  abbrev pub IntegerScoped : IntegerExpression → Scope → Type 0
  IntegerScoped (number value) scope = Unit {0}
  IntegerScoped (variable v) scope = IsElaborated v scope
  IntegerScoped (element a index) scope = AreElaborated a scope × IntegerScoped index scope
  IntegerScoped (unary operator x) scope = IntegerScoped x scope
  IntegerScoped (binary operator x y) scope = IntegerScoped x scope × IntegerScoped y scope
  -- of an entry that is there
  IntegerScoped (count v entry) scope = IsElaborated v scope × (entry < length plan.entries)

  abbrev pub ReferenceScoped : Reference → Scope → Type 0
  ReferenceScoped (scalar v subtype) scope = IsElaborated v scope
  ReferenceScoped (component a index subtype) scope = AreElaborated a scope × IntegerScoped index scope

  abbrev pub TaskScoped : TaskName → Scope → Type 0
  TaskScoped (single v) scope = IsElaborated v scope
  TaskScoped (indexed a index) scope = AreElaborated a scope × IntegerScoped index scope

  abbrev pub BooleanScoped : BooleanExpression → Scope → Type 0
  BooleanScoped (truth b) scope = Unit {0}
  BooleanScoped (stored r) scope = ReferenceScoped r scope
  BooleanScoped (negation x) scope = BooleanScoped x scope
  BooleanScoped (relation operator x y) scope = IntegerScoped x scope × IntegerScoped y scope
  BooleanScoped (comparison operator x y) scope = BooleanScoped x scope × BooleanScoped y scope
  BooleanScoped (logical operator x y) scope = BooleanScoped x scope × BooleanScoped y scope
  BooleanScoped (and_then x y) scope = BooleanScoped x scope × BooleanScoped y scope
  BooleanScoped (or_else x y) scope = BooleanScoped x scope × BooleanScoped y scope
  BooleanScoped (callable t) scope = TaskScoped t scope
  BooleanScoped (terminated t) scope = TaskScoped t scope

  abbrev pub ValueScoped : ValueExpression → Scope → Type 0
  ValueScoped (whole subtype x) scope = IntegerScoped x scope
  ValueScoped (boolean x) scope = BooleanScoped x scope

  abbrev pub ArgumentScoped : Argument → Scope → Type 0
  ArgumentScoped (by_value e) scope = ValueScoped e scope
  ArgumentScoped (by_copy is_in formal r) scope = ReferenceScoped r scope

  abbrev pub ArgumentsScoped : List Argument → Scope → Type 0
  ArgumentsScoped [] scope = Unit {0}
  ArgumentsScoped (x ∷ xs) scope = ArgumentScoped x scope × ArgumentsScoped xs scope

  abbrev pub DelayScoped : DelayExpression → Scope → Type 0
  DelayScoped (milliseconds n) scope = Unit {0}
  DelayScoped (seconds e) scope = IntegerScoped e scope

  abbrev pub FormScoped : CallForm → Scope → Type 0
  FormScoped plainly scope = Unit {0}
  FormScoped conditionally scope = Unit {0}
  FormScoped (timed e) scope = DelayScoped e scope

  abbrev pub CalleeScoped : Callee → Scope → Type 0
  CalleeScoped (of_task t) scope = TaskScoped t scope
  CalleeScoped (of_object v) scope = IsElaborated v scope

  -- what the value of a function is assigned to
  abbrev pub IntoScoped : Option Reference → Scope → Type 0
  IntoScoped None scope = Unit {0}
  IntoScoped (Some r) scope = ReferenceScoped r scope

  abbrev pub TextScoped : TextExpression → Scope → Type 0
  TextScoped (literal text) scope = Unit {0}
  TextScoped (image e) scope = IntegerScoped e scope
  TextScoped (image_truth e) scope = BooleanScoped e scope
  TextScoped (join x y) scope = TextScoped x scope × TextScoped y scope
  TextScoped new_line scope = Unit {0}

  abbrev pub AllTasksScoped : List TaskName → Scope → Type 0
  AllTasksScoped [] scope = Unit {0}
  AllTasksScoped (t ∷ ts) scope = TaskScoped t scope × AllTasksScoped ts scope

-- in the innermost frame
abbrev pub in_innermost : (Elaborated → Elaborated) → Scope → Scope
in_innermost f [] = []
in_innermost f (e ∷ []) = f e ∷ []
in_innermost f (e ∷ es) = e ∷ in_innermost f es

-- more names, of a cell each, until there are this number of them; one at least
abbrev pub declared_up_to : ℕ → Elaborated → Elaborated
declared_up_to up_to e =
    let names = max (suc e.names) up_to in
    record { names = names; cells = e.cells + (names - e.names) }

-- one name more, of these cells
abbrev pub declared_with : ℕ → Elaborated → Elaborated
declared_with cells e = record { names = suc e.names; cells = e.cells + cells }

abbrev pub scope_after : Statement → Scope → Scope
scope_after (sequence a b) scope = scope_after b (scope_after a scope)
scope_after (declare at up_to e) scope = in_innermost (declared_up_to up_to) scope
scope_after (declare_array at t n) scope = in_innermost (declared_with n) scope
scope_after (declare_tasks at ts) scope = in_innermost (declared_with ts.length) scope
scope_after (declare_object at n es) scope = in_innermost (declared_with 1) scope
scope_after _ scope = scope

abbrev pub scope_behind : Part → Scope → Scope
scope_behind nothing scope = scope
scope_behind (some s) scope = scope_after s scope

abbrev pub shown_cells : Shown → ℕ
shown_cells as_whole = 1
shown_cells as_truth = 1
shown_cells (as_wholes n) = n
shown_cells (as_truths n) = n
shown_cells (hidden n) = n

abbrev pub cells_of : List Named → ℕ
cells_of [] = 0
cells_of (n ∷ ns) = shown_cells n.shown + cells_of ns

-- all of a table's variables
abbrev pub all_of_table : List Named → Elaborated
all_of_table ns = record { names = length ns; cells = cells_of ns }

-- How units are entered.

-- with how many formals, and what is elaborated by then in the frames that it sees
pub record Entry : Type 0 where
  pub formals : ℕ
  pub outer : Scope

abbrev pub no_entry : Entry
no_entry = record { formals = 0; outer = [] }

abbrev pub entry_of : List Entry → ℕ → Entry
entry_of entries n = slice_index_or entries n no_entry

-- formals are elaborated when their unit is entered, each with one cell (RM 6.4.1)
abbrev pub all_formals : ℕ → Elaborated
all_formals n = record { names = n; cells = n }

-- these frames are open, with as many cells as are elaborated in them
abbrev pub AreOpen : Scope → Scope → Type 0
AreOpen [] scope = Unit {0}
AreOpen (e ∷ es) [] = ⊥
AreOpen (e ∷ es) (x ∷ xs) = (e.cells ≤ x.cells) × AreOpen es xs

-- they are open but the innermost of them, which is that of a protected object
abbrev pub AreAround : Scope → Scope → Type 0
AreAround [] scope = ⊥
AreAround (own ∷ []) scope = Unit {0}
AreAround (e ∷ x ∷ es) [] = ⊥
AreAround (e ∷ x ∷ es) (y ∷ ys) = (e.cells ≤ y.cells) × AreAround (x ∷ es) ys

-- the frame of an object begins with its own number
abbrev pub own_number : Elaborated
own_number = record { names = 1; cells = 1 }

-- the initial values of its components, each of which is seen by the later ones (RM 9.4)
abbrev pub ComponentsScoped : Plan → List ValueExpression → Elaborated → Scope → Type 0
ComponentsScoped plan [] own scope = Unit {0}
ComponentsScoped plan (e ∷ es) own scope = ValueScoped plan e (scope ++ own ∷ []) × ComponentsScoped plan es (declared_with 1 own) scope

module _ (plan : Plan) where
  abbrev pub table : ℕ → List Named
  table n = slice_index_or plan.regions n []

  abbrev pub IsThere : Exception → Type 0
  IsThere (Predefined raise) = Unit {0}
  IsThere (Declared n) = n < length plan.exceptions

  abbrev pub AllThere : List Exception → Type 0
  AllThere [] = Unit {0}
  AllThere (x ∷ xs) = IsThere x × AllThere xs

-- an entry
abbrev pub no_entry_plan : EntryPlan
no_entry_plan = record { name = []; formals = 0; unit = 0 }

-- how many formals it has
abbrev pub formals_of : Plan → ℕ → ℕ
formals_of plan n = (slice_index_or plan.entries n no_entry_plan).formals

-- the body of a protected one
abbrev pub entry_unit : Plan → ℕ → ℕ
entry_unit plan n = (slice_index_or plan.entries n no_entry_plan).unit

-- unit 0 is the main procedure's, so it is the body of no entry
abbrev pub IsTaskEntry : Plan → ℕ → Type 0
IsTaskEntry plan n = (n < length plan.entries) × (entry_unit plan n ≡ 0)

abbrev pub IsObjectEntry : Plan → ℕ → Type 0
IsObjectEntry plan n = (n < length plan.entries) × (1 ≤ entry_unit plan n) × (entry_unit plan n < length plan.units)

-- the body of a type of tasks
abbrev pub no_task : TaskPlan
no_task = record { unit = 0; entries = [] }

-- an object
abbrev pub no_object : ObjectPlan
no_object = record { name = []; level = 0; components = []; entries = [] }

-- how many frames are open around its own
abbrev pub object_level : Plan → ℕ → ℕ
object_level plan n = (slice_index_or plan.objects n no_object).level

-- Where the body of an operation or entry sees these frames, the innermost is its object's. From outside the object is named by a cell of
-- the next one; within its body it is named by the first cell of its own frame.
abbrev pub NamedOutside : Variable → Scope → Type 0
NamedOutside v outer = length outer ≡ v.level + 2

abbrev pub NamedInside : Variable → Scope → Type 0
NamedInside v outer = (v.index ≡ 0) × (length outer ≡ v.level + 1)

abbrev pub task_of : Plan → Tasks → TaskPlan
task_of plan ts = slice_index_or plan.tasks ts.task_type no_task

module _ (plan : Plan) (entries : List Entry) where
  -- a procedure's call: of a unit that is there, with as many arguments as it has formals, where the frames that it sees are open
  abbrev pub CallScoped : Calling → Scope → Type 0
  CallScoped c scope =
      (c.unit < length entries)
      × (length c.arguments ≡ (entry_of entries c.unit).formals)
      × AreOpen (entry_of entries c.unit).outer scope
      × ArgumentsScoped plan c.arguments scope
      × IntoScoped plan c.into scope

  -- an operation's call from outside its object, whose number is in the cell: of a unit that is there, with as many arguments as it has
  -- formals, where the frames are open that are around the object's, of which the innermost has the cell
  abbrev pub OperationScoped : Variable → Calling → Scope → Type 0
  OperationScoped v c scope =
      (c.unit < length entries)
      × (length c.arguments ≡ (entry_of entries c.unit).formals)
      × AreAround (entry_of entries c.unit).outer scope
      × NamedOutside v (entry_of entries c.unit).outer
      × ArgumentsScoped plan c.arguments scope
      × IntoScoped plan c.into scope

  -- a task's entry has no body; that of a protected one is there, where the frames are open that are around its object's
  abbrev pub BodyAround : Callee → ℕ → Scope → Type 0
  BodyAround (of_task t) entry scope = entry_unit plan entry ≡ 0
  BodyAround (of_object v) entry scope = (entry_unit plan entry < length entries) × AreAround (entry_of entries (entry_unit plan entry)).outer scope

  -- an entry is called from outside its object; a requeue to it may stand within the object's body too
  abbrev pub CalledOutside : Callee → ℕ → Type 0
  CalledOutside (of_task t) entry = Unit {0}
  CalledOutside (of_object v) entry = NamedOutside v (entry_of entries (entry_unit plan entry)).outer

  abbrev pub CalledAgain : Callee → ℕ → Type 0
  CalledAgain (of_task t) entry = Unit {0}
  CalledAgain (of_object v) entry = NamedOutside v (entry_of entries (entry_unit plan entry)).outer ⊎ NamedInside v (entry_of entries (entry_unit plan entry)).outer

  -- tasks of a type that is there, and whose body is, where the frames that it sees are open: its own number is all that is elaborated
  -- in its own frame when it begins
  abbrev pub TasksScoped : Tasks → Scope → Type 0
  TasksScoped ts scope =
      (ts.task_type < length plan.tasks)
      × ((task_of plan ts).unit < length entries)
      × ((entry_of entries (task_of plan ts).unit).formals ≡ 1)
      × AreOpen (entry_of entries (task_of plan ts).unit).outer scope

  -- the tasks that declarations create begin behind all of them (RM 9.2(3))
  abbrev pub CreatedScoped : Statement → Scope → Type 0
  CreatedScoped (sequence a b) scope = CreatedScoped a scope × CreatedScoped b scope
  CreatedScoped (declare_tasks at ts) scope = TasksScoped ts scope
  CreatedScoped _ scope = Unit {0}

  abbrev pub AllCreatedScoped : Part → Scope → Type 0
  AllCreatedScoped nothing scope = Unit {0}
  AllCreatedScoped (some s) scope = CreatedScoped s scope

  -- the entries of an object that is declared see its own frame, and those that are open around that
  abbrev pub EntriesLevel : ℕ → Scope → Type 0
  EntriesLevel n scope = AllByRecursion (λ k. length (entry_of entries (entry_unit plan k)).outer ≡ suc (length scope)) (slice_index_or plan.objects n no_object).entries

  -- of an entry that is there, with as many arguments as it has formals
  abbrev pub EntryCallScoped : EntryCall → Scope → Type 0
  EntryCallScoped c scope =
      (c.entry < length plan.entries)
      × (length c.arguments ≡ formals_of plan c.entry)
      × CalleeScoped plan c.callee scope
      × ArgumentsScoped plan c.arguments scope
      × FormScoped plan c.form scope
      × BodyAround c.callee c.entry scope
      × CalledOutside c.callee c.entry

  -- to an entry that is there
  abbrev pub RequeueScoped : Requeue → Scope → Type 0
  RequeueScoped r scope = (r.entry < length plan.entries) × CalleeScoped plan r.callee scope × BodyAround r.callee r.entry scope × CalledAgain r.callee r.entry

  abbrev mutual
    pub StatementScoped : Statement → Scope → Type 0
    StatementScoped (sequence a b) scope = StatementScoped a scope × StatementScoped b (scope_after a scope)
    -- in what is elaborated before it; each variable more only adds to that
    StatementScoped (declare at up_to e) scope = ValueScoped plan e scope
    StatementScoped (declare_array at t n) scope = Unit {0}
    -- what they see is asked where they begin
    StatementScoped (declare_tasks at ts) scope = Unit {0}
    StatementScoped (declare_object at n es) scope = (n < length plan.objects) × (object_level plan n ≡ length scope) × ComponentsScoped plan es own_number scope × EntriesLevel n scope
    StatementScoped (activated at) scope = Unit {0}
    StatementScoped (activate at) scope = Unit {0}
    StatementScoped (null at) scope = Unit {0}
    StatementScoped (assign at r e) scope = ReferenceScoped plan r scope × ValueScoped plan e scope
    StatementScoped (put at t) scope = TextScoped plan t scope
    StatementScoped (if_then at c a p) scope = BooleanScoped plan c scope × StatementScoped a scope × PartScoped p scope
    StatementScoped (plain_loop a) scope = StatementScoped a scope
    StatementScoped (while_loop at c a) scope = BooleanScoped plan c scope × StatementScoped a scope
    StatementScoped (for_loop f a b s) scope = IntegerScoped plan a scope × IntegerScoped plan b scope × (cells_of (table plan f.region) ≡ 1) × StatementScoped s (scope ++ all_of_table (table plan f.region) ∷ [])
    StatementScoped (exit at n c) scope = BooleanScoped plan c scope
    StatementScoped (raising at x) scope = IsThere plan x
    StatementScoped (raising_again at) scope = Unit {0}
    StatementScoped (return at) scope = Unit {0}
    StatementScoped (return_value at e) scope = ValueScoped plan e scope
    StatementScoped (block at n b) scope = BodyScoped b none_yet (table plan n) scope
    StatementScoped (procedure_call at c) scope = CallScoped c scope
    StatementScoped (own_entry_call at es form) scope = ArgumentsScoped plan es scope × FormScoped plan form scope
    StatementScoped (operation_call at v c) scope = IsElaborated v scope × OperationScoped v c scope
    StatementScoped (entry_call at c p q) scope = EntryCallScoped c scope × PartScoped p scope × PartScoped q scope
    StatementScoped (delay at e) scope = DelayScoped plan e scope
    StatementScoped (accept at n d) scope = IsTaskEntry plan n × DoingScoped n d scope
    StatementScoped (select at offered p) scope = AlternativesScoped offered scope × PartScoped p scope
    StatementScoped (abort at ts) scope = AllTasksScoped plan ts scope
    StatementScoped (requeue at r) scope = RequeueScoped r scope

    pub PartScoped : Part → Scope → Type 0
    PartScoped nothing scope = Unit {0}
    PartScoped (some s) scope = StatementScoped s scope

    -- the entry's formals are elaborated when a call is accepted
    pub DoingScoped : ℕ → Doing → Scope → Type 0
    DoingScoped entry without_do scope = Unit {0}
    DoingScoped entry (with_do n b) scope = BodyScoped b (all_formals (formals_of plan entry)) (table plan n) scope

    pub AlternativesScoped : Alternatives → Scope → Type 0
    AlternativesScoped no_alternatives scope = Unit {0}
    AlternativesScoped (accepting g at n d p more) scope = BooleanScoped plan g scope × IsTaskEntry plan n × DoingScoped n d scope × PartScoped p scope × AlternativesScoped more scope
    AlternativesScoped (delaying g e p more) scope = BooleanScoped plan g scope × DelayScoped plan e scope × PartScoped p scope × AlternativesScoped more scope
    AlternativesScoped (terminating g more) scope = BooleanScoped plan g scope × AlternativesScoped more scope

    pub HandlersScoped : Handlers → Scope → Type 0
    HandlersScoped no_handlers scope = Unit {0}
    HandlersScoped (handler others choices s more) scope = AllThere plan choices × StatementScoped s scope × HandlersScoped more scope

    -- its own frame is open within these, at first with so much, and behind its declarations with the variables of its table
    pub BodyScoped : Body → Elaborated → List Named → Scope → Type 0
    BodyScoped (body d begin s h end) first names scope =
        PartScoped d (scope ++ first ∷ [])
        × (scope_behind d (scope ++ first ∷ []) ≡ scope ++ all_of_table names ∷ [])
        × AllCreatedScoped d (scope ++ all_of_table names ∷ [])
        × StatementScoped s (scope ++ all_of_table names ∷ [])
        × HandlersScoped h (scope ++ all_of_table names ∷ [])

  -- a unit's level is how many frames it sees besides its own
  abbrev pub UnitScoped : UnitPlan → Body → Entry → Type 0
  UnitScoped u b e = (u.level ≡ length e.outer) × BodyScoped b (all_formals e.formals) (table plan u.region) e.outer

  abbrev pub UnitsScoped : List UnitPlan → List Body → List Entry → Type 0
  UnitsScoped [] [] [] = Unit {0}
  UnitsScoped (u ∷ us) (b ∷ bs) (e ∷ es) = UnitScoped u b e × UnitsScoped us bs es
  UnitsScoped _ _ _ = ⊥

  -- a barrier is evaluated where the frames are open that its entry's body sees (RM 9.5.2(7)); that of a task's entry is True
  abbrev pub BarriersScoped : List EntryPlan → List BooleanExpression → Type 0
  BarriersScoped [] [] = Unit {0}
  BarriersScoped (e ∷ es) (b ∷ bs) = BooleanScoped plan b (entry_of entries e.unit).outer × BarriersScoped es bs
  BarriersScoped _ _ = ⊥

-- the body of an entry, if it has one, has its formals
abbrev pub HasFormals : List Entry → EntryPlan → Type 0
HasFormals entries e = 1 ≤ e.unit → (entry_of entries e.unit).formals ≡ e.formals

-- no object has an entry twice
abbrev pub IsNot : ℕ → List ℕ → Type 0
IsNot n [] = Unit {0}
IsNot n (m ∷ ms) = (nat_eq n m ≡ false) × IsNot n ms

abbrev pub AreDistinct : List ℕ → Type 0
AreDistinct [] = Unit {0}
AreDistinct (n ∷ ns) = IsNot n ns × AreDistinct ns

abbrev pub HaveDistinctEntries : List ObjectPlan → Type 0
HaveDistinctEntries [] = Unit {0}
HaveDistinctEntries (o ∷ os) = AreDistinct o.entries × HaveDistinctEntries os

-- The entries of types of tasks, which have no body of their own, and those of objects.

abbrev pub entries_of_tasks : List TaskPlan → List ℕ
entries_of_tasks [] = []
entries_of_tasks (t ∷ ts) = t.entries ++ entries_of_tasks ts

abbrev pub entries_of_objects : List ObjectPlan → List ℕ
entries_of_objects [] = []
entries_of_objects (o ∷ os) = o.entries ++ entries_of_objects os

-- whether a number stands in a list
abbrev pub stands : ℕ → List ℕ → Bool
stands n [] = false
stands n (m ∷ ms) = nat_eq n m || stands n ms

-- each entry stands once, with one type of tasks or one object, and that of an object has its body
pub record EntriesOwned (plan : Plan) : Type 0 where
  pub tasks : AllByRecursion (IsTaskEntry plan) (entries_of_tasks plan.tasks)
  pub objects : AllByRecursion (IsObjectEntry plan) (entries_of_objects plan.objects)
  pub tasks_once : AreDistinct (entries_of_tasks plan.tasks)
  pub objects_once : AreDistinct (entries_of_objects plan.objects)
  pub each : (n : ℕ) → n < length plan.entries → (stands n (entries_of_tasks plan.tasks) || stands n (entries_of_objects plan.objects)) ≡ true
  pub all : length (entries_of_tasks plan.tasks) + length (entries_of_objects plan.objects) ≡ length plan.entries

-- the main procedure has no formals, and sees no frames but its own
abbrev pub MainEntry : List Entry → Type 0
MainEntry [] = ⊥
MainEntry (e ∷ es) = e ≡ no_entry

-- there is a way in which all units are entered
pub record IsScoped (program : Program) : Type 0 where
  pub entries : List Entry
  pub main : MainEntry entries
  pub units : UnitsScoped program.plan entries program.plan.units program.bodies entries
  pub barriers : BarriersScoped program.plan entries program.plan.entries program.barriers
  pub formals : AllByRecursion (HasFormals entries) program.plan.entries
  pub objects : HaveDistinctEntries program.plan.objects
  pub owned : EntriesOwned program.plan
  pub numbers : UnitsNumbers (length program.plan.regions) program.plan.units program.bodies
