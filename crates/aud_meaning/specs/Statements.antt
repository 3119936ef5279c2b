-- What statements ask: what decides whether they can go on, the values that they need, and what their steps do.
use Rattle.std.specs.Prelude.{ℕ, suc, ◌+◌, ◌-◌, ℤ, pos, List, [], ◌∷◌, ◌++◌, length, Option, Some, None, Result, Ok, Err, Bool, true, false, nat_eq, if◌then◌else◌, slice_index_or}
use Rattle.aud_text.specs.declared.place.Pos.{Pos}
use Rattle.aud_text.specs.declared.raise.Raise.{Raise}
use Rattle.aud_typed.specs.Tree as tree
use Rattle.aud_typed.specs.Tree.{truth, ValueExpression, TaskName, DelayExpression, Reference, CallForm, plainly, conditionally, timed, Callee, of_task, of_object, Statement, sequence, declare, declare_array, declare_tasks, declare_object, activated, activate, null, assign, put, if_then, plain_loop, while_loop, for_loop, exit, return, return_value, raising, raising_again, block, procedure_call, own_entry_call, operation_call, entry_call, delay, accept, select, abort, requeue, Part, nothing, some, Doing, without_do, with_do, Alternatives, no_alternatives, accepting, delaying, terminating}
use Rattle.aud_meaning.specs.declared.state.StepKind.TheVariants as kind
use Rattle.aud_meaning.specs.declared.state.Owner.{Owner}
use Rattle.aud_meaning.specs.declared.state.Owner.TheVariants as owner
use Rattle.aud_meaning.specs.declared.state.Again.{Again}
use Rattle.aud_meaning.specs.declared.state.Pending.{Pending}
use Rattle.aud_meaning.specs.declared.state.OpenAccept.{OpenAccept}
use Rattle.aud_meaning.specs.declared.state.OpenDelay.{OpenDelay}
use Rattle.aud_meaning.specs.declared.state.Form.{Form}
use Rattle.aud_meaning.specs.declared.state.Form.TheVariants.{Plain, Conditional, TimedTo}
use Rattle.aud_meaning.specs.Configuration.{Target, Waits, Item, Do, InLoop, InFor, Begin, Ends, Leaving}
use Rattle.aud_meaning.specs.Evaluation.{Sight, with_value, evaluated, decided, value_of, text_of, delay_of, task_named, number_in, target_of, option_target, passed, Passed}
use Rattle.aud_meaning.specs.Control.{Coming, simply, ending, selecting, calling, starting, Called, Asked, Scene, Controls}
use Rattle.aud_meaning.specs.Control as asked
use Rattle.aud_meaning.specs.Parts as parts
use Rattle.aud_meaning.specs.Parts.{no_waits}
use Rattle.aud_meaning.specs.declared.state.Construct.TheVariants as construct
use Rattle.aud_meaning.specs.Items.{body_before, takes, accepts, reached_at, is_some_part, handling_by, left_from, place, body_of, out_by, out_from, loops_out, goes_out_to, ended}

-- What is enabled.

abbrev pub region_of : Doing → Option ℕ
region_of without_do = None
region_of (with_do region b) = Some region

abbrev pub if_open : Bool → (Waits → Waits) → Result Waits Raise → Result Waits Raise
if_open false f rest = rest
if_open true f rest = with_value rest (λ w. Ok (f w))

-- what is open, the guards being evaluated in text order; the delays count no time yet (RM 9.7.1(14))
abbrev pub guards_from : ℕ → Alternatives → Sight → Result Waits Raise
guards_from n no_alternatives s = Ok no_waits
guards_from n (accepting g at e d p more) s =
    with_value (decided g s) (λ b. if_open b (λ w. record w { accepts = record { alternative = n; entry = e; at = at; region = region_of d } ∷ w.accepts }) (guards_from (suc n) more s))
guards_from n (delaying g e p more) s =
    with_value (decided g s) (λ b. if_open b (λ w. record w { delays = record { alternative = n; time = 0 } ∷ w.delays }) (guards_from (suc n) more s))
guards_from n (terminating g more) s =
    with_value (decided g s) (λ b. if_open b (λ w. record w { terminate = true }) (guards_from (suc n) more s))

abbrev pub delay_expression : ℕ → Alternatives → DelayExpression
delay_expression n no_alternatives = tree.milliseconds 0
delay_expression n (accepting g at e d p more) = delay_expression (n - 1) more
delay_expression n (delaying g e p more) = if nat_eq n 1 then e else delay_expression (n - 1) more
delay_expression n (terminating g more) = delay_expression (n - 1) more

abbrev pub timed_from : List OpenDelay → Alternatives → ℕ → Sight → Result (List OpenDelay) Raise
timed_from [] offered clock s = Ok []
timed_from (d ∷ ds) offered clock s =
    with_value (delay_of (delay_expression d.alternative offered) s) (λ ms.
    with_value (timed_from ds offered clock s) (λ rest. Ok (record d { time = clock + ms } ∷ rest)))

-- what a selective accept waits for: guards, then the delays of open alternatives
abbrev pub waits_of : Alternatives → ℕ → Sight → Result Waits Raise
waits_of offered clock s =
    with_value (guards_from 1 offered s) (λ w. with_value (timed_from w.delays offered clock s) (λ ds. Ok (record w { delays = ds })))

abbrev pub open_or_none : Result Waits Raise → List OpenAccept
open_or_none (Ok w) = w.accepts
open_or_none (Err raise) = []

abbrev pub task_or_none : Result ℕ Raise → Option ℕ
task_or_none (Ok n) = Some n
task_or_none (Err raise) = None

abbrev pub coming_call : tree.EntryCall → Callee → Sight → Coming
coming_call c (of_task t) s = calling (task_or_none (task_named t s)) c.entry
coming_call c (of_object v) s = starting (number_in v s) false

abbrev pub coming_statement : tree.Plan → Statement → Sight → Coming
coming_statement plan (sequence a b) s = simply kind.Null
coming_statement plan (declare at up_to e) s = simply kind.Declaration
coming_statement plan (declare_array at t n) s = simply kind.Declaration
coming_statement plan (declare_tasks at ts) s = simply kind.Declaration
coming_statement plan (declare_object at n es) s = simply kind.Declaration
coming_statement plan (activated at) s = simply kind.Activated
coming_statement plan (activate at) s = simply kind.Activate
coming_statement plan (null at) s = simply kind.Null
coming_statement plan (assign at r e) s = simply kind.Assign
coming_statement plan (put at t) s = simply kind.Put
coming_statement plan (if_then at e a p) s = simply kind.If
coming_statement plan (plain_loop a) s = simply kind.Null
coming_statement plan (while_loop at e a) s = simply kind.While
coming_statement plan (for_loop f a b c) s = simply kind.For
coming_statement plan (exit at n e) s = simply kind.Exit
coming_statement plan (return at) s = simply kind.Return
coming_statement plan (return_value at e) s = simply kind.Return
coming_statement plan (raising at x) s = simply kind.Raise
coming_statement plan (raising_again at) s = simply kind.Raise
coming_statement plan (block at n b) s = simply kind.Block
coming_statement plan (procedure_call at c) s = simply kind.Proc
coming_statement plan (own_entry_call at es f) s = simply kind.Proc
coming_statement plan (operation_call at v c) s = starting (number_in v s) (parts.unit_of plan c.unit).is_function
coming_statement plan (entry_call at c p q) s = coming_call c c.callee s
coming_statement plan (delay at e) s = simply kind.Delay
coming_statement plan (accept at n d) s = simply kind.Accept
coming_statement plan (select at offered p) s = selecting (open_or_none (guards_from 1 offered s))
coming_statement plan (abort at ns) s = simply kind.Abort
coming_statement plan (requeue at r) s = simply kind.Requeue

-- Values that steps need.

abbrev pub both : Result ℤ Raise → Result ℤ Raise → Result (ℤ × ℤ) Raise
both a b = with_value a (λ x. with_value b (λ y. Ok (x, y)))

-- the target's index before the value (RM 5.2; profile choice), and the value's range at last
pub record Stored : Type 0 where
  pub target : Target
  pub value : ℤ

abbrev pub stored : Reference → ValueExpression → Sight → Result Stored Raise
stored r e s = with_value (target_of r s) (λ target. with_value (value_of e s) (λ value. Ok (record { target = target; value = value })))

-- the components of an object, each seen by the later ones, in a new frame (RM 9.4)
abbrev pub components : List ValueExpression → List ℤ → Sight → Result (List ℤ) Raise
components [] cells s = Ok cells
components (e ∷ es) cells s =
    with_value (value_of e (record s { display = s.display ++ length s.frames ∷ []; frames = s.frames ++ cells ∷ [] })) (λ z.
    components es (cells ++ z ∷ []) s)

abbrev pub form_of : CallForm → ℕ → Sight → Result Form Raise
form_of plainly clock s = Ok Plain
form_of conditionally clock s = Ok (Conditional clock)
form_of (timed e) clock s = with_value (delay_of e s) (λ ms. Ok (TimedTo (clock + ms)))

abbrev pub called : Pos → ℕ → List tree.Argument → CallForm → ℕ → Sight → Result Called Raise
called at entry arguments form clock s =
    with_value (passed arguments s) (λ p. with_value (form_of form clock s) (λ f. Ok (record { entry = entry; passed = p; form = f; at = at })))

abbrev pub names_tasks : List TaskName → Sight → Result (List ℕ) Raise
names_tasks [] s = Ok []
names_tasks (t ∷ ts) s = with_value (task_named t s) (λ n. with_value (names_tasks ts s) (λ ns. Ok (n ∷ ns)))

pub record Entered : Type 0 where
  pub into : Option Target
  pub passed : Passed

-- a function's target is found before its arguments
abbrev pub entered_with : tree.Calling → Sight → Result Entered Raise
entered_with c s = with_value (option_target c.into s) (λ into. with_value (passed c.arguments s) (λ p. Ok (record { into = into; passed = p })))

abbrev pub has_else : Part → Bool
has_else nothing = false
has_else (some s) = true

-- What the next step does.

-- with the value, or the exception is raised there
abbrev pub or_raises : {A : Type 0} → Result A Raise → Pos → (A → Asked) → Asked
or_raises (Ok value) at go = go value
or_raises (Err raise) at go = asked.raises_here raise at

abbrev pub or_raises_in_part : {A : Type 0} → Result A Raise → Pos → (A → Asked) → Asked
or_raises_in_part (Ok value) at go = go value
or_raises_in_part (Err raise) at go = asked.raises_in_part raise at

abbrev pub branch : Bool → ℕ
branch true = 1
branch false = 0

abbrev pub asked_call : Pos → tree.EntryCall → Callee → Scene → Asked
asked_call at c (of_task t) s =
    or_raises (with_value (task_named t s.sight) (λ n. with_value (called at c.entry c.arguments c.form s.clock s.sight) (λ call. Ok (n, call)))) at
    (λ (x : ℕ × Called). asked.calls_entry (owner.Task x.0) x.1)
asked_call at c (of_object v) s =
    or_raises (called at c.entry c.arguments c.form s.clock s.sight) at (λ call. asked.calls_entry (owner.Object (number_in v s.sight)) call)

abbrev pub again_at : Pos → tree.Requeue → Owner → Again
again_at at r o = record { owner = o; entry = r.entry; with_formals = r.with_formals; with_abort = r.with_abort; at = at }

abbrev pub asked_requeue : Pos → tree.Requeue → Callee → ℕ → Scene → Asked
asked_requeue at r (of_task t) loops s = or_raises (task_named t s.sight) at (λ n. asked.requeues loops (again_at at r (owner.Task n)))
asked_requeue at r (of_object v) loops s = asked.requeues loops (again_at at r (owner.Object (number_in v s.sight)))

-- a statement, with the loops that it leaves where it is an exit, a return or a requeue
abbrev pub asked_statement : Statement → ℕ → Scene → Asked
asked_statement (declare at up_to e) loops s = or_raises_in_part (value_of e s.sight) at (λ z. asked.declares up_to z)
asked_statement (declare_array at t n) loops s = asked.declares_array at t n
asked_statement (declare_tasks at ts) loops s = asked.declares_tasks at ts
asked_statement (declare_object at n es) loops s = or_raises_in_part (components es (pos s.objects ∷ []) s.sight) at (λ cells. asked.declares_object at n cells)
asked_statement (activated at) loops s = asked.ends_activation
asked_statement (activate at) loops s = asked.activates at
asked_statement (null at) loops s = asked.goes_on 0
asked_statement (assign at r e) loops s = or_raises (stored r e s.sight) at (λ a. asked.assigns a.target a.value)
asked_statement (put at e) loops s = or_raises (text_of e s.sight) at (λ text. asked.puts text)
asked_statement (if_then at e a p) loops s = or_raises (decided e s.sight) at (λ b. asked.goes_on (branch b))
asked_statement (while_loop at e a) loops s = or_raises (decided e s.sight) at (λ b. asked.goes_on (branch b))
asked_statement (for_loop f a b inner) loops s = or_raises (both (evaluated a s.sight) (evaluated b s.sight)) f.at (λ (xy : ℤ × ℤ). asked.enters_loop f xy.0 xy.1)
asked_statement (exit at n e) loops s = or_raises (decided e s.sight) at (λ b. if b then asked.goes_out loops None else asked.goes_on 0)
asked_statement (return at) loops s = asked.goes_out loops None
asked_statement (return_value at e) loops s = or_raises (value_of e s.sight) at (λ z. asked.goes_out loops (Some z))
asked_statement (raising at x) loops s = asked.raises x at
asked_statement (raising_again at) loops s = asked.raises_again at
asked_statement (block at region b) loops s = asked.enters_block at region
asked_statement (procedure_call at c) loops s = or_raises (entered_with c s.sight) at (λ e. asked.calls_procedure at c.unit e.passed e.into)
asked_statement (own_entry_call at es form) loops s = or_raises (called at 0 es form s.clock s.sight) at (λ e. asked.calls_own_entry at)
asked_statement (operation_call at v c) loops s =
    or_raises (entered_with c s.sight) at (λ e. asked.calls_operation at (number_in v s.sight) c.unit e.passed e.into)
asked_statement (entry_call at c p q) loops s = asked_call at c c.callee s
asked_statement (delay at e) loops s = or_raises (delay_of e s.sight) at (λ ms. asked.delays ms at)
asked_statement (accept at entry d) loops s = asked.accepts (record { alternative = 0; entry = entry; at = at; region = region_of d })
asked_statement (select at offered p) loops s = or_raises (waits_of offered s.clock s.sight) at (λ w. asked.selects (has_else p) w at)
asked_statement (abort at ts) loops s = or_raises (names_tasks ts s.sight) at (λ ns. asked.aborts ns at)
asked_statement (requeue at r) loops s = asked_requeue at r r.callee loops s
-- entered by no step
asked_statement (sequence a b) loops s = asked.goes_on 0
asked_statement (plain_loop a) loops s = asked.goes_on 0

abbrev pub next_asked : Statement → Asked
next_asked (for_loop f a b s) = asked.next_of_loop f
next_asked s = asked.goes_on 0

abbrev pub asked_item : List Item → Scene → Asked
asked_item [] s = asked.ends 0
asked_item (Do a ∷ rest) s = asked_statement a (loops_out (out_by a rest)) s
asked_item (InLoop a ∷ rest) s = asked.goes_on 0
asked_item (InFor a ∷ rest) s = next_asked a
asked_item (Begin c a h end ∷ rest) s = asked.ends 0
asked_item (Ends c h end ∷ rest) s = asked.ends 0
asked_item (Leaving n end ∷ rest) s = asked.ends n

abbrev pub handled_or_left : Bool → Pending → Asked
handled_or_left true p = asked.handles p
handled_or_left false p = asked.is_left_by p

abbrev pub asks : Option Pending → Scene → List Item → Asked
asks None s items = asked_item items s
asks (Some p) s items = handled_or_left (is_some_part (reached_at p.exception items).handler) p

abbrev pub coming_item : tree.Plan → List Item → Sight → Coming
coming_item plan [] s = ending
coming_item plan (Do a ∷ rest) s = coming_statement plan a s
coming_item plan (InLoop a ∷ rest) s = simply kind.Null
coming_item plan (InFor a ∷ rest) s = simply kind.Next
coming_item plan (Begin c a h end ∷ rest) s = ending
coming_item plan (Ends c h end ∷ rest) s = ending
coming_item plan (Leaving n end ∷ rest) s = ending

abbrev pub coming_raised : Bool → Coming
coming_raised true = simply kind.Handler
coming_raised false = ending

abbrev pub coming : tree.Plan → Option Pending → Sight → List Item → Coming
coming plan None s items = coming_item plan items s
coming plan (Some p) s items = coming_raised (is_some_part (reached_at p.exception items).handler)

-- what steps do to the statements that are left
abbrev pub controls : tree.Program → Controls (List Item)
controls program = record {
  coming = coming program.plan;
  asks = asks;
  place = place;
  takes = takes;
  accepts = accepts;
  enters = λ n items. body_before construct.Unit (body_of program n) items;
  begins = λ n. body_before construct.Unit (body_of program n) [];
  out = λ items. goes_out_to (out_from items) items;
  behind = ended;
  handling = λ x items. handling_by (reached_at x items).handler (reached_at x items).from items;
  left = λ x items. left_from (reached_at x items).from;
  barrier = λ n s. decided (slice_index_or program.barriers n (truth true)) s;
}
