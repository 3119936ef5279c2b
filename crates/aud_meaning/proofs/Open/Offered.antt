-- What a selective accept waits for is what is seen of it before: the same open accepts, numbered from 1.
use Rattle.std.proofs.Common.{◌≡◌, ℕ, suc, ℤ, pos, List, [], ◌∷◌, Option, Some, None, Bool, true, false, Result, Ok, Err, refl, if◌then◌else◌}
use Rattle.aud_text.specs.declared.place.Pos.{Pos}
use Rattle.aud_text.specs.declared.raise.Raise.{Raise}
use Rattle.aud_typed.specs.Tree as tree
use Rattle.aud_typed.specs.Tree.{Callee, of_task, of_object, Statement, sequence, declare, declare_array, declare_tasks, declare_object, activated, activate, null, assign, put, if_then, plain_loop, while_loop, for_loop, exit, return, return_value, raising, raising_again, block, procedure_call, own_entry_call, operation_call, entry_call, delay, accept, select, abort, requeue, Alternatives, no_alternatives, accepting, delaying, terminating, Part}
use Rattle.aud_meaning.specs.declared.state.Owner.TheVariants as owner
use Rattle.aud_meaning.specs.declared.state.Pending.{Pending}
use Rattle.aud_meaning.specs.declared.state.OpenDelay.{OpenDelay}
use Rattle.aud_meaning.specs.Configuration.{Waits, Item, Do, InLoop, InFor, Begin, Ends, Leaving}
use Rattle.aud_meaning.specs.Evaluation.{Sight, decided, delay_of, evaluated, number_in, task_named, text_of, value_of, with_value}
use Rattle.aud_meaning.specs.Control.{Called, Coming, selecting, Asked, selects, goes_on, goes_out, Scene, Controls}
use Rattle.aud_meaning.specs.Control as asked
use Rattle.aud_meaning.specs.Items.{is_some_part, reached_at}
use Rattle.aud_meaning.specs.Statements.{asked_call, asked_item, asked_requeue, asked_statement, asks, both, branch, called, coming, coming_item, components, controls, entered_with, guards_from, handled_or_left, has_else, if_open, names_tasks, next_asked, open_or_none, or_raises, or_raises_in_part, stored, timed_from, waits_of}
use Rattle.aud_meaning.proofs.Open.Picked.{AllNumbered}

-- what is asked is what was seen to come
abbrev pub Offered : Asked → Coming → Type 0
Offered (selects has_else w at) next = (next ≡ selecting w.accepts) × AllNumbered w.accepts
Offered a next = Unit {0}

abbrev pub Offers : {C : Type 0} → Controls C → Type 0
Offers {C} k = (p : Option Pending) (s : Scene) (t : C) → Offered (k.asks p s t) (k.coming p s.sight t)

-- Numbers.

abbrev HasNumbers : Result Waits Raise → Type 0
HasNumbers (Ok w) = AllNumbered w.accepts
HasNumbers (Err raise) = Unit {0}

open_numbered : (r : Result Bool Raise) (f : Waits → Waits) (rest : Result Waits Raise) → ((w : Waits) → AllNumbered w.accepts → AllNumbered (f w).accepts) → HasNumbers rest → HasNumbers (with_value r (λ b. if_open b f rest))
open_numbered (Err raise) f rest g h = tt
open_numbered (Ok false) f rest g h = h
open_numbered (Ok true) f (Ok w) g h = g w h
open_numbered (Ok true) f (Err raise) g h = tt

guards_numbered : (n : ℕ) (offered : Alternatives) (s : Sight) → HasNumbers (guards_from (suc n) offered s)
guards_numbered n no_alternatives s = tt
guards_numbered n (accepting g at e d p more) s = open_numbered (decided g s) _ (guards_from (suc (suc n)) more s) (λ w h. (tt, h)) (guards_numbered (suc n) more s)
guards_numbered n (delaying g e p more) s = open_numbered (decided g s) _ (guards_from (suc (suc n)) more s) (λ w h. h) (guards_numbered (suc n) more s)
guards_numbered n (terminating g more) s = open_numbered (decided g s) _ (guards_from (suc (suc n)) more s) (λ w h. h) (guards_numbered (suc n) more s)

-- Statements.

raised : {A : Type 0} (r : Result A Raise) (at : Pos) (go : A → Asked) (next : Coming) → ((x : A) → Offered (go x) next) → Offered (or_raises r at go) next
raised (Ok x) at go next g = g x
raised (Err raise) at go next g = tt

raised_in_part : {A : Type 0} (r : Result A Raise) (at : Pos) (go : A → Asked) (next : Coming) → ((x : A) → Offered (go x) next) → Offered (or_raises_in_part r at go) next
raised_in_part (Ok x) at go next g = g x
raised_in_part (Err raise) at go next g = tt

exit_offered : (b : Bool) (loops : ℕ) (next : Coming) → Offered (if b then goes_out loops None else goes_on 0) next
exit_offered true loops next = tt
exit_offered false loops next = tt

call_offered : (at : Pos) (c : tree.EntryCall) (callee : Callee) (s : Scene) (next : Coming) → Offered (asked_call at c callee s) next
call_offered at c (of_task t) s next =
    raised (with_value (task_named t s.sight) (λ n. with_value (called at c.entry c.arguments c.form s.clock s.sight) (λ call. Ok (n, call)))) at
    (λ (x : ℕ × Called). asked.calls_entry (owner.Task x.0) x.1) next (λ x. tt)
call_offered at c (of_object v) s next =
    raised (called at c.entry c.arguments c.form s.clock s.sight) at (λ call. asked.calls_entry (owner.Object (number_in v s.sight)) call) next (λ call. tt)

select_offered : (at : Pos) (offered : Alternatives) (p : Part) (s : Scene) → Offered (or_raises (waits_of offered s.clock s.sight) at (λ w. selects (has_else p) w at)) (selecting (open_or_none (guards_from 1 offered s.sight)))
select_offered at offered p s = by (guards_from 1 offered s.sight) (guards_numbered 0 offered s.sight)
  where
    timed : (w : Waits) → AllNumbered w.accepts → (r : Result (List OpenDelay) Raise) → Offered (or_raises (with_value r (λ ds. Ok (record w { delays = ds }))) at (λ v. selects (has_else p) v at)) (selecting w.accepts)
    timed w h (Ok ds) = (refl, h)
    timed w h (Err raise) = tt

    by : (g : Result Waits Raise) → HasNumbers g → Offered (or_raises (with_value g (λ w. with_value (timed_from w.delays offered s.clock s.sight) (λ ds. Ok (record w { delays = ds })))) at (λ w. selects (has_else p) w at)) (selecting (open_or_none g))
    by (Ok w) h = timed w h (timed_from w.delays offered s.clock s.sight)
    by (Err raise) h = tt

requeue_offered : (at : Pos) (r : tree.Requeue) (callee : Callee) (loops : ℕ) (s : Scene) (next : Coming) → Offered (asked_requeue at r callee loops s) next
requeue_offered at r (of_task t) loops s next = raised (task_named t s.sight) at _ next (λ n. tt)
requeue_offered at r (of_object v) loops s next = tt

statement_offered : (plan : tree.Plan) (a : Statement) (loops : ℕ) (s : Scene) → Offered (asked_statement a loops s) (coming_item plan (Do a ∷ []) s.sight)
statement_offered plan (sequence a b) loops s = tt
statement_offered plan (declare at up_to e) loops s = raised_in_part (value_of e s.sight) at (λ z. asked.declares up_to z) _ (λ z. tt)
statement_offered plan (declare_array at t n) loops s = tt
statement_offered plan (declare_tasks at ts) loops s = tt
statement_offered plan (declare_object at n es) loops s =
    raised_in_part (components es (pos s.objects ∷ []) s.sight) at (λ cells. asked.declares_object at n cells) _ (λ cells. tt)
statement_offered plan (activated at) loops s = tt
statement_offered plan (activate at) loops s = tt
statement_offered plan (null at) loops s = tt
statement_offered plan (assign at r e) loops s = raised (stored r e s.sight) at (λ a. asked.assigns a.target a.value) _ (λ a. tt)
statement_offered plan (put at e) loops s = raised (text_of e s.sight) at (λ text. asked.puts text) _ (λ text. tt)
statement_offered plan (if_then at e a p) loops s = raised (decided e s.sight) at (λ b. asked.goes_on (branch b)) _ (λ b. tt)
statement_offered plan (plain_loop a) loops s = tt
statement_offered plan (while_loop at e a) loops s = raised (decided e s.sight) at (λ b. asked.goes_on (branch b)) _ (λ b. tt)
statement_offered plan (for_loop f a b inner) loops s =
    raised (both (evaluated a s.sight) (evaluated b s.sight)) f.at (λ (xy : ℤ × ℤ). asked.enters_loop f xy.0 xy.1) _ (λ xy. tt)
statement_offered plan (exit at n e) loops s =
    raised (decided e s.sight) at (λ b. if b then asked.goes_out loops None else asked.goes_on 0) _ (λ b. exit_offered b loops _)
statement_offered plan (return at) loops s = tt
statement_offered plan (return_value at e) loops s = raised (value_of e s.sight) at (λ z. asked.goes_out loops (Some z)) _ (λ z. tt)
statement_offered plan (raising at x) loops s = tt
statement_offered plan (raising_again at) loops s = tt
statement_offered plan (block at region b) loops s = tt
statement_offered plan (procedure_call at c) loops s = raised (entered_with c s.sight) at (λ e. asked.calls_procedure at c.unit e.passed e.into) _ (λ e. tt)
statement_offered plan (own_entry_call at es form) loops s = raised (called at 0 es form s.clock s.sight) at (λ e. asked.calls_own_entry at) _ (λ e. tt)
statement_offered plan (operation_call at v c) loops s =
    raised (entered_with c s.sight) at (λ e. asked.calls_operation at (number_in v s.sight) c.unit e.passed e.into) _ (λ e. tt)
statement_offered plan (entry_call at c p q) loops s = call_offered at c c.callee s _
statement_offered plan (delay at e) loops s = raised (delay_of e s.sight) at (λ ms. asked.delays ms at) _ (λ ms. tt)
statement_offered plan (accept at entry d) loops s = tt
statement_offered plan (select at offered p) loops s = select_offered at offered p s
statement_offered plan (abort at ts) loops s = raised (names_tasks ts s.sight) at (λ ns. asked.aborts ns at) _ (λ ns. tt)
statement_offered plan (requeue at r) loops s = requeue_offered at r r.callee loops s _

next_offered : (a : Statement) (next : Coming) → Offered (next_asked a) next
next_offered (for_loop f x y inner) next = tt
next_offered a next = tt

item_offered : (plan : tree.Plan) (items : List Item) (s : Scene) → Offered (asked_item items s) (coming_item plan items s.sight)
item_offered plan [] s = tt
item_offered plan (Do a ∷ rest) s = statement_offered plan a _ s
item_offered plan (InLoop a ∷ rest) s = tt
item_offered plan (InFor a ∷ rest) s = next_offered a _
item_offered plan (Begin c a h end ∷ rest) s = tt
item_offered plan (Ends c h end ∷ rest) s = tt
item_offered plan (Leaving n end ∷ rest) s = tt

handled_offered : (b : Bool) (p : Pending) (next : Coming) → Offered (handled_or_left b p) next
handled_offered true p next = tt
handled_offered false p next = tt

all_offered : (plan : tree.Plan) (p : Option Pending) (s : Scene) (items : List Item) → Offered (asks p s items) (coming plan p s.sight items)
all_offered plan None s items = item_offered plan items s
all_offered plan (Some p) s items = handled_offered (is_some_part (reached_at p.exception items).handler) p _

pub program_offers : (program : tree.Program) → Offers (controls program)
program_offers program = all_offered program.plan
