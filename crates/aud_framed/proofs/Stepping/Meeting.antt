-- A call is accepted by an accept that does nothing.
use Rattle.std.proofs.Common.{◌≡◌, ℕ, zero, suc, List, [], ◌∷◌, Some, None, Bool, true, false, refl, sym, ap, ◌∙◌, subst, if◌then◌else◌, slice_get}
use Rattle.std.proofs.lemmas.Bool.{and_parts, eqb-true, false≢true, true≢false}
use Rattle.std.specs.Prelude.{◌&&◌, nat_eq, nat_lt, ◌++◌}
use Rattle.aud_typed.specs.Tree.{Plan}
use Rattle.aud_meaning.specs.declared.state.CallState.{CallState}
use Rattle.aud_meaning.specs.declared.state.CallState.TheVariants.{Queued, Selected, Done, Cancelled}
use Rattle.aud_meaning.specs.declared.state.OpenAccept.{OpenAccept}
use Rattle.aud_meaning.specs.declared.state.Owner.{Owner}
use Rattle.aud_meaning.specs.declared.state.Owner.TheVariants as owner
use Rattle.aud_meaning.specs.declared.state.Status.TheVariants.{Running, Calling}
use Rattle.aud_meaning.specs.Configuration.{Own, Call, TaskAt, All}
use Rattle.aud_meaning.specs.Control.{here, takes_part}
use Rattle.aud_meaning.specs.Parts.{Waiting, call_of, changed, contains, insert, is_over, is_queued, on_call, on_task, own_of, owner_number, queue, queue_from, runs, succeeds}
use Rattle.aud_meaning.specs.Tasks as effect
use Rattle.aud_meaning.proofs.Open.Tasks.{call_at}
use Rattle.aud_code.specs.Places.{Spot}
use Rattle.aud_code.specs.Flat.{Flat, Does, end_at, flat_controls}
use Rattle.aud_code.specs.Instruction.{Accept}
use Rattle.aud_code.specs.Seen.{IsSeen}
use Rattle.aud_code.specs.Sound.{Counts, IsSound}
use Rattle.aud_code.proofs.Starts.{moved_kept}
use Rattle.aud_over.specs.Over.{is_call_over}
use Rattle.aud_framed.specs.Held.{StandsAt}
use Rattle.aud_framed.specs.Waiting.{is_of_object}
use Rattle.aud_framed.specs.Calls.{IsEntryOf, Waits}
use Rattle.aud_framed.specs.Ways.{StandsAtStep}
use Rattle.aud_framed.specs.Stepping.{HasWays}
use Rattle.aud_framed.proofs.Stepping.Calls.{IsUnserved, served_by, unserved_queued}
use Rattle.aud_framed.proofs.Stepping.Ending.{Good, end_call_good, task_caller}
use Rattle.aud_framed.proofs.Stepping.Going.{part_goes}
use Rattle.aud_framed.proofs.Stepping.Lone.{at_step}
use Rattle.aud_framed.proofs.Stepping.Parts.{changed_own, follows, like_frames, own_got, side}
use Rattle.aud_framed.proofs.Stepping.Refusing.{orders}
use Rattle.aud_framed.proofs.Stepping.Selecting.{field_same, selected_framed}
use Rattle.aud_framed.proofs.Stepping.Tasks.{task_good}

-- What is said of a call that is in a queue.
pub record IsIn (n entry : ℕ) (a : Call) : Type 0 where
  pub queued : a.state ≡ Queued
  pub entry_is : a.entry ≡ entry
  pub owner_is : owner_number a.owner ≡ n

pub queued_state : (s : CallState) → is_queued s ≡ true → s ≡ Queued
queued_state Queued h = refl
queued_state Selected h = absurd (false≢true h)
queued_state Done h = absurd (false≢true h)
queued_state Cancelled h = absurd (false≢true h)

is_in : (n entry : ℕ) (a : Call) → is_queued a.state && nat_eq a.entry entry && nat_eq (owner_number a.owner) n ≡ true → IsIn n entry a
is_in n entry a h =
    let outer = and_parts (is_queued a.state && nat_eq a.entry entry) (nat_eq (owner_number a.owner) n) h in
    let inner = and_parts (is_queued a.state) (nat_eq a.entry entry) outer.0 in
    record { queued = queued_state a.state inner.0; entry_is = eqb-true a.entry entry inner.1; owner_is = eqb-true (owner_number a.owner) n outer.1 }

abbrev EachIn : (Waiting → Type 0) → List Waiting → Type 0
EachIn P [] = Unit {0}
EachIn P (w ∷ ws) = P w × EachIn P ws

insert_each : (P : Waiting → Type 0) (w : Waiting) (ws : List Waiting) → P w → EachIn P ws → EachIn P (insert w ws)
insert_each P w [] p h = (p, tt)
insert_each P w (x ∷ xs) p h = by (nat_lt w.arrival x.arrival) (insert_each P w xs p h.1)
  where
    by : (b : Bool) → EachIn P (insert w xs) → EachIn P (if b then w ∷ x ∷ xs else x ∷ insert w xs)
    by true k = (p, h)
    by false k = (h.0, k)

abbrev Found : ℕ → List Call → (ℕ → Call) → Type 0
Found m [] look = Unit {0}
Found m (a ∷ more) look = (look m ≡ a) × Found (suc m) more look

found_on : (m : ℕ) (cs : List Call) (look : ℕ → Call) → Found m cs (λ n. look (suc n)) → Found (suc m) cs look
found_on m [] look h = tt
found_on m (a ∷ more) look h = (h.0, found_on (suc m) more look h.1)

found_all : (cs : List Call) → Found 0 cs (λ i. call_at i cs)
found_all [] = tt
found_all (a ∷ more) = (refl, found_on 0 more (λ i. call_at i (a ∷ more)) (found_all more))

queue_each : (n entry m : ℕ) (cs : List Call) (look : ℕ → Call) → Found m cs look → EachIn (λ (w : Waiting). IsIn n entry (look w.call)) (queue_from m n entry cs)
queue_each n entry m [] look h = tt
queue_each n entry m (a ∷ more) look h = by (is_queued a.state && nat_eq a.entry entry && nat_eq (owner_number a.owner) n) refl (queue_each n entry (suc m) more look h.1)
  where
    by : (b : Bool) → is_queued a.state && nat_eq a.entry entry && nat_eq (owner_number a.owner) n ≡ b → EachIn (λ (w : Waiting). IsIn n entry (look w.call)) (queue_from (suc m) n entry more) → EachIn (λ (w : Waiting). IsIn n entry (look w.call)) (if b then insert (record { call = m; arrival = a.arrival; caller = a.caller }) (queue_from (suc m) n entry more) else queue_from (suc m) n entry more)
    by true e k = insert_each (λ (w : Waiting). IsIn n entry (look w.call)) (record { call = m; arrival = a.arrival; caller = a.caller }) (queue_from (suc m) n entry more) (subst (λ x. IsIn n entry x) (sym h.0) (is_in n entry a e)) k
    by false e k = k

pub first_in : (n entry : ℕ) (c : All Spot) (w : Waiting) (ws : List Waiting) → queue n entry c.shared.calls ≡ w ∷ ws → IsIn n entry (call_of w.call c)
first_in n entry c w ws e = (subst (λ qs. EachIn (λ (x : Waiting). IsIn n entry (call_of x.call c)) qs) e (queue_each n entry 0 c.shared.calls (λ i. call_of i c) (found_all c.shared.calls))).0

-- on a task's entry
pub its_task : (plan : Plan) (c : All Spot) (n entry : ℕ) (o : Owner) → IsEntryOf plan c o entry → is_of_object plan entry ≡ false → owner_number o ≡ n → o ≡ owner.Task n
its_task plan c n entry (owner.Task m) h e q = ap (λ k. owner.Task k) q
its_task plan c n entry (owner.Object m) h e q = absurd (true≢false (sym h.0 ∙ e))

pub now_selected : (id : ℕ) (calls : List Call) → (call_at id calls).state ≡ Queued → (call_at id (changed id (λ (a : Call). record a { state = Selected }) calls)).state ≡ Selected
now_selected id [] h = absurd cc
now_selected zero (a ∷ more) h = refl
now_selected (suc id) (a ∷ more) h = now_selected id more h

module _ (plan : Plan) (code : Flat) (table : List Counts) (tasks barriers seen : List ℕ) (sound : IsSound code) (fits : IsSeen code table tasks barriers seen) (ways : HasWays code) where
  abbrev pub Kept : All Spot → Type 0
  Kept c = Good plan code table tasks barriers seen sound fits ways c

  pub accepts_at_once : (a : OpenAccept) (id n : ℕ) (c : All Spot) (t : TaskAt Spot) → Kept c → slice_get c.tasks n ≡ Some t → t.own.status ≡ Running → t.own.pending ≡ None → t.own.again ≡ None → (end_at code t.control.place).last ≡ Does (Accept a.entry a.region) → a.region ≡ None → (call_of id c).state ≡ Queued → (call_of id c).owner ≡ owner.Task n → Kept (effect.rendezvous (orders plan code table tasks barriers seen sound fits ways) plan (flat_controls plan code).barrier a id n c)
  accepts_at_once a id n c t w is running none still line nothing queued its =
      subst (λ r. Kept (effect.rendezvous_by (orders plan code table tasks barriers seen sound fits ways) plan (flat_controls plan code).barrier r a id n chosen)) (sym nothing)
      (end_call_good plan code table tasks barriers seen sound fits ways (succeeds ((call_of id chosen).values ++ (call_of id chosen).unseen)) id met met_good live free waiting)
    where
      chosen : All Spot
      chosen = on_call id (λ (x : Call). record x { state = Selected }) c

      step : TaskAt Spot → TaskAt Spot
      step = λ u. record { control = (orders plan code table tasks barriers seen sound fits ways).takes a.alternative u.control; own = runs u.own }

      met : All Spot
      met = on_task n (λ (u : TaskAt Spot). record { control = (orders plan code table tasks barriers seen sound fits ways).takes a.alternative u.control; own = runs u.own }) (on_call id (λ (x : Call). record x { state = Selected }) c)

      chosen_good : Kept (on_call id (λ (x : Call). record x { state = Selected }) c)
      chosen_good = record { framed = selected_framed plan code seen id c queued w.framed; spots = w.spots }

      s : StandsAtStep code seen t.control.place (end_at code t.control.place) t.control.returns t.own.display t.own.opened
      s = at_step plan code seen n c t w.spots is running none w.framed

      met_good : Kept (on_task n (λ (u : TaskAt Spot). record { control = (orders plan code table tasks barriers seen sound fits ways).takes a.alternative u.control; own = runs u.own }) (on_call id (λ (x : Call). record x { state = Selected }) c))
      met_good =
          task_good plan code table tasks barriers seen sound fits ways n (λ (u : TaskAt Spot). record { control = (orders plan code table tasks barriers seen sound fits ways).takes a.alternative u.control; own = runs u.own }) (on_call id (λ (x : Call). record x { state = Selected }) c) t is
          (subst (λ p. StandsAt code.lines seen p ((orders plan code table tasks barriers seen sound fits ways).takes a.alternative t.control) t.own.display t.own.opened) (sym none)
          (part_goes code table tasks barriers seen sound fits ways t.control.place t.control.returns t.own.display t.own.opened (end_at code t.control.place) s a.alternative (Accept a.entry a.region, (line, tt))))
          (follows plan (on_call id (λ (x : Call). record x { state = Selected }) c) n t.own (runs t.own) (same_side t.own running) (λ r e. let wrong : None ≡ Some r = sym still ∙ e in absurd cc) (like_frames plan (on_call id (λ (x : Call). record x { state = Selected }) c) n t.own.opened))
          (λ u h. moved_kept code sound plan (takes_part a.alternative here) u.control h) chosen_good
        where
          same_side : (own : Own) → own.status ≡ Running → side (runs own) ≡ side own
          same_side own e = ap (λ st. record (side own) { status = st }) (sym e)

      live : is_call_over (call_of id (on_call id (λ (x : Call). record x { state = Selected }) c)).state ≡ false
      live = ap is_call_over (now_selected id c.shared.calls queued)

      caller_same : (call_of id (on_call id (λ (x : Call). record x { state = Selected }) c)).caller ≡ (call_of id c).caller
      caller_same = field_same (λ (x : Call). x.caller) id id (λ x. record x { state = Selected }) c.shared.calls (λ x. refl)

      free : IsUnserved id met
      free m alive =
          changed_own (λ i own. is_over own.status ≡ false → contains id (served_by own) ≡ false) n step c.tasks
          (λ u e h goes. h (ap is_over (ap (λ (o : Own). o.status) (sym (own_got n c.tasks u e)) ∙ (ap (λ (o : Own). o.status) (own_got n c.tasks t is) ∙ running)))) m
          (λ goes. unserved_queued plan c m id (own_of m c) queued (w.framed.serves m goes)) alive

      caller_waits : (own_of (call_of id c).caller c).status ≡ Calling
      caller_waits = task_caller n (own_of (call_of id c).caller c) (subst (λ o. Waits o (own_of (call_of id c).caller c)) its (w.framed.calls id (ap is_call_over queued)).1)

      waiting : (own_of (call_of id met).caller met).status ≡ Calling
      waiting =
          subst (λ k. (own_of k met).status ≡ Calling) (sym caller_same)
          (changed_own (λ i own. own.status ≡ Calling) n step c.tasks
          (λ u e h. let wrong : Running ≡ Calling = sym running ∙ (ap (λ (o : Own). o.status) (sym (own_got n c.tasks t is) ∙ own_got n c.tasks u e) ∙ h) in absurd cc) (call_of id c).caller caller_waits)

  -- the oldest call that is queued
  pub accepts_oldest : (a : OpenAccept) (n : ℕ) (c : All Spot) (t : TaskAt Spot) (x : Waiting) (xs : List Waiting) → Kept c → slice_get c.tasks n ≡ Some t → t.own.status ≡ Running → t.own.pending ≡ None → t.own.again ≡ None → is_of_object plan a.entry ≡ false → (end_at code t.control.place).last ≡ Does (Accept a.entry a.region) → a.region ≡ None → queue n a.entry c.shared.calls ≡ x ∷ xs → Kept (effect.accepts_call (orders plan code table tasks barriers seen sound fits ways) plan (flat_controls plan code).barrier a n c)
  accepts_oldest a n c t x xs w is running none still its line nothing some =
      let q = first_in n a.entry c x xs some in
      subst (λ ws. Kept (effect.accepts_oldest (orders plan code table tasks barriers seen sound fits ways) plan (flat_controls plan code).barrier a ws n c)) (sym some)
      (accepts_at_once a x.call n c t w is running none still line nothing q.queued
      (its_task plan c n a.entry (call_of x.call c).owner (subst (λ k. IsEntryOf plan c (call_of x.call c).owner k) q.entry_is (w.framed.queued x.call q.queued)) its q.owner_is))
