-- Where a call is made again, blocks alone are left until then.
use Rattle.std.proofs.Common.{◌≡◌, ◌⊎◌, ℕ, zero, suc, List, [], ◌∷◌, length, Option, Some, None, Bool, true, false, refl, sym, ap, ◌∙◌, subst, inl, inr, nat_eq, slice_get}
use Rattle.std.proofs.lemmas.Bool.{eqb-true, eq-eqb, false≢true, true≢false}
use Rattle.aud_text.specs.declared.limits.Limits.{Limits}
use Rattle.aud_typed.specs.Tree.{Plan}
use Rattle.aud_meaning.specs.declared.state.Again.{Again}
use Rattle.aud_meaning.specs.declared.state.Construct.TheVariants as construct
use Rattle.aud_meaning.specs.declared.state.Move.{Move}
use Rattle.aud_meaning.specs.declared.state.Owner.{Owner}
use Rattle.aud_meaning.specs.declared.state.Pending.{Pending}
use Rattle.aud_meaning.specs.declared.state.Status.{Status}
use Rattle.aud_meaning.specs.declared.state.Status.TheVariants.{Created, Running, Activating, Accepting, Delaying, Calling, Completed, Terminated}
use Rattle.aud_meaning.specs.Configuration.{Purpose, for_body, for_block, for_loop, for_procedure, for_operation, for_entry, for_accept, Opened, Own, TaskAt, All, Acting}
use Rattle.aud_meaning.specs.Control.{Asked, Coming, Seen, requeues}
use Rattle.aud_meaning.specs.Effects.{closed, is_loop, out_of, out_of_loops}
use Rattle.aud_meaning.specs.Orders.{Orders, carried_out}
use Rattle.aud_meaning.specs.Parts.{alone_by, call_of, changed, is_over, on_own, on_task, own_of, owns}
use Rattle.aud_meaning.specs.Run.{Turn, resting, closing, completing, withdrawing, serving, restarting, expiring, cancelling, scene_of, seen, step_of, step_with, turn, turn_at, turn_taken}
use Rattle.aud_meaning.specs.Run as run
use Rattle.aud_meaning.specs.Statements.{handled_or_left}
use Rattle.aud_meaning.specs.Step as step
use Rattle.aud_meaning.specs.Step.{done, leaves}
use Rattle.aud_meaning.specs.Tasks as effect
use Rattle.aud_meaning.specs.Why.Carried.{carried_by}
use Rattle.aud_meaning.proofs.Carrying.{carried_law}
use Rattle.aud_meaning.proofs.Limits.Frames.{nth}
use Rattle.aud_code.specs.Places.{Spot, Way, goes_way, is_there, loops_of}
use Rattle.aud_code.specs.Eval.{eval}
use Rattle.aud_code.specs.Instruction.{no_operands}
use Rattle.aud_code.specs.Flat.{EndLine, Ends, Flat, Last, Leaves, asked_at, asked_last, end_at, ended_in, flat_controls, handler_at, instructions_at}
use Rattle.aud_code.specs.Frames.{found, Found, AcceptAround, LastFits, OpensAccept}
use Rattle.aud_code.specs.Seen.{IsSeen}
use Rattle.aud_code.specs.Sound.{Counts, IsSound, IsStart}
use Rattle.aud_over.specs.Over.{is_call_over}
use Rattle.aud_framed.specs.Held.{Holds, IsOpenAt, OpenedBy}
use Rattle.aud_framed.specs.Calls.{AgainFits, Serves, ServesIn, Waits, WithinEntry}
use Rattle.aud_framed.specs.OfTasks.{IsOfTasks, LastOfTasks, LeavesAccept, WayLeaves, at_end, of_block}
use Rattle.aud_framed.specs.Stepping.{HasWays, IsKept}
use Rattle.aud_framed.specs.Ways.{LeavesBlock, StandsAtStep}
use Rattle.aud_framed.proofs.Blocks.{leaves_framed}
use Rattle.aud_framed.proofs.Steps.{here, led}
use Rattle.aud_framed.proofs.Running.Closed.{WakesUp, closed_again, closed_pending, closed_status, got_back, loops_again, loops_pending, loops_status, out_again, out_pending, out_status}
use Rattle.aud_framed.proofs.Running.Done.{with_again}
use Rattle.aud_framed.proofs.Running.Effects.{accept_keeps, closes_keep, master_keeps, withdraws_keep}
use Rattle.aud_framed.proofs.Running.Ended.{Anyone}
use Rattle.aud_framed.proofs.Running.Meeting.{changes_nowhere, line_fine, opened_accept}
use Rattle.aud_framed.proofs.Running.Requeued.{RequeuesBy, requeued}
use Rattle.aud_framed.proofs.Running.Staying.{MakesNone, NoObjects, Other, Stays, changed_stays, none_closed, none_own, other_stays, stays_closed}
use Rattle.aud_framed.proofs.Running.Steps.{asked, ends_task, step_keeps}
use Rattle.aud_framed.proofs.Running.Turns.{IsUnderWay, Tells, seen_own, turn_tells}
use Rattle.aud_framed.proofs.Stepping.Blocks.{own_changed}
use Rattle.aud_framed.proofs.Stepping.Leaving.{got_changed}
use Rattle.aud_framed.proofs.Stepping.Lone.{at_step}
use Rattle.aud_framed.proofs.Stepping.Parts.{own_got, same_task}
use Rattle.aud_framed.proofs.Stepping.Tasks.{no_loops}

-- Which turn it is, and what is asked.

abbrev is_requeue : Asked → Bool
is_requeue (requeues loops r) = true
is_requeue a = false

requeue_is : (a : Asked) → is_requeue a ≡ true → (loops : ℕ) × (r : Again) × (a ≡ requeues loops r)
requeue_is (requeues loops r) h = (loops, r, refl)
requeue_is a h = absurd (false≢true h)

abbrev is_acting : Turn → Bool
is_acting (run.acting y) = true
is_acting u = false

acting_is : (u : Turn) → is_acting u ≡ true → (y : Coming) × (u ≡ run.acting y)
acting_is (run.acting y) h = (y, refl)
acting_is u h = absurd (false≢true h)

-- Who is over, or runs, is woken up by nobody.

over_sleeps : (s : Status) → is_over s ≡ true → WakesUp s → ⊥
over_sleeps Created h w = false≢true h
over_sleeps Running h w = false≢true h
over_sleeps Activating h w = false≢true h
over_sleeps Accepting h w = false≢true h
over_sleeps Delaying h w = false≢true h
over_sleeps Calling h w = false≢true h
over_sleeps Completed h w = w
over_sleeps Terminated h w = w

running_sleeps : (s : Status) → s ≡ Running → WakesUp s → ⊥
running_sleeps s e w = subst WakesUp e w

-- with no objects nobody does an entry's body
within_none : (plan : Plan) (c : All Spot) (n : ℕ) (o : Owner) (os : List Opened) → NoObjects c → ServesIn plan c n os → WithinEntry o os → ⊥
within_none plan c n o [] none s h = h
within_none plan c n o (x ∷ xs) none s h = by x.purpose s h (within_none plan c n o xs none)
  where
    by : (p : Purpose) → ServesIn plan c n (record x { purpose = p } ∷ xs) → WithinEntry o (record x { purpose = p } ∷ xs) → (ServesIn plan c n xs → WithinEntry o xs → ⊥) → ⊥
    by for_body s h on = on s.1 h
    by for_block s h on = on s.1 h
    by for_loop s h on = on s.1 h
    by (for_procedure r) s h on = on s.1 h
    by (for_operation i r) s h on = on s.1 h
    by (for_entry i id served back) s (inl h) on = changes_nowhere n i c.shared.objects none s.0.1.0
    by (for_entry i id served back) s (inr h) on = on s.1 h
    by (for_accept id) s h on = on s.1 h

waits_alive : (o : Owner) (own : Own) → Waits o own → is_over own.status ≡ false
waits_alive o own (inl e) = ap is_over e
waits_alive o own (inr (inl e, h)) = ap is_over e
waits_alive o own (inr (inr e, h)) = ap is_over e

again_there : (k : ℕ) (ts : List (TaskAt Spot)) (r : Again) → (nth k ts).again ≡ Some r → (t : TaskAt Spot) × (slice_get ts k ≡ Some t) × (nth k ts ≡ t.own)
again_there k [] r e = absurd cc
again_there zero (t ∷ ts) r e = (t, refl, refl)
again_there (suc k) (t ∷ ts) r e = again_there k ts r e

none_so : (n : ℕ) (d : All Spot) → MakesNone n (on_own n (λ own. record (closed own) { again = None }) d)
none_so n d = by n d.tasks
  where
    by : (n : ℕ) (ts : List (TaskAt Spot)) → (nth n (changed n (λ (u : TaskAt Spot). record u { own = record (closed u.own) { again = None } }) ts)).again ≡ None
    by n [] = refl
    by zero (t ∷ ts) = refl
    by (suc n) (t ∷ ts) = by n ts

-- What is kept of a task that makes a call again.
abbrev pub LeavesSo : Flat → TaskAt Spot → Type 0
LeavesSo code t = (r : Again) → t.own.again ≡ Some r → (t.own.pending ≡ None) × LeavesAccept code t.control.place

abbrev pub LeavesAt : Flat → ℕ → All Spot → Type 0
LeavesAt code k c = (t : TaskAt Spot) → slice_get c.tasks k ≡ Some t → LeavesSo code t

stays_leave : (code : Flat) (k : ℕ) (t : TaskAt Spot) (c : All Spot) → LeavesAccept code t.control.place → Stays k t c → LeavesAt code k c
stays_leave code k t c leaves h u e r q =
    let same : h.task ≡ u = same_task k c.tasks h.task u h.there e in
    (subst (λ (x : TaskAt Spot). x.own.pending ≡ None) same h.same.pending, subst (λ (x : TaskAt Spot). LeavesAccept code x.control.place) same (subst (λ s. LeavesAccept code s.place) (sym h.same.control) leaves))

none_leave : (code : Flat) (k : ℕ) (c : All Spot) → MakesNone k c → LeavesAt code k c
none_leave code k c none u e r q = let wrong : None ≡ Some r = sym none ∙ (ap (λ (o : Own). o.again) (own_got k c.tasks u e) ∙ q) in absurd cc

module _ (plan : Plan) (code : Flat) (table : List Counts) (tasks barriers seen_many : List ℕ) (sound : IsSound code) (fits : IsSeen code table tasks barriers seen_many) (ways : HasWays code) (of_tasks : IsOfTasks plan code) (limits : Limits) (m : Move) (c : All Spot) (w : IsKept plan code seen_many c) (none : NoObjects c) (leave : (k : ℕ) → LeavesAt code k c) where
  abbrev go : Orders Spot
  go = carried_out (flat_controls plan code)

  abbrev after : All Spot
  after = step_with plan (flat_controls plan code) limits c m

  -- One that makes a call again waits for nobody.
  module _ (k : ℕ) (t : TaskAt Spot) (r : Again) (is : slice_get c.tasks k ≡ Some t) (makes : t.own.again ≡ Some r) where
    serves : is_over t.own.status ≡ false → Serves plan c k t.own
    serves alive = subst (λ o. Serves plan c k o) (own_got k c.tasks t is) (w.framed.serves k (ap (λ (o : Own). is_over o.status) (own_got k c.tasks t is) ∙ alive))

    fits_again : is_over t.own.status ≡ false → AgainFits plan c r t.own
    fits_again alive = (serves alive).again r makes

    sleeps : WakesUp t.own.status → ⊥
    sleeps = by (is_over t.own.status) refl
      where
        by : (b : Bool) → is_over t.own.status ≡ b → WakesUp t.own.status → ⊥
        by true e = over_sleeps t.own.status e
        by false e = running_sleeps t.own.status (fits_again e).1.0

    free : (id : ℕ) → is_call_over (call_of id c).state ≡ false → ¬ ((call_of id c).caller ≡ k)
    free id live is_k =
        let own_is : own_of (call_of id c).caller c ≡ t.own = ap (λ j. own_of j c) is_k ∙ own_got k c.tasks t is in
        let waits : Waits (call_of id c).owner t.own = subst (Waits (call_of id c).owner) own_is (w.framed.calls id live).1 in
        let alive = waits_alive (call_of id c).owner t.own waits in
        by alive waits
      where
        by : is_over t.own.status ≡ false → Waits (call_of id c).owner t.own → ⊥
        by alive (inl e) = let wrong : Running ≡ Calling = sym (fits_again alive).1.0 ∙ e in absurd cc
        by alive (inr h) = within_none plan c k (call_of id c).owner t.own.opened none (serves alive).opened h.1

    pub stays_now : Stays k t c
    stays_now = record { task = t; there = is; same = record { control = refl; pending = (leave k t is r makes).0; again = refl; sleeps = sleeps }; calls = free }

  -- The others.

  abbrev pub makes_again : ℕ → Again → All Spot → All Spot
  makes_again loops r d = with_again go plan (flat_controls plan code).barrier loops r m.task d

  made_none : (k loops : ℕ) (r : Again) (d : All Spot) → ¬ (m.task ≡ k) → MakesNone k d → MakesNone k (makes_again loops r d)
  made_none k loops r d differs h = by (slice_get d.tasks m.task)
    where
      f : Acting Spot → Acting Spot
      f u = step.out_of_loops go plan (flat_controls plan code).barrier loops (step.requeued go plan (flat_controls plan code).barrier r u)

      by : (o : Option (TaskAt Spot)) → MakesNone k (alone_by (λ u. step.out_of_loops go plan (flat_controls plan code).barrier loops (step.requeued go plan (flat_controls plan code).barrier r u)) o m.task d)
      by None = h
      by (Some x) = none_own k m.task _ d (λ y. inl differs) h

  other_none : (k : ℕ) → ¬ (m.task ≡ k) → MakesNone k c → MakesNone k after
  other_none k differs h =
      step_keeps plan code table tasks barriers seen_many sound fits ways limits m c w Anyone (MakesNone k) (none_closed k) tt h (λ t is. record {
        complete = λ u d raised opened q. none_own k m.task _ d (λ y. inr refl) q;
        object = λ running at declaration cells e. h;
        again = λ y u running loops r e. made_none k loops r _ differs h;
      })

  made_stays : (k loops : ℕ) (r : Again) (t : TaskAt Spot) (d : All Spot) → ¬ (m.task ≡ k) → Stays k t d → Stays k t (makes_again loops r d)
  made_stays k loops r t d differs h = by (slice_get d.tasks m.task)
    where
      by : (o : Option (TaskAt Spot)) → Stays k t (alone_by (λ u. step.out_of_loops go plan (flat_controls plan code).barrier loops (step.requeued go plan (flat_controls plan code).barrier r u)) o m.task d)
      by None = h
      by (Some x) = let y = other_stays k t m.task (λ old. record { control = go.out x.control; own = out_of loops (record x.own { again = Some r }) }) d differs h in record { task = y.task; there = y.there; same = y.same; calls = y.calls }

  like_stays : (k : ℕ) (t : TaskAt Spot) (d e : All Spot) → d.tasks ≡ e.tasks → d.shared.calls ≡ e.shared.calls → Stays k t d → Stays k t e
  like_stays k t d e same calls h =
      record { task = h.task; there = subst (λ ts. slice_get ts k ≡ Some h.task) same h.there; same = h.same; calls = subst (λ cs. (id : ℕ) → is_call_over (call_of id (record e { shared = record e.shared { calls = cs } })).state ≡ false → ¬ ((call_of id (record e { shared = record e.shared { calls = cs } })).caller ≡ k)) calls h.calls }

  other_stays_so : (k : ℕ) (t : TaskAt Spot) → ¬ (m.task ≡ k) → Stays k t c → Stays k t after
  other_stays_so k t differs h =
      step_keeps plan code table tasks barriers seen_many sound fits ways limits m c w (Other k) (Stays k t) (stays_closed k t) differs h (λ u is. record {
        complete = λ v d raised opened q. other_stays k t m.task _ d differs q;
        object = λ running at declaration cells e. like_stays k t c _ refl refl h;
        again = λ y v running loops r e. made_stays k loops r t _ differs (like_stays k t c _ refl refl h);
      })

  others_leave : (k : ℕ) → ¬ (m.task ≡ k) → LeavesAt code k after
  others_leave k differs = by (own_of k c).again refl
    where
      by : (o : Option Again) → (own_of k c).again ≡ o → LeavesAt code k after
      by None e = none_leave code k after (other_none k differs e)
      by (Some r) e =
          let x = again_there k c.tasks r e in
          let makes : x.0.own.again ≡ Some r = ap (λ (o : Own). o.again) (sym x.2) ∙ e in
          stays_leave code k x.0 after (leave k x.0 x.1 r makes).1 (other_stays_so k x.0 differs (stays_now k x.0 r x.1 makes))

  -- The task that takes the step.

  module _ (t : TaskAt Spot) (is : slice_get c.tasks m.task ≡ Some t) where
    abbrev now : Asked
    now = asked plan code table tasks barriers seen_many sound fits ways limits m c w t is

    abbrev then : All Spot
    then = record c { steps = suc c.steps }

    abbrev its_turn : Turn
    its_turn = turn_at plan (flat_controls plan code).barrier (slice_get (seen plan (flat_controls plan code) c).tasks m.task) m.task (seen plan (flat_controls plan code) c)

    abbrev taken : Turn → Asked → All Spot
    taken u a = turn_taken go plan (flat_controls plan code).barrier limits u a m then

    -- the step is what its turn does
    as_taken : (P : All Spot → Type 0) → P (taken its_turn now) → P after
    as_taken P h = subst P (sym (carried_law plan (flat_controls plan code) limits c m)) (subst (λ o. P (carried_by plan (flat_controls plan code) limits o m c)) (sym is) h)

    -- One that made no call again does so from now on, or makes none.

    still_none : (is_requeue now ≡ false) ⊎ (is_acting its_turn ≡ false) → MakesNone m.task c → MakesNone m.task after
    still_none other h =
        step_keeps plan code table tasks barriers seen_many sound fits ways limits m c w Anyone (MakesNone m.task) (none_closed m.task) tt h (λ u d. record {
          complete = λ v e raised opened q. none_own m.task m.task _ e (λ y. inr refl) q;
          object = λ running at declaration cells e. h;
          again = λ y v running loops r e. absurd (by u d y v loops r e other);
        })
      where
        by : (u : TaskAt Spot) (d : slice_get c.tasks m.task ≡ Some u) (y : Coming) → its_turn ≡ run.acting y → (loops : ℕ) (r : Again) → asked plan code table tasks barriers seen_many sound fits ways limits m c w u d ≡ requeues loops r → (is_requeue now ≡ false) ⊎ (is_acting its_turn ≡ false) → ⊥
        by u d y v loops r e (inl lacks) = true≢false (sym (ap is_requeue (subst (λ x. asked_at code x.own.pending (scene_of plan (flat_controls plan code) m.task c) x.control ≡ requeues loops r) (same_task m.task c.tasks u t d is) e)) ∙ lacks)
        by u d y v loops r e (inr lacks) = true≢false (sym (ap is_acting v) ∙ lacks)

    -- out to where what the accept does is left
    way_leaves : (way : Option Way) → WayLeaves code way → LeavesAccept code (goes_way way t.control).place
    way_leaves None h = absurd h
    way_leaves (Some x) h = h

    requeue_leaves : (loops : ℕ) (r : Again) → now ≡ requeues loops r → (t.own.pending ≡ None) × LeavesAccept code (go.out t.control).place
    requeue_leaves loops r e = by t.own.pending refl e
      where
        raised : (p : Pending) (b : Bool) → handled_or_left b p ≡ requeues loops r → ⊥
        raised p true q = absurd cc
        raised p false q = absurd cc

        by : (p : Option Pending) → t.own.pending ≡ p → asked_at code p (scene_of plan (flat_controls plan code) m.task c) t.control ≡ requeues loops r → (p ≡ None) × LeavesAccept code (go.out t.control).place
        by (Some p) q e = absurd (raised p (is_there (handler_at code p.exception t.control)) e)
        by None q e = (refl, of (subst (RequeuesBy (end_at code t.control.place).last) e (requeued code (scene_of plan (flat_controls plan code) m.task c) t.control)))
          where
            of : RequeuesBy (end_at code t.control.place).last (requeues loops r) → LeavesAccept code (go.out t.control).place
            of (inl k) = way_leaves (end_at code t.control.place).exit (subst (LastOfTasks code (end_at code t.control.place)) k.2.2.0 (line_fine plan code of_tasks t.control.place)).1
            of (inr k) = absurd (subst (LastOfTasks code (end_at code t.control.place)) k.1.1.2 (line_fine plan code of_tasks t.control.place))

    made_leaves : (loops : ℕ) (r : Again) → now ≡ requeues loops r → LeavesAt code m.task (makes_again loops r then)
    made_leaves loops r e = subst (λ o. LeavesAt code m.task (alone_by (λ u. step.out_of_loops go plan (flat_controls plan code).barrier loops (step.requeued go plan (flat_controls plan code).barrier r u)) o m.task then)) (sym is) at
      where
        at : LeavesAt code m.task (alone_by (λ u. step.out_of_loops go plan (flat_controls plan code).barrier loops (step.requeued go plan (flat_controls plan code).barrier r u)) (Some t) m.task then)
        at u g x q =
            let b = got_back m.task (λ old. record { control = go.out t.control; own = out_of loops (record t.own { again = Some r }) }) c.tasks u g in
            let k = requeue_leaves loops r e in
            (ap (λ (y : TaskAt Spot). y.own.pending) b.2 ∙ (out_pending loops (record t.own { again = Some r }) ∙ k.0), subst (λ (y : TaskAt Spot). LeavesAccept code y.control.place) (sym b.2) k.1)

    none_before : MakesNone m.task c → LeavesAt code m.task after
    none_before h = by (is_requeue now) refl (is_acting its_turn) refl
      where
        by : (a : Bool) → is_requeue now ≡ a → (b : Bool) → is_acting its_turn ≡ b → LeavesAt code m.task after
        by false e b q = none_leave code m.task after (still_none (inl e) h)
        by true e false q = none_leave code m.task after (still_none (inr q) h)
        by true e true q =
            let x = requeue_is now e in
            let y = acting_is its_turn q in
            as_taken (LeavesAt code m.task)
            (subst (λ u. LeavesAt code m.task (taken u now)) (sym y.1)
            (subst (λ a. LeavesAt code m.task (taken (run.acting y.0) a)) (sym x.2) (made_leaves x.0 x.1 x.2)))

    -- One that made a call again leaves blocks, and then what the accept does.

    module _ (r : Again) (makes : t.own.again ≡ Some r) where
      abbrev leaving : LeavesAccept code t.control.place
      leaving = (leave m.task t is r makes).1

      pending_none : t.own.pending ≡ None
      pending_none = (leave m.task t is r makes).0

      runs_again : is_over t.own.status ≡ false → AgainFits plan c r t.own
      runs_again alive = fits_again m.task t r is makes alive

      stays_then : Stays m.task t then
      stays_then = like_stays m.task t c then refl refl (stays_now m.task t r is makes)

      stays_still : (d : All Spot) → Stays m.task t d → LeavesAt code m.task d
      stays_still d h = stays_leave code m.task t d (leave m.task t is r makes).1 h

      not_over : IsUnderWay t.own.status → is_over t.own.status ≡ false
      not_over u = by t.own.status u
        where
          by : (s : Status) → IsUnderWay s → is_over s ≡ false
          by Created u = absurd u
          by Running u = refl
          by Activating u = refl
          by Accepting u = refl
          by Delaying u = refl
          by Calling u = refl
          by Completed u = absurd u
          by Terminated u = absurd u

      -- where a construct is left
      abbrev behind : TaskAt Spot → TaskAt Spot
      behind u = record u { control = go.behind u.control; own = record u.own { pending = None } }

      abbrev start : All Spot
      start = on_task m.task behind then

      abbrev gone : TaskAt Spot
      gone = record { control = go.behind t.control; own = record t.own { pending = None } }

      start_is : own_of m.task start ≡ gone.own
      start_is = own_changed m.task behind c.tasks t is

      module _ (running : t.own.status ≡ Running) where
        at_its_step : StandsAtStep code seen_many t.control.place (end_at code t.control.place) t.control.returns t.own.display t.own.opened
        at_its_step = at_step plan code seen_many m.task c t w.spots is running pending_none w.framed

        start_stays : Stays m.task gone start
        start_stays =
            let h = stays_now m.task t r is makes in
            record { task = gone; there = got_changed m.task behind c.tasks t is; same = record { control = refl; pending = refl; again = refl; sleeps = running_sleeps t.own.status running }; calls = h.calls }

        frames_stay : (f : Own → Own) (d : All Spot) → ((o : Own) → ((f o).pending ≡ o.pending) × ((f o).again ≡ o.again) × ((f o).status ≡ o.status)) → Stays m.task gone d → Stays m.task gone (on_own m.task f d)
        frames_stay f d same h =
            changed_stays m.task gone m.task (λ u. record u { own = f u.own }) d
            (λ u s. record { control = s.control; pending = (same u.own).0 ∙ s.pending; again = (same u.own).1 ∙ s.again; sleeps = λ x. s.sleeps (subst WakesUp (same u.own).2 x) }) h

        loops_stay : (d : All Spot) → Stays m.task gone d → Stays m.task gone (on_own m.task out_of_loops d)
        loops_stay d h = frames_stay out_of_loops d (λ o. (loops_pending o.opened o, loops_again o.opened o, loops_status o.opened o)) h

        closed_stay : (d : All Spot) → Stays m.task gone d → Stays m.task gone (on_own m.task closed d)
        closed_stay d h = frames_stay closed d (λ o. (closed_pending o.opened o, closed_again o.opened o, closed_status o.opened o)) h

        out_stay : (loops : ℕ) (d : All Spot) → Stays m.task gone d → Stays m.task gone (on_own m.task (out_of loops) d)
        out_stay loops d h = frames_stay (out_of loops) d (λ o. (out_pending loops o, out_again loops o, out_status loops o)) h

        -- the innermost construct, which is no loop
        abbrev ended_by : Option ℕ → List Opened → All Spot
        ended_by alternative os = effect.at_end_of go plan (flat_controls plan code).barrier alternative os None m.task start

        left_so : (P : All Spot → Type 0) (alternative : Option ℕ) (o : Opened) (os : List Opened) → t.own.opened ≡ o ∷ os → is_loop o.purpose ≡ false → P (effect.at_end_by go plan (flat_controls plan code).barrier alternative o.purpose None o m.task start) → P (leaves go plan (flat_controls plan code).barrier alternative None go.behind m.task then)
        left_so P alternative o os opened inner h =
            subst (λ (x : Own). P (ended_by alternative (out_of_loops x).opened)) (sym start_is)
            (subst (λ ps. P (ended_by alternative ps)) (sym (ap (λ (x : Own). x.opened) (no_loops gone.own o os opened inner) ∙ opened)) h)

        block_leaves : (alternative : Option ℕ) (loops next : ℕ) → (end_at code t.control.place).last ≡ Leaves loops next → LeavesAccept code next → LeavesAt code m.task (on_own m.task (out_of loops) (leaves go plan (flat_controls plan code).barrier alternative None go.behind m.task then))
        block_leaves alternative loops next e more =
            let left : LeavesBlock code seen_many loops next t.control.returns t.own =
            leaves_framed code table tasks barriers seen_many sound fits t.control.place loops next t.control.returns t.own (end_at code t.control.place) at_its_step e in
            let to : LeavesAccept code (go.behind t.control).place = subst (λ last. LeavesAccept code (ended_in code last t.control).place) (sym e) more in
            let block : Stays m.task gone (effect.at_end_by go plan (flat_controls plan code).barrier alternative for_block None left.o m.task start) =
            master_keeps go plan (flat_controls plan code).barrier (Other m.task) (Stays m.task gone) (stays_closed m.task gone) left.o.frame (on_own m.task closed (on_own m.task out_of_loops start))
            (closed_stay (on_own m.task out_of_loops start) (loops_stay start start_stays)) in
            let d : All Spot = leaves go plan (flat_controls plan code).barrier alternative None go.behind m.task then in
            let h : Stays m.task gone d =
            left_so (Stays m.task gone) alternative left.o left.os left.opened (ap is_loop left.block)
            (subst (λ p. Stays m.task gone (effect.at_end_by go plan (flat_controls plan code).barrier alternative p None left.o m.task start)) (sym left.block) block) in
            stays_leave code m.task gone (on_own m.task (out_of loops) d) to (out_stay loops d h)

        -- the frame of what the accept does
        accept_frame : (v : Option ℕ) (os : List Opened) (around : Option ℕ → Type 0) → AcceptAround code.lines v around → Holds code.lines seen_many v t.control.returns os → (o : Opened) × (ps : List Opened) × (id : ℕ) × ((os ≡ o ∷ ps) × (o.purpose ≡ for_accept id))
        accept_frame v [] around a h = absurd h
        accept_frame None (o ∷ os) around a h = absurd a
        accept_frame (Some i) (o ∷ os) around a h = by (found code.lines i) a h
          where
            by : (x : Option EndLine) → Found x (λ l. OpensAccept l.last × around l.within) → Found x (λ l. OpenedBy l.last o.purpose × (IsOpenAt code.lines seen_many i (length o.saved) × Holds code.lines seen_many l.within t.control.returns os × IsStart code.lines i)) → (p : Opened) × (ps : List Opened) × (id : ℕ) × ((o ∷ os ≡ p ∷ ps) × (p.purpose ≡ for_accept id))
            by None a h = absurd a
            by (Some l) a h = let k = opened_accept l.last o.purpose a.0 h.0 in (o, os, k.0, (refl, k.1))

        accept_leaves : (alternative : Option ℕ) (next : ℕ) → (end_at code t.control.place).last ≡ Ends construct.Accept next → LeavesAt code m.task (on_own m.task (out_of 0) (leaves go plan (flat_controls plan code).barrier alternative None go.behind m.task then))
        accept_leaves alternative next e =
            let l = end_at code t.control.place in
            let f =
            accept_frame l.within t.own.opened _ (subst (λ last. LastFits code.lines last t.control.place l) e (led code table tasks barriers seen_many sound fits t.control.place t.control.returns t.own.display t.own.opened l at_its_step))
            (here code table tasks barriers seen_many sound fits t.control.place t.control.returns t.own.display t.own.opened l at_its_step).1 in
            let g : Own → Own = (λ own. record (closed own) { again = None }) in
            let inner : All Spot = on_own m.task out_of_loops start in
            let d : All Spot = leaves go plan (flat_controls plan code).barrier alternative None go.behind m.task then in
            let ended : MakesNone m.task (effect.at_end_by go plan (flat_controls plan code).barrier alternative (for_accept f.2) None f.0 m.task start) =
            accept_keeps go plan (flat_controls plan code).barrier Anyone (MakesNone m.task) (none_closed m.task) alternative (own_of m.task inner).again (effect.present_values go plan (flat_controls plan code).barrier f.2 f.0.frame inner) f.2 m.task (on_own m.task g inner) tt
            (closed_none inner) in
            let h : MakesNone m.task d =
            left_so (MakesNone m.task) alternative f.0 f.1 f.3.0 (ap is_loop f.3.1) (subst (λ p. MakesNone m.task (effect.at_end_by go plan (flat_controls plan code).barrier alternative p None f.0 m.task start)) (sym f.3.1) ended) in
            none_leave code m.task (on_own m.task (out_of 0) d) (none_own m.task m.task (λ u. record u { own = out_of 0 u.own }) d (λ u. inr refl) h)
          where
            closed_none : (d : All Spot) → MakesNone m.task (on_own m.task (λ own. record (closed own) { again = None }) d)
            closed_none d = none_so m.task d

        abbrev asking : Last → Asked
        asking last = asked_last last (loops_of (end_at code t.control.place).exit) (end_at code t.control.place).at (scene_of plan (flat_controls plan code) m.task c) (eval false (scene_of plan (flat_controls plan code) m.task c) (instructions_at code t.control.place) 0 no_operands)

        acts_leave : (alternative : Option ℕ) → LeavesAt code m.task (done go plan (flat_controls plan code).barrier limits alternative now m.task then)
        acts_leave alternative = subst (λ p. LeavesAt code m.task (done go plan (flat_controls plan code).barrier limits alternative (asked_at code p (scene_of plan (flat_controls plan code) m.task c) t.control) m.task then)) (sym pending_none) (by t.control.place refl (leave m.task t is r makes).1)
          where
            by : (place : ℕ) → t.control.place ≡ place → LeavesAccept code place → LeavesAt code m.task (done go plan (flat_controls plan code).barrier limits alternative (asked_at code None (scene_of plan (flat_controls plan code) m.task c) t.control) m.task then)
            by place q (at_end p next e) =
                let last : (end_at code t.control.place).last ≡ Ends construct.Accept next = ap (λ i. (end_at code i).last) q ∙ e in
                subst (λ x. LeavesAt code m.task (done go plan (flat_controls plan code).barrier limits alternative (asking x) m.task then)) (sym last) (accept_leaves alternative next last)
            by place q (of_block p loops next e more) =
                let last : (end_at code t.control.place).last ≡ Leaves loops next = ap (λ i. (end_at code i).last) q ∙ e in
                subst (λ x. LeavesAt code m.task (done go plan (flat_controls plan code).barrier limits alternative (asking x) m.task then)) (sym last) (block_leaves alternative loops next last more)

      abbrev Here : ℕ → Type 0
      Here = Other m.task

      turns_leave : (u : Turn) (x : TaskAt Seen) → x.own ≡ t.own → Tells plan (flat_controls plan code).barrier m.task x (seen plan (flat_controls plan code) c) u → LeavesAt code m.task (taken u now)
      turns_leave resting x own tells = stays_still then stays_then
      turns_leave closing x own tells = stays_still (taken closing now) (closes_keep go plan (flat_controls plan code).barrier (Other m.task) (Stays m.task t) (stays_closed m.task t) m.task then stays_then)
      turns_leave completing x own tells =
          stays_still (taken completing now)
          (ends_task plan code table tasks barriers seen_many sound fits ways limits m c w t is (Other m.task) (Stays m.task t) (stays_closed m.task t) (stays_now m.task t r is makes) (subst (λ (o : Own). IsUnderWay o.status) own tells)
          (λ v d raised opened h.
          changed_stays m.task t m.task _ d (λ u s. record { control = s.control; pending = refl; again = s.again; sleeps = λ y. y }) h) None then refl (ap (λ (o : Own). o.opened) (own_got m.task c.tasks t is)) stays_then)
      turns_leave (withdrawing i) x own tells = stays_still (taken (withdrawing i) now) (withdraws_keep go plan (flat_controls plan code).barrier (Other m.task) (Stays m.task t) (stays_closed m.task t) i m.task then stays_then)
      turns_leave (serving v) x own tells =
          let some : t.own.serving ≡ Some v = subst (λ (o : Own). o.serving ≡ Some v) own tells.0 in
          let none : t.own.serving ≡ None = (runs_again (not_over (subst (λ (o : Own). IsUnderWay o.status) own tells.1))).1.1.0 in
          let wrong : None ≡ Some v = sym none ∙ some in absurd cc
      turns_leave (restarting v) x own tells =
          let some : t.own.restart ≡ Some v = subst (λ (o : Own). o.restart ≡ Some v) own tells.0 in
          let none : t.own.restart ≡ None = (runs_again (ap is_over (subst (λ (o : Own). o.status ≡ Running) own tells.1))).1.1.1 in
          let wrong : None ≡ Some v = sym none ∙ some in absurd cc
      turns_leave (expiring ds) x own tells = absurd (by (subst (λ (o : Own). (o.status ≡ Accepting) ⊎ (o.status ≡ Delaying)) own tells))
        where
          by : (t.own.status ≡ Accepting) ⊎ (t.own.status ≡ Delaying) → ⊥
          by (inl e) = let wrong : Running ≡ Accepting = sym (runs_again (ap is_over e)).1.0 ∙ e in absurd cc
          by (inr e) = let wrong : Running ≡ Delaying = sym (runs_again (ap is_over e)).1.0 ∙ e in absurd cc
      turns_leave (cancelling id) x own tells =
          let e : t.own.status ≡ Calling = subst (λ (o : Own). o.status ≡ Calling) own tells in
          let wrong : Running ≡ Calling = sym (runs_again (ap is_over e)).1.0 ∙ e in absurd cc
      turns_leave (run.acting y) x own tells = acts_leave (subst (λ (o : Own). o.status ≡ Running) own tells) m.alternative

      some_before : LeavesAt code m.task after
      some_before = as_taken (LeavesAt code m.task) (by (slice_get (seen plan (flat_controls plan code) c).tasks m.task) refl)
        where
          by : (o : Option (TaskAt Seen)) → slice_get (seen plan (flat_controls plan code) c).tasks m.task ≡ o → LeavesAt code m.task (taken (turn_at plan (flat_controls plan code).barrier o m.task (seen plan (flat_controls plan code) c)) now)
          by None e = stays_still then stays_then
          by (Some x) e =
              turns_leave (turn plan (flat_controls plan code).barrier m.task x (seen plan (flat_controls plan code) c)) x
              (seen_own plan (flat_controls plan code) m.task 0 c.tasks (owns c.tasks) c.shared x t e is)
              (turn_tells plan (flat_controls plan code).barrier m.task x (seen plan (flat_controls plan code) c) x.own.status refl)

    pub mover_leaves : LeavesAt code m.task after
    mover_leaves = by t.own.again refl
      where
        by : (o : Option Again) → t.own.again ≡ o → LeavesAt code m.task after
        by None e = none_before (ap (λ (o : Own). o.again) (own_got m.task c.tasks t is) ∙ e)
        by (Some r) e = some_before r e

  -- all of them
  pub all_leave : (k : ℕ) → LeavesAt code k after
  all_leave k = by (nat_eq m.task k) refl
    where
      its : (o : Option (TaskAt Spot)) → slice_get c.tasks m.task ≡ o → LeavesAt code m.task after
      its None e = subst (λ o. LeavesAt code m.task (step_of plan (flat_controls plan code) limits o m c)) (sym e) (leave m.task)
      its (Some t) e = mover_leaves t e

      by : (b : Bool) → nat_eq m.task k ≡ b → LeavesAt code k after
      by true e = subst (λ j. LeavesAt code j after) (eqb-true m.task k e) (its (slice_get c.tasks m.task) refl)
      by false e = others_leave k (λ same. true≢false (sym (eq-eqb m.task k same) ∙ e))
