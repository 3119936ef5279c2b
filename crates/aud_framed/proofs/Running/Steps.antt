-- What a step keeps of all tasks.
use Rattle.std.proofs.Common.{◌≡◌, ℕ, zero, suc, ℤ, List, [], ◌∷◌, Option, Some, None, Bool, true, false, refl, sym, ap, ◌∙◌, subst, inl, inr, if◌then◌else◌, slice_get}
use Rattle.aud_text.specs.declared.limits.Limits.{Limits}
use Rattle.aud_text.specs.declared.place.Pos.{Pos}
use Rattle.aud_typed.specs.declared.program.Exception.{Exception}
use Rattle.aud_typed.specs.Tree.{Plan}
use Rattle.aud_meaning.specs.declared.state.Again.{Again}
use Rattle.aud_meaning.specs.declared.state.Move.{Move}
use Rattle.aud_meaning.specs.declared.state.Pending.{Pending}
use Rattle.aud_meaning.specs.declared.state.Restart.{Restart}
use Rattle.aud_meaning.specs.declared.state.Owner.{Owner}
use Rattle.aud_meaning.specs.declared.state.Owner.TheVariants as owner
use Rattle.aud_meaning.specs.declared.state.Status.{Status}
use Rattle.aud_meaning.specs.declared.state.Status.TheVariants.{Created, Running, Activating, Accepting, Delaying, Calling, Completed, Terminated}
use Rattle.aud_meaning.specs.Configuration.{Purpose, for_body, for_block, for_loop, for_procedure, for_operation, for_entry, for_accept, Opened, Own, TaskAt, All}
use Rattle.aud_meaning.specs.Control.{Asked, Coming, Seen, declares_object, ends, requeues}
use Rattle.aud_meaning.specs.Effects.{is_loop, out_of, out_of_loops, out_of_loops_by}
use Rattle.aud_meaning.specs.Orders.{Orders, carried_out}
use Rattle.aud_meaning.specs.Parts.{call_of, exception_of, is_over, on_own, on_task, own_of, owns}
use Rattle.aud_meaning.specs.Run.{Turn, resting, closing, completing, withdrawing, serving, restarting, expiring, cancelling, acting, alternative_or_none, scene_of, seen, step_with, turn, turn_at, turn_taken}
use Rattle.aud_meaning.specs.Statements.{handled_or_left}
use Rattle.aud_meaning.specs.Step.{done, leaves}
use Rattle.aud_meaning.specs.Tasks as effect
use Rattle.aud_meaning.specs.Why.Carried.{carried_by}
use Rattle.aud_meaning.proofs.Carrying.{carried_law}
use Rattle.aud_code.specs.Places.{Spot, is_there, loops_of}
use Rattle.aud_code.specs.Flat.{Flat, asked_at, end_at, flat_controls, handler_at}
use Rattle.aud_code.specs.Seen.{IsSeen}
use Rattle.aud_code.specs.Sound.{Counts, IsSound}
use Rattle.aud_over.specs.Standing.{EachIs, LastIsMaster, bones}
use Rattle.aud_framed.specs.Held.{StandsAt}
use Rattle.aud_framed.specs.Calls.{IsServed, Serves, ServesIn}
use Rattle.aud_framed.specs.Stepping.{AskedBy, HasWays, IsKept}
use Rattle.aud_framed.specs.Ways.{LeavesBlock, StandsAtStep}
use Rattle.aud_framed.proofs.Blocks.{leaves_framed}
use Rattle.aud_framed.proofs.Fitting.{held_fits}
use Rattle.aud_framed.proofs.Running.Closed.{Closed, busy_then, goes, not_running, out_again, out_status, selected_live, still}
use Rattle.aud_framed.proofs.Running.Done.{done_keeps, with_again, with_object}
use Rattle.aud_framed.proofs.Running.Effects.{IfBody, LastLeads, Leads, accepts_of, at_end_keeps, call_expires_keeps, closes_keep, completed, completes_keeps, expires_keep, own_keeps, serves_keep, starts_keep, withdraws_keep}
use Rattle.aud_framed.proofs.Running.Ended.{Anyone, Keeps, ended_closed}
use Rattle.aud_framed.proofs.Running.Holding.{AllGo, BacksGo, holds_go, stands_holds, under_way_stands}
use Rattle.aud_framed.proofs.Running.Turns.{IsUnderWay, Tells, seen_own, turn_tells}
use Rattle.aud_framed.proofs.Stepping.Asked.{asks}
use Rattle.aud_framed.proofs.Stepping.Blocks.{own_changed}
use Rattle.aud_framed.proofs.Stepping.Lone.{at_step}
use Rattle.aud_framed.proofs.Stepping.Parts.{framed_at, own_got, same_task}
use Rattle.aud_framed.proofs.Stepping.Tasks.{no_loops}

-- the task of a number is not completed
abbrev IsNot : ℕ → ℕ → List Opened → Type 0
IsNot n m os = ¬ (m ≡ n)

module _ (plan : Plan) (code : Flat) (table : List Counts) (tasks barriers seen_many : List ℕ) (sound : IsSound code) (fits : IsSeen code table tasks barriers seen_many) (ways : HasWays code) (limits : Limits) (m : Move) (c : All Spot) (w : IsKept plan code seen_many c) where
  abbrev pub next : All Spot
  next = record c { steps = suc c.steps }

  abbrev go : Orders Spot
  go = carried_out (flat_controls plan code)

  module _ (t : TaskAt Spot) (is : slice_get c.tasks m.task ≡ Some t) where
    abbrev pub asked : Asked
    asked = asked_at code t.own.pending (scene_of plan (flat_controls plan code) m.task c) t.control

    stands : IsUnderWay t.own.status → StandsAt code.lines seen_many t.own.pending t.control t.own.display t.own.opened
    stands u = under_way_stands plan code seen_many t.own.status t u (framed_at plan code seen_many m.task c.tasks t is w.framed.tasks)

    pub last : IsUnderWay t.own.status → LastIsMaster (bones t.own.opened)
    last u = stands_holds code.lines seen_many (LastIsMaster (bones t.own.opened)) t.own.pending t.control t.own.display t.own.opened (λ v h. (held_fits code seen_many v t.control.returns t.own.opened h).last) (stands u)

    all_go : IsUnderWay t.own.status → AllGo t.own.opened
    all_go u = stands_holds code.lines seen_many (AllGo t.own.opened) t.own.pending t.control t.own.display t.own.opened (λ v h. holds_go code.lines seen_many v t.control.returns t.own.opened h) (stands u)

    serves : is_over t.own.status ≡ false → Serves plan c m.task t.own
    serves alive = subst (λ o. Serves plan c m.task o) (own_got m.task c.tasks t is) (w.framed.serves m.task (ap (λ (o : Own). is_over o.status) (own_got m.task c.tasks t is) ∙ alive))

    under_way_lives : IsUnderWay t.own.status → is_over t.own.status ≡ false
    under_way_lives u = by t.own.status u
      where
        by : (s : Status) → IsUnderWay s → is_over s ≡ false
        by Created u = absurd u
        by Running u = refl
        by Activating u = refl
        by Accepting u = refl
        by Delaying u = refl
        by Calling u = refl
        by Completed u = absurd u
        by Terminated u = absurd u

    abbrev plainly : Own → Own
    plainly own = record own { pending = None }

    abbrev start : (Spot → Spot) → All Spot
    start to = on_task m.task (λ (u : TaskAt Spot). record u { control = to u.control; own = record u.own { pending = None } }) next

    start_is : (to : Spot → Spot) → own_of m.task (start to) ≡ plainly t.own
    start_is to = own_changed m.task (λ (u : TaskAt Spot). record u { control = to u.control; own = record u.own { pending = None } }) c.tasks t is

    busy : t.own.status ≡ Running → (u : TaskAt Spot) → slice_get c.tasks m.task ≡ Some u → u.own.status ≡ Completed → ⊥
    busy running u e done = not_running (sym running ∙ (ap (λ (x : TaskAt Spot). x.own.status) (same_task m.task c.tasks t u is e) ∙ done))

    -- What is kept where the task leaves a construct.
    module _ (B : ℕ → Type 0) (P : All Spot → Type 0) (closes : Closed B P) (h : P c) where
      pub at_next : P next
      at_next = closes.rest c next refl refl refl h

      caller : (id : ℕ) (o : Owner) → IsServed plan c id o → B (call_of id c).caller
      caller id o s = closes.live id c h (selected_live (call_of id c).state s.0)

      leads : (os : List Opened) (own : Own) → own.opened ≡ os → AllGo os → ServesIn plan c m.task os → (d : All Spot) → d.shared ≡ c.shared → LastLeads go plan (flat_controls plan code).barrier B P closes d (out_of_loops_by os own).opened
      leads [] own e g s d same = subst (LastLeads go plan (flat_controls plan code).barrier B P closes d) (sym e) tt
      leads (o ∷ os) own e g s d same = by (is_loop o.purpose) (leads os (record own { display = o.saved; opened = os }) refl g.1 s.1 d same)
        where
          one : (p : Purpose) → BacksGo p → ServesIn plan c m.task (record o { purpose = p } ∷ os) → Leads go plan (flat_controls plan code).barrier B P closes d p
          one for_body k s = tt
          one for_block k s = tt
          one for_loop k s = tt
          one (for_procedure r) k s = tt
          one (for_operation i r) k s = tt
          one (for_entry i id served back) k s = (k, subst (λ x. B (call_of id (record c { shared = x })).caller) (sym same) (caller id (owner.Object i) s.0.0))
          one (for_accept id) k s = subst (λ x. B (call_of id (record c { shared = x })).caller) (sym same) (caller id (owner.Task m.task) s.0.0)

          by : (x : Bool) → LastLeads go plan (flat_controls plan code).barrier B P closes d (out_of_loops_by os (record own { display = o.saved; opened = os })).opened → LastLeads go plan (flat_controls plan code).barrier B P closes d (if x then out_of_loops_by os (record own { display = o.saved; opened = os }) else own).opened
          by true k = k
          by false k = subst (LastLeads go plan (flat_controls plan code).barrier B P closes d) (sym e) (one o.purpose g.0 s)

      accepts : (os : List Opened) → ServesIn plan c m.task os → EachIs (λ id. B (call_of id c).caller) (accepts_of go plan (flat_controls plan code).barrier B P closes os)
      accepts [] s = tt
      accepts (o ∷ os) s = by o.purpose s (accepts os s.1)
        where
          by : (p : Purpose) → ServesIn plan c m.task (record o { purpose = p } ∷ os) → EachIs (λ id. B (call_of id c).caller) (accepts_of go plan (flat_controls plan code).barrier B P closes os) → EachIs (λ id. B (call_of id c).caller) (accepts_of go plan (flat_controls plan code).barrier B P closes (record o { purpose = p } ∷ os))
          by for_body s k = k
          by for_block s k = k
          by for_loop s k = k
          by (for_procedure r) s k = k
          by (for_operation i r) s k = k
          by (for_entry i id served back) s k = k
          by (for_accept id) s k = (caller id (owner.Task m.task) s.0.0, k)

      -- it completes, and its frames stay
      abbrev pub Completes : Type 0
      Completes = IsUnderWay t.own.status → (d : All Spot) (raised : Option Exception) → (own_of m.task d).opened ≡ t.own.opened → P d → P (on_own m.task (completed go plan (flat_controls plan code).barrier B P closes raised) d)

      if_body : (os : List Opened) (Q : Type 0) → Q → IfBody go plan (flat_controls plan code).barrier B P closes os Q
      if_body [] Q q = tt
      if_body (o ∷ os) Q q = λ e. q

      pub ends_task : IsUnderWay t.own.status → Completes → (raised : Option Exception) (d : All Spot) → d.shared ≡ c.shared → (own_of m.task d).opened ≡ t.own.opened → P d → P (effect.completes go plan (flat_controls plan code).barrier raised m.task d)
      ends_task u complete raised d same opened k =
          completes_keeps go plan (flat_controls plan code).barrier B P closes raised m.task d
          (subst (λ x. EachIs (λ id. B (call_of id (record c { shared = x })).caller) (accepts_of go plan (flat_controls plan code).barrier B P closes (own_of m.task d).opened)) (sym same)
          (subst (λ os. EachIs (λ id. B (call_of id c).caller) (accepts_of go plan (flat_controls plan code).barrier B P closes os)) (sym opened) (accepts t.own.opened (serves (under_way_lives u)).opened)))
          (complete u d raised opened k)

      module _ (b : B m.task) where
        start_keeps : (to : Spot → Spot) → P (start to)
        start_keeps to = closes.task m.task (λ (u : TaskAt Spot). record u { control = to u.control; own = record u.own { pending = None } }) next b (λ u e. still u.own (plainly u.own) refl refl refl) at_next

        leaves_if : (running : t.own.status ≡ Running) (alternative : Option ℕ) (p : Option Pending) (to : Spot → Spot) → IfBody go plan (flat_controls plan code).barrier B P closes (out_of_loops (own_of m.task (start to))).opened (P (effect.completes go plan (flat_controls plan code).barrier (exception_of p) m.task (start to))) → P (leaves go plan (flat_controls plan code).barrier alternative p to m.task next)
        leaves_if running alternative p to body =
            let u : IsUnderWay t.own.status = subst IsUnderWay (sym running) tt in
            at_end_keeps go plan (flat_controls plan code).barrier B P closes alternative p m.task (start to) b
            (subst (λ (o : Own). LastLeads go plan (flat_controls plan code).barrier B P closes (start to) (out_of_loops o).opened) (sym (start_is to)) (leads t.own.opened (plainly t.own) refl (all_go u) (serves (under_way_lives u)).opened (start to) refl)) body
            (busy_then m.task _ next (λ x e. busy running x e)) (start_keeps to)

        pub leaves_keeps : t.own.status ≡ Running → Completes → (alternative : Option ℕ) (p : Option Pending) (to : Spot → Spot) → P (leaves go plan (flat_controls plan code).barrier alternative p to m.task next)
        leaves_keeps running complete alternative p to =
            leaves_if running alternative p to
            (if_body (out_of_loops (own_of m.task (start to))).opened (P (effect.completes go plan (flat_controls plan code).barrier (exception_of p) m.task (start to)))
            (ends_task (subst IsUnderWay (sym running) tt) complete (exception_of p) (start to) refl (ap (λ (o : Own). o.opened) (start_is to)) (start_keeps to)))

    -- where a block is left the task goes on
    no_body : (to : Spot → Spot) (o : Opened) (os : List Opened) → t.own.opened ≡ o ∷ os → o.purpose ≡ for_block → (Q : Type 0) → IfBody go plan (flat_controls plan code).barrier Anyone (Keeps (IsNot m.task)) (ended_closed (IsNot m.task)) (out_of_loops (own_of m.task (start to))).opened Q
    no_body to o os opened block Q =
        subst (λ (x : Own). IfBody go plan (flat_controls plan code).barrier Anyone (Keeps (IsNot m.task)) (ended_closed (IsNot m.task)) (out_of_loops x).opened Q) (sym (start_is to))
        (subst (λ ps. IfBody go plan (flat_controls plan code).barrier Anyone (Keeps (IsNot m.task)) (ended_closed (IsNot m.task)) ps Q) (sym (ap (λ (x : Own). x.opened) (no_loops (plainly t.own) o os opened (ap is_loop block)) ∙ opened))
        (λ e. let wrong : for_block ≡ for_body = sym block ∙ e in absurd cc))

    block_left : t.own.status ≡ Running → (alternative : Option ℕ) (to : Spot → Spot) (o : Opened) (os : List Opened) → t.own.opened ≡ o ∷ os → o.purpose ≡ for_block → Keeps (IsNot m.task) (leaves go plan (flat_controls plan code).barrier alternative None to m.task next)
    block_left running alternative to o os opened block =
        leaves_if Anyone (Keeps (IsNot m.task)) (ended_closed (IsNot m.task)) others tt running alternative None to
        (no_body to o os opened block (Keeps (IsNot m.task) (effect.completes go plan (flat_controls plan code).barrier None m.task (start to))))
      where
        others : Keeps (IsNot m.task) c
        others = record { each = λ i done same. not_running (sym running ∙ (ap (λ (x : Own). x.status) (sym (own_got m.task c.tasks t is)) ∙ subst (λ j. (own_of j c).status ≡ Completed) same done)) }

    -- Whatever its turn is.
    module _ (B : ℕ → Type 0) (P : All Spot → Type 0) (closes : Closed B P) (b : B m.task) (h : P c) (complete : Completes B P closes h) (object : t.own.status ≡ Running → (at : Pos) (declaration : ℕ) (cells : List ℤ) → asked ≡ declares_object at declaration cells → P (with_object go plan (flat_controls plan code).barrier declaration cells m.task next)) where
      -- loops around a block are left as well
      ends_keep : (running : t.own.status ≡ Running) (alternative : Option ℕ) (loops : ℕ) → AskedBy (end_at code t.control.place).last (loops_of (end_at code t.control.place).exit) (ends loops) → StandsAtStep code seen_many t.control.place (end_at code t.control.place) t.control.returns t.own.display t.own.opened → P (on_own m.task (out_of loops) (leaves go plan (flat_controls plan code).barrier alternative None go.behind m.task next))
      ends_keep running alternative zero a s =
          own_keeps go plan (flat_controls plan code).barrier B P closes m.task (out_of zero) (leaves go plan (flat_controls plan code).barrier alternative None go.behind m.task next) b (λ u e. still u.own u.own refl refl refl)
          (leaves_keeps B P closes h b running complete alternative None go.behind)
      ends_keep running alternative (suc loops) (inl a) s = absurd cc
      ends_keep running alternative (suc loops) (inr a) s =
          let left : LeavesBlock code seen_many (suc loops) a.0 t.control.returns t.own =
          leaves_framed code table tasks barriers seen_many sound fits t.control.place (suc loops) a.0 t.control.returns t.own (end_at code t.control.place) s a.1 in
          let d : All Spot = leaves go plan (flat_controls plan code).barrier alternative None go.behind m.task next in
          let goes_on : Keeps (IsNot m.task) d = block_left running alternative go.behind left.o left.os left.opened left.block in
          own_keeps go plan (flat_controls plan code).barrier B P closes m.task (out_of (suc loops)) d b
          (λ u e. goes u.own (out_of (suc loops) u.own) (λ done. goes_on.each m.task (ap (λ (x : Own). x.status) (own_got m.task d.tasks u e) ∙ (sym (out_status (suc loops) u.own) ∙ done)) refl) (out_again (suc loops) u.own))
          (leaves_keeps B P closes h b running complete alternative None go.behind)

      abbrev done_by : Asked → All Spot
      done_by a = done go plan (flat_controls plan code).barrier limits m.alternative a m.task next

      acts_keep : t.own.status ≡ Running → ((loops : ℕ) (r : Again) → asked ≡ requeues loops r → P (with_again go plan (flat_controls plan code).barrier loops r m.task next)) → P (done_by asked)
      acts_keep running again = done_keeps go plan (flat_controls plan code).barrier B P closes m.task next b (λ u e. busy running u e) (at_next B P closes h) limits m.alternative asked (record {
        ends = λ loops e. by t.own.pending refl loops e;
        left = λ p e. leaves_keeps B P closes h b running complete m.alternative (Some p) (go.left p.exception);
        object = object running;
        again = again;
      })
        where
          by : (p : Option Pending) → t.own.pending ≡ p → (loops : ℕ) → asked_at code p (scene_of plan (flat_controls plan code) m.task c) t.control ≡ ends loops → P (on_own m.task (out_of loops) (leaves go plan (flat_controls plan code).barrier m.alternative None go.behind m.task next))
          by (Some p) e loops q = absurd (raised (is_there (handler_at code p.exception t.control)) q)
            where
              raised : (x : Bool) → handled_or_left x p ≡ ends loops → ⊥
              raised true q = absurd cc
              raised false q = absurd cc
          by None e loops q =
              let s = at_step plan code seen_many m.task c t w.spots is running e w.framed in
              ends_keep running m.alternative loops (subst (AskedBy (end_at code t.control.place).last (loops_of (end_at code t.control.place).exit)) q (asks code sound (scene_of plan (flat_controls plan code) m.task c) t.control s.begins)) s

      made_again : (r : Restart) → t.own.restart ≡ Some r → t.own.status ≡ Running → B (call_of r.call c).caller
      made_again r e running = caller B P closes h r.call (owner.Task m.task) ((serves (ap is_over running)).restart r e).served

      -- where it makes a call again, its own statements go on
      abbrev pub MakesAgain : Turn → Type 0
      MakesAgain u = (y : Coming) → u ≡ acting y → t.own.status ≡ Running → (loops : ℕ) (r : Again) → asked ≡ requeues loops r → P (with_again go plan (flat_controls plan code).barrier loops r m.task next)

      pub taken_keep : (u : Turn) (x : TaskAt Seen) → x.own ≡ t.own → Tells plan (flat_controls plan code).barrier m.task x (seen plan (flat_controls plan code) c) u → MakesAgain u → P (turn_taken go plan (flat_controls plan code).barrier limits u asked m next)
      taken_keep resting x own tells again = at_next B P closes h
      taken_keep closing x own tells again = closes_keep go plan (flat_controls plan code).barrier B P closes m.task next (at_next B P closes h)
      taken_keep completing x own tells again =
          ends_task B P closes h (subst (λ (o : Own). IsUnderWay o.status) own tells) complete None next refl (ap (λ (o : Own). o.opened) (own_got m.task c.tasks t is)) (at_next B P closes h)
      taken_keep (withdrawing i) x own tells again = withdraws_keep go plan (flat_controls plan code).barrier B P closes i m.task next (at_next B P closes h)
      taken_keep (serving s) x own tells again = serves_keep go plan (flat_controls plan code).barrier B P closes m.alternative s m.task next b (at_next B P closes h)
      taken_keep (restarting r) x own tells again =
          starts_keep go plan (flat_controls plan code).barrier B P closes r m.task next b (made_again r (subst (λ (o : Own). o.restart ≡ Some r) own tells.0) (subst (λ (o : Own). o.status ≡ Running) own tells.1)) (at_next B P closes h)
      taken_keep (expiring ds) x own tells again = expires_keep go plan (flat_controls plan code).barrier B P closes (alternative_or_none m.alternative) m.task next b (at_next B P closes h)
      taken_keep (cancelling id) x own tells again = call_expires_keeps go plan (flat_controls plan code).barrier B P closes m.task next b (at_next B P closes h)
      taken_keep (acting y) x own tells again = let running = ap (λ (o : Own). o.status) (sym own) ∙ tells in acts_keep running (again y refl running)

  -- of a step that completes its task, declares an object or makes a call again it is said besides
  pub record Special (B : ℕ → Type 0) (P : All Spot → Type 0) (closes : Closed B P) (b : B m.task) (h : P c) (t : TaskAt Spot) (is : slice_get c.tasks m.task ≡ Some t) : Type 0 where
    pub complete : Completes t is B P closes h
    pub object : t.own.status ≡ Running → (at : Pos) (declaration : ℕ) (cells : List ℤ) → asked t is ≡ declares_object at declaration cells → P (with_object go plan (flat_controls plan code).barrier declaration cells m.task next)
    pub again : (y : Coming) → turn_at plan (flat_controls plan code).barrier (slice_get (seen plan (flat_controls plan code) c).tasks m.task) m.task (seen plan (flat_controls plan code) c) ≡ acting y → t.own.status ≡ Running → (loops : ℕ) (r : Again) → asked t is ≡ requeues loops r → P (with_again go plan (flat_controls plan code).barrier loops r m.task next)

  module _ (B : ℕ → Type 0) (P : All Spot → Type 0) (closes : Closed B P) (b : B m.task) (h : P c) (special : (t : TaskAt Spot) (is : slice_get c.tasks m.task ≡ Some t) → Special B P closes b h t is) where
    pub step_keeps : P (step_with plan (flat_controls plan code) limits c m)
    step_keeps = subst P (sym (carried_law plan (flat_controls plan code) limits c m)) (by (slice_get c.tasks m.task) refl)
      where
        at : (t : TaskAt Spot) (is : slice_get c.tasks m.task ≡ Some t) (o : Option (TaskAt Seen)) → slice_get (seen plan (flat_controls plan code) c).tasks m.task ≡ o → P (turn_taken go plan (flat_controls plan code).barrier limits (turn_at plan (flat_controls plan code).barrier o m.task (seen plan (flat_controls plan code) c)) (asked t is) m next)
        at t is None e = closes.rest c next refl refl refl h
        at t is (Some x) e =
            let k = special t is in
            taken_keep t is B P closes b h k.complete k.object (turn plan (flat_controls plan code).barrier m.task x (seen plan (flat_controls plan code) c)) x
            (seen_own plan (flat_controls plan code) m.task 0 c.tasks (owns c.tasks) c.shared x t e is)
            (turn_tells plan (flat_controls plan code).barrier m.task x (seen plan (flat_controls plan code) c) x.own.status refl)
            (λ y q. k.again y (ap (λ p. turn_at plan (flat_controls plan code).barrier p m.task (seen plan (flat_controls plan code) c)) e ∙ q))

        by : (o : Option (TaskAt Spot)) → slice_get c.tasks m.task ≡ o → P (carried_by plan (flat_controls plan code) limits o m c)
        by None e = h
        by (Some t) e = at t e (slice_get (seen plan (flat_controls plan code) c).tasks m.task) refl
