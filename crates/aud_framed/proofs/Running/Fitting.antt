-- What tasks do fits their open frames.
use Rattle.std.proofs.Common.{◌≡◌, ℕ, zero, suc, List, [], ◌∷◌, length, Option, Some, None, Bool, true, false, refl, sym, ap, ◌∙◌, subst, inl, inr, slice_get, slice_index_or}
use Rattle.std.specs.Prelude.{◌&&◌, ◌||◌, nat_eq, not}
use Rattle.std.proofs.lemmas.Bool.{false≢true, true≢false}
use Rattle.aud_typed.specs.Tree.{For, Plan}
use Rattle.aud_meaning.specs.declared.state.Action.{Action}
use Rattle.aud_meaning.specs.declared.state.Pending.{Pending}
use Rattle.aud_meaning.specs.declared.state.Status.TheVariants.{Running}
use Rattle.aud_meaning.specs.Configuration.{Purpose, for_body, for_block, for_loop, for_procedure, for_operation, for_entry, for_accept, Object, Opened, Own, TaskAt, All}
use Rattle.aud_meaning.specs.Control.{Asked, Seen, declares_tasks, next_of_loop, goes_out, requeues, ends}
use Rattle.aud_meaning.specs.Effects.{is_loop, out_of_loops}
use Rattle.aud_meaning.specs.Parts.{acts_on, any, in_action, is_master, is_over, no_object, object_of, own_of, owns}
use Rattle.aud_meaning.specs.Run.{Turn, resting, closing, completing, withdrawing, serving, restarting, expiring, cancelling, acting, scene_of, seen, turn}
use Rattle.aud_meaning.specs.Statements.{handled_or_left}
use Rattle.aud_code.specs.Places.{Spot, is_there, loops_of}
use Rattle.aud_code.specs.Flat.{Continues, EndLine, Flat, Last, Leaves, asked_at, end_at, flat_controls, handler_at}
use Rattle.aud_code.specs.Frames.{At, BlockAround, Found, LastFits, OpensBlock, OutOfLoops, found}
use Rattle.aud_code.specs.Seen.{IsSeen}
use Rattle.aud_code.specs.Sound.{Counts, IsSound, IsStart}
use Rattle.aud_over.specs.Standing.{AskedFits, FirstIsMaster, Fits, FitsBy, IsBlock, IsPinned, LastIsMaster, LeavesFit, LeavesNoMaster, TurnFits, around, bones}
use Rattle.aud_framed.specs.Held.{Entered, Holds, IsOpenAt, OpenedBy}
use Rattle.aud_framed.specs.Calls.{Serves, ServesBy, ServesIn}
use Rattle.aud_framed.specs.Fitting.{DeclaresDirectly, IsDirect, KeepBodies}
use Rattle.aud_framed.specs.Stepping.{AskedBy, HasWays, IsKept}
use Rattle.aud_framed.specs.Ways.{LeavesBlock, StandsAtStep}
use Rattle.aud_framed.proofs.Blocks.{leaves_framed}
use Rattle.aud_framed.proofs.Fitting.{held_fits}
use Rattle.aud_framed.proofs.Steps.{here, led}
use Rattle.aud_framed.proofs.Running.Turns.{Tells, seen_own, turn_tells}
use Rattle.aud_framed.proofs.Stepping.Asked.{asks, line_of}
use Rattle.aud_framed.proofs.Stepping.Frames.{AreLoops}
use Rattle.aud_framed.proofs.Stepping.Going.{turn_loop, way_loops}
use Rattle.aud_framed.proofs.Stepping.Lone.{at_step}
use Rattle.aud_framed.proofs.Stepping.Parts.{own_got}
use Rattle.aud_framed.proofs.Stepping.Tasks.{no_loops}

-- Frames that are no master's, and those of masters.

master_of : (o : Opened) (p : Purpose) → o.purpose ≡ p → is_master o ≡ is_master (record o { purpose = p })
master_of o p e = ap (λ q. is_master (record o { purpose = q })) e

loops_masters : (k : ℕ) (os : List Opened) → AreLoops k os → LeavesNoMaster k (bones os)
loops_masters zero os h = tt
loops_masters (suc k) [] h = absurd h
loops_masters (suc k) (o ∷ os) h = (master_of o for_loop h.0, loops_masters k os h.1)

opened_block : (last : Last) (p : Purpose) → OpensBlock last → OpenedBy last p → p ≡ for_block
opened_block last for_body b h = absurd h
opened_block last for_block b h = refl
opened_block last for_loop b h = absurd (subst OpensBlock h.1 b)
opened_block last (for_procedure r) b h = absurd h
opened_block last (for_operation n r) b h = absurd h
opened_block last (for_entry n id served back) b h = absurd h
opened_block last (for_accept id) b (inl h) = absurd (subst OpensBlock h.2 b)
opened_block last (for_accept id) b (inr h) = absurd (subst OpensBlock h.1 b)

-- Who acts on an object is in an action.

or_right : (a b : Bool) → b ≡ true → a || b ≡ true
or_right true b h = refl
or_right false b h = h

or_left : (a b : Bool) → a ≡ true → a || b ≡ true
or_left true b h = refl
or_left false b h = absurd (false≢true h)

acts_there : (n i : ℕ) (os : List Object) → acts_on n (slice_index_or os i no_object) ≡ true → any (acts_on n) os ≡ true
acts_there n i [] h = absurd (false≢true h)
acts_there n zero (o ∷ os) h = or_left (acts_on n o) (any (acts_on n) os) h
acts_there n (suc i) (o ∷ os) h = or_right (acts_on n o) (any (acts_on n) os) (acts_there n i os h)

and_left : (a b : Bool) → a && b ≡ true → a ≡ true
and_left true b h = refl
and_left false b h = h

changing : (n : ℕ) (ones : List Action) → any (λ (a : Action). nat_eq a.task n && not a.reading) ones ≡ true → any (λ (a : Action). nat_eq a.task n) ones ≡ true
changing n [] h = h
changing n (a ∷ more) h = by (nat_eq a.task n && not a.reading) refl h (changing n more)
  where
    by : (b : Bool) → nat_eq a.task n && not a.reading ≡ b → b || any (λ (x : Action). nat_eq x.task n && not x.reading) more ≡ true → (any (λ (x : Action). nat_eq x.task n && not x.reading) more ≡ true → any (λ (x : Action). nat_eq x.task n) more ≡ true) → nat_eq a.task n || any (λ (x : Action). nat_eq x.task n) more ≡ true
    by true e h on = or_left (nat_eq a.task n) _ (and_left (nat_eq a.task n) (not a.reading) e)
    by false e h on = or_right (nat_eq a.task n) _ (on h)

module _ (plan : Plan) (code : Flat) (table : List Counts) (tasks barriers seen_many pins : List ℕ) (sound : IsSound code) (fits : IsSeen code table tasks barriers seen_many) (ways : HasWays code) (direct : DeclaresDirectly code) (n : ℕ) (c : All Spot) (w : IsKept plan code seen_many c) (bodies : KeepBodies c) (t : TaskAt Spot) (is : slice_get c.tasks n ≡ Some t) where
  abbrev line : EndLine
  line = end_at code t.control.place

  abbrev pinned : ℕ → Type 0
  pinned = IsPinned (around pins c.shared.objects)

  -- the innermost frame where tasks are declared, unless the task is in an action
  module _ (running : t.own.status ≡ Running) (free : in_action n c ≡ false) where
    serves : Serves plan c n t.own
    serves = subst (λ o. Serves plan c n o) (own_got n c.tasks t is) (w.framed.serves n (ap (λ (o : Own). is_over o.status) (own_got n c.tasks t is) ∙ ap is_over running))

    in_none : (object : ℕ) → acts_on n (object_of object c) ≡ true → ⊥
    in_none object h = true≢false (sym (acts_there n object c.shared.objects h) ∙ free)

    entered : (o : Opened) (os : List Opened) (p : Purpose) → o.purpose ≡ p → Entered code.lines seen_many (λ v rs. Holds code.lines seen_many v rs os) p t.control.returns o.saved os → ServesBy plan c n p os → is_master o ≡ true
    entered o os for_body e h k = master_of o for_body e
    entered o os for_block e h k = absurd h
    entered o os for_loop e h k = absurd h
    entered o os (for_procedure r) e h k = master_of o (for_procedure r) e
    entered o os (for_operation object r) e h k = absurd (in_none object k.0)
    entered o os (for_entry object id served back) e h k = absurd (in_none object (changing n (object_of object c).actions k.1.0))
    entered o os (for_accept id) e h k = absurd h

    within : (v : Option ℕ) (os : List Opened) → IsDirect code.lines v → Holds code.lines seen_many v t.control.returns os → ServesIn plan c n os → FirstIsMaster (bones os)
    within v [] d h k = absurd h
    within None (o ∷ os) d h k = entered o os o.purpose refl h k.0
    within (Some m) (o ∷ os) d h k = by (found code.lines m) d h
      where
        by : (x : Option EndLine) → Found x (λ l. OpensBlock l.last) → Found x (λ l. OpenedBy l.last o.purpose × (IsOpenAt code.lines seen_many m (length o.saved) × Holds code.lines seen_many l.within t.control.returns os × IsStart code.lines m)) → is_master o ≡ true
        by None d h = absurd d
        by (Some l) d h = master_of o for_block (opened_block l.last o.purpose d h.0)

  module _ (running : t.own.status ≡ Running) (s : StandsAtStep code seen_many t.control.place (end_at code t.control.place) t.control.returns t.own.display t.own.opened) where
    holds : Holds code.lines seen_many line.within t.control.returns t.own.opened
    holds = (here code table tasks barriers seen_many sound fits t.control.place t.control.returns t.own.display t.own.opened line s).1

    turn_fits : (os : List Opened) → t.own.opened ≡ os → (l : StandsAtStep code seen_many t.control.place (end_at code t.control.place) t.control.returns t.own.display os) (f : For) → line.last ≡ Continues f → LeavesNoMaster 1 (bones os)
    turn_fits [] e l f continues = absurd (subst (λ os. Holds code.lines seen_many line.within t.control.returns os) e holds)
    turn_fits (o ∷ os) e l f continues = loops_masters 1 (o ∷ os) (turn_loop code table tasks barriers seen_many sound fits ways t.control.place t.control.returns t.own.display o os f line l continues, tt)

    -- a block with loops around it
    behind_block : (loops next : ℕ) (o : Opened) (os : List Opened) (v : Option ℕ) → BlockAround code.lines v (λ u. OutOfLoops code.lines loops u (At code.lines next)) → Holds code.lines seen_many v t.control.returns (o ∷ os) → LeavesNoMaster loops (bones os)
    behind_block loops next o os None f h = absurd f
    behind_block loops next o os (Some m) f h = by (found code.lines m) f h
      where
        by : (x : Option EndLine) → Found x (λ b. OpensBlock b.last × OutOfLoops code.lines loops b.within (At code.lines next)) → Found x (λ b. OpenedBy b.last o.purpose × (IsOpenAt code.lines seen_many m (length o.saved) × Holds code.lines seen_many b.within t.control.returns os × IsStart code.lines m)) → LeavesNoMaster loops (bones os)
        by None f h = absurd f
        by (Some b) f h = (held_fits code seen_many b.within t.control.returns os h.1.1).way loops next f.1

    left_fits : (loops next : ℕ) → line.last ≡ Leaves loops next → LeavesFit loops (out_of_loops t.own).opened
    left_fits zero next e = tt
    left_fits (suc loops) next e =
        let left : LeavesBlock code seen_many (suc loops) next t.control.returns t.own =
        leaves_framed code table tasks barriers seen_many sound fits t.control.place (suc loops) next t.control.returns t.own line s e in
        let none : LeavesNoMaster (suc loops) (bones left.os) =
        behind_block (suc loops) next left.o left.os line.within
        (subst (λ last. LastFits code.lines last t.control.place line) e (led code table tasks barriers seen_many sound fits t.control.place t.control.returns t.own.display t.own.opened line s))
        (subst (λ os. Holds code.lines seen_many line.within t.control.returns os) left.opened holds) in
        subst (LeavesFit (suc loops)) (sym (ap (λ (x : Own). x.opened) (no_loops t.own left.o left.os left.opened (ap is_loop left.block)) ∙ left.opened))
        (subst IsBlock (sym left.block) tt, none)

    asked_fits : (a : Asked) → AskedBy line.last (loops_of line.exit) a → AskedFits pinned t.own (in_action n c) a
    asked_fits (goes_out loops value) h = inl (subst (λ k. LeavesNoMaster k (bones t.own.opened)) (sym h.1) (loops_masters (loops_of line.exit) t.own.opened (way_loops code table tasks barriers seen_many sound fits ways t.control.place t.control.returns t.own line s h.0)))
    asked_fits (requeues loops r) h = inl (subst (λ k. LeavesNoMaster k (bones t.own.opened)) (sym h.1) (loops_masters (loops_of line.exit) t.own.opened (way_loops code table tasks barriers seen_many sound fits ways t.control.place t.control.returns t.own line s h.0)))
    asked_fits (next_of_loop f) h = inl (turn_fits t.own.opened refl s f h)
    asked_fits (ends loops) (inl h) = inl (subst (λ k. LeavesFit k (out_of_loops t.own).opened) (sym h.1.1.1) tt)
    asked_fits (ends loops) (inr h) = inl (left_fits loops h.0 h.1)
    asked_fits (declares_tasks at ts) h = λ some free. inl (within running free line.within t.own.opened (let k = line_of t.control.place code.lines line s.is in direct k.0 line ts k.1 h) holds (serves running free).opened)
    asked_fits a h = tt

  raised_fits : (p : Pending) (b : Bool) → AskedFits pinned t.own (in_action n c) (handled_or_left b p)
  raised_fits p true = tt
  raised_fits p false = tt

  acts_fit : t.own.status ≡ Running → (pending : Option Pending) → t.own.pending ≡ pending → AskedFits pinned t.own (in_action n c) (asked_at code pending (scene_of plan (flat_controls plan code) n c) t.control)
  acts_fit running (Some p) e = raised_fits p (is_there (handler_at code p.exception t.control))
  acts_fit running None e =
      let s = at_step plan code seen_many n c t w.spots is running e w.framed in
      asked_fits running s (asked_at code None (scene_of plan (flat_controls plan code) n c) t.control) (asks code sound (scene_of plan (flat_controls plan code) n c) t.control s.begins)

  turns_fit : (u : Turn) (x : TaskAt Seen) → x.own ≡ t.own → Tells plan (flat_controls plan code).barrier n x (seen plan (flat_controls plan code) c) u → TurnFits u pinned t.own (in_action n c) (asked_at code t.own.pending (scene_of plan (flat_controls plan code) n c) t.control)
  turns_fit resting x own tells = tt
  turns_fit closing x own tells =
      let same : own_of n c ≡ t.own = own_got n c.tasks t is in
      inl (subst (λ (o : Own). LastIsMaster (bones o.opened)) same (bodies n (ap (λ (o : Own). o.status) (same ∙ sym own) ∙ tells)))
  turns_fit completing x own tells = tt
  turns_fit (withdrawing object) x own tells = tt
  turns_fit (serving v) x own tells = tt
  turns_fit (restarting r) x own tells = tt
  turns_fit (expiring ds) x own tells = tt
  turns_fit (cancelling id) x own tells = tt
  turns_fit (acting y) x own tells = acts_fit (ap (λ (o : Own). o.status) (sym own) ∙ tells) t.own.pending refl

  pub task_fits : (o : Option (TaskAt Seen)) → slice_get (seen plan (flat_controls plan code) c).tasks n ≡ o → FitsBy pins plan (flat_controls plan code) o (Some t) n c
  task_fits None e = tt
  task_fits (Some x) e =
      turns_fit (turn plan (flat_controls plan code).barrier n x (seen plan (flat_controls plan code) c)) x
      (seen_own plan (flat_controls plan code) n 0 c.tasks (owns c.tasks) c.shared x t e is)
      (turn_tells plan (flat_controls plan code).barrier n x (seen plan (flat_controls plan code) c) x.own.status refl)

pub framed_fits : (plan : Plan) (code : Flat) (table : List Counts) (tasks barriers seen_many pins : List ℕ) (n : ℕ) (c : All Spot) → IsSound code → IsSeen code table tasks barriers seen_many → HasWays code → DeclaresDirectly code → IsKept plan code seen_many c → KeepBodies c → Fits pins plan (flat_controls plan code) n c
framed_fits plan code table tasks barriers seen_many pins n c sound fits ways direct w bodies = by (slice_get c.tasks n) refl
  where
    none : (o : Option (TaskAt Seen)) → FitsBy pins plan (flat_controls plan code) o None n c
    none None = tt
    none (Some x) = tt

    by : (o : Option (TaskAt Spot)) → slice_get c.tasks n ≡ o → FitsBy pins plan (flat_controls plan code) (slice_get (seen plan (flat_controls plan code) c).tasks n) o n c
    by None e = none (slice_get (seen plan (flat_controls plan code) c).tasks n)
    by (Some t) e = task_fits plan code table tasks barriers seen_many pins sound fits ways direct n c w bodies t e (slice_get (seen plan (flat_controls plan code) c).tasks n) refl
