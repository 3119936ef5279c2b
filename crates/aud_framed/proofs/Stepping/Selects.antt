-- Selective accepts.
use Rattle.std.proofs.Common.{◌≡◌, ℕ, ℤ, List, [], ◌∷◌, length, Option, Some, None, Bool, true, false, refl, sym, ap, subst, if◌then◌else◌, slice_get}
use Rattle.std.specs.Prelude.{filter, nat_eq}
use Rattle.aud_text.specs.declared.place.Pos.{Pos}
use Rattle.aud_text.specs.declared.raise.Raise.{Raise}
use Rattle.aud_text.specs.declared.raise.Raise.TheVariants.{Program}
use Rattle.aud_typed.specs.declared.program.Exception.TheVariants.{Predefined}
use Rattle.aud_typed.specs.Tree.{Plan}
use Rattle.aud_meaning.specs.declared.state.OpenAccept.{OpenAccept}
use Rattle.aud_meaning.specs.declared.state.Status.TheVariants.{Running, Accepting}
use Rattle.aud_meaning.specs.Configuration.{TaskAt, Waits as WaitsAt, All}
use Rattle.aud_meaning.specs.Control.{Asked, Scene, selects}
use Rattle.aud_meaning.specs.Parts.{Waiting, blocks, call_of, is_over, on_own, queue}
use Rattle.aud_meaning.specs.Run.{scene_of}
use Rattle.aud_meaning.specs.Tasks as effect
use Rattle.aud_code.specs.Places.{Spot, loops_of}
use Rattle.aud_code.specs.Eval.{asked_end, eval, raised_by, with_cells, with_one, with_two}
use Rattle.aud_code.specs.Flat.{Flat, Last, Does, Continues, Guards, Ends, Leaves, asked_at, asked_last, end_at, flat_controls, instructions_at}
use Rattle.aud_code.specs.Frames.{Found, OpensAccept}
use Rattle.aud_code.specs.Instruction.{Ending, Declare, DeclareArray, DeclareTasks, DeclareObject, Activated, Activate, Null, Assign, Put, If, While, Loop, Exit, Return, ReturnValue, Raising, RaisingAgain, Block, Proc, OwnCall, Operation, CallTask, CallObject, Delay, Accept, Select, Abort, RequeueTask, RequeueObject, Operands, no_operands, Ended, Reached, Marked, Raised, Lost}
use Rattle.aud_code.specs.Seen.{IsSeen}
use Rattle.aud_code.specs.Sound.{Counts, IsSound}
use Rattle.aud_framed.specs.Held.{StandsAt, objects_in}
use Rattle.aud_framed.specs.Waiting.{AllOfTasks, EachOffered, IsOffered}
use Rattle.aud_framed.specs.Calls.{IsEntryOf}
use Rattle.aud_framed.specs.Ways.{StandsAtStep}
use Rattle.aud_framed.specs.Stepping.{AskedBy, HasWays}
use Rattle.aud_framed.proofs.Offers.{select_offers}
use Rattle.aud_framed.proofs.Stepping.Accepting.{waits_outside}
use Rattle.aud_framed.proofs.Stepping.Asked.{asks}
use Rattle.aud_framed.proofs.Stepping.Beginning.{goes_on_good}
use Rattle.aud_framed.proofs.Stepping.Blocks.{raised_good}
use Rattle.aud_framed.proofs.Stepping.Delays.{running_outside}
use Rattle.aud_framed.proofs.Stepping.Ending.{Good}
use Rattle.aud_framed.proofs.Stepping.Lone.{at_step}
use Rattle.aud_framed.proofs.Stepping.Meeting.{first_in, its_task}
use Rattle.aud_framed.proofs.Stepping.Refusing.{orders}
use Rattle.aud_framed.proofs.Stepping.Rendezvous.{OpensHere, queued_meets}
use Rattle.aud_framed.proofs.Stepping.Tasks.{task_good}

-- The accepts that a step asks for are those that its instructions open.

abbrev AcceptsAsked : (List OpenAccept → Type 0) → Asked → Type 0
AcceptsAsked P (selects has_else waits at) = P waits.accepts
AcceptsAsked P a = Unit {0}

module _ (P : List OpenAccept → Type 0) (loops : ℕ) (at : Pos) (s : Scene) where
  one : {A : Type 0} (xs : List A) (go : A → Asked) → ((x : A) → AcceptsAsked P (go x)) → AcceptsAsked P (with_one xs go)
  one [] go h = tt
  one (x ∷ xs) go h = h x

  two : {A : Type 0} (xs : List A) (go : A → A → Asked) → ((x y : A) → AcceptsAsked P (go x y)) → AcceptsAsked P (with_two xs go)
  two [] go h = tt
  two (y ∷ []) go h = tt
  two (y ∷ x ∷ xs) go h = h x y

  cells : (x : Option (List ℤ)) (go : List ℤ → Asked) → ((y : List ℤ) → AcceptsAsked P (go y)) → AcceptsAsked P (with_cells x go)
  cells None go h = tt
  cells (Some y) go h = h y

  either_asked : (b : Bool) (x y : Asked) → AcceptsAsked P x → AcceptsAsked P y → AcceptsAsked P (if b then x else y)
  either_asked true x y h k = h
  either_asked false x y h k = k

  raised : (e : Ending) (raise : Raise) → AcceptsAsked P (raised_by e raise at)
  raised (Declare up_to) raise = tt
  raised (DeclareObject n) raise = tt
  raised e raise = tt

  ended : (e : Ending) (o : Operands) → ((has_else : Bool) → e ≡ Select has_else → P o.waits.accepts) → AcceptsAsked P (asked_end e loops at s o)
  ended (Declare up_to) o h = one o.integers _ (λ z. tt)
  ended (DeclareArray t n) o h = tt
  ended (DeclareTasks ts) o h = tt
  ended (DeclareObject n) o h = cells o.cells _ (λ y. tt)
  ended Activated o h = tt
  ended Activate o h = tt
  ended Null o h = tt
  ended Assign o h = one o.targets _ (λ t. one o.integers _ (λ z. tt))
  ended Put o h = tt
  ended If o h = one o.booleans _ (λ b. tt)
  ended While o h = one o.booleans _ (λ b. tt)
  ended (Loop f) o h = two o.integers _ (λ x y. tt)
  ended Exit o h = one o.booleans _ (λ b. either_asked b _ _ tt tt)
  ended Return o h = tt
  ended ReturnValue o h = one o.integers _ (λ z. tt)
  ended (Raising x) o h = tt
  ended RaisingAgain o h = tt
  ended (Block region) o h = tt
  ended (Proc unit) o h = tt
  ended OwnCall o h = tt
  ended (Operation v unit) o h = tt
  ended (CallTask entry form) o h = one o.names _ (λ n. tt)
  ended (CallObject v entry form) o h = tt
  ended Delay o h = tt
  ended (Accept entry region) o h = tt
  ended (Select has_else) o h = h has_else refl
  ended Abort o h = tt
  ended (RequeueTask entry formals abort) o h = one o.names _ (λ n. tt)
  ended (RequeueObject v entry formals abort) o h = tt

  asked_accepts : (last : Last) (x : Ended) → ((has_else : Bool) (o : Operands) → last ≡ Does (Select has_else) → x ≡ Reached o → P o.waits.accepts) → AcceptsAsked P (asked_last last loops at s x)
  asked_accepts (Does e) (Reached o) h = ended e o (λ has_else q. h has_else o (ap (λ y. Does y) q) refl)
  asked_accepts (Does e) (Marked o) h = tt
  asked_accepts (Does e) (Raised raise) h = raised e raise
  asked_accepts (Does e) Lost h = tt
  asked_accepts (Continues f) x h = tt
  asked_accepts (Guards gs) x h = tt
  asked_accepts (Ends c next) x h = tt
  asked_accepts (Leaves n next) x h = tt

module _ (plan : Plan) (code : Flat) (table : List Counts) (tasks barriers seen : List ℕ) (sound : IsSound code) (fits : IsSeen code table tasks barriers seen) (ways : HasWays code) where
  abbrev Kept : All Spot → Type 0
  Kept c = Good plan code table tasks barriers seen sound fits ways c

  either_kept : (b : Bool) (x y : All Spot) → Kept x → Kept y → Kept (if b then x else y)
  either_kept true x y h k = h
  either_kept false x y h k = k

  module _ (n : ℕ) (c : All Spot) (t : TaskAt Spot) (w : Kept c) (is : slice_get c.tasks n ≡ Some t) (running : t.own.status ≡ Running) (none : t.own.pending ≡ None) (still : t.own.again ≡ None) (serves_none : t.own.serving ≡ None) (outside : objects_in t.own.opened ≡ []) (opens : OpensAccept (end_at code t.control.place).last) where
    s : StandsAtStep code seen t.control.place (end_at code t.control.place) t.control.returns t.own.display t.own.opened
    s = at_step plan code seen n c t w.spots is running none w.framed

    abbrev Offered : List OpenAccept → Type 0
    Offered ones = EachOffered code.lines seen (end_at code t.control.place) t.control.place (length t.own.display) ones

    -- it waits
    waits_good : (at : Pos) (ws : WaitsAt) → Offered ws.accepts → AllOfTasks plan ws.accepts → Kept (on_own n (blocks Accepting at ws) c)
    waits_good at ws offered its =
        task_good plan code table tasks barriers seen sound fits ways n (λ u. record u { own = blocks Accepting at ws u.own }) c t is
        (subst (λ p. StandsAt code.lines seen p t.control t.own.display t.own.opened) (sym none) s.stands, (none, (subst (λ x. Found x (λ l. OpensAccept l.last × EachOffered code.lines seen l t.control.place (length t.own.display) ws.accepts)) (sym s.is) (opens, offered), (its, outside))))
        (waits_outside plan c n t.own at ws running still serves_none outside) (λ u h. h) w

    here : (a : OpenAccept) → IsOffered code.lines seen (end_at code t.control.place) t.control.place (length t.own.display) a → OpensHere plan code table tasks barriers seen sound fits ways a t
    here a offered = record {
      at = s;
      opens = opens;
      offered = offered;
      none = none;
      alive = ap is_over running;
      calls_none = λ o x. running_outside o t.own running outside x;
      outside = outside;
    }

    -- it accepts, or waits for a call
    accepts_one : (a : OpenAccept) → Offered (a ∷ []) → AllOfTasks plan (a ∷ []) → Kept (effect.accepts_call (orders plan code table tasks barriers seen sound fits ways) plan (flat_controls plan code).barrier a n c)
    accepts_one a offered its = by (queue n a.entry c.shared.calls) refl
      where
        by : (ws : List Waiting) → queue n a.entry c.shared.calls ≡ ws → Kept (effect.accepts_oldest (orders plan code table tasks barriers seen sound fits ways) plan (flat_controls plan code).barrier a ws n c)
        by [] e = waits_good a.at (record { accepts = a ∷ []; delays = []; terminate = false }) offered its
        by (x ∷ xs) e =
            let q = first_in n a.entry c x xs e in
            queued_meets plan code table tasks barriers seen sound fits ways a x.call n c t w is (here a offered.0) q.queued
            (its_task plan c n a.entry (call_of x.call c).owner (subst (λ k. IsEntryOf plan c (call_of x.call c).owner k) q.entry_is (w.framed.queued x.call q.queued)) its.0 q.owner_is)

    -- the first of those with the number that is picked
    first_good : (p : OpenAccept → Bool) (ones : List OpenAccept) → Offered ones → AllOfTasks plan ones → Kept (effect.selected_first (orders plan code table tasks barriers seen sound fits ways) plan (flat_controls plan code).barrier (filter p ones) n c)
    first_good p [] offered its = w
    first_good p (a ∷ more) offered its = by (p a) (first_good p more offered.1 its.1)
      where
        by : (b : Bool) → Kept (effect.selected_first (orders plan code table tasks barriers seen sound fits ways) plan (flat_controls plan code).barrier (filter p more) n c) → Kept (effect.selected_first (orders plan code table tasks barriers seen sound fits ways) plan (flat_controls plan code).barrier (if b then a ∷ filter p more else filter p more) n c)
        by true on = accepts_one a (offered.0, tt) (its.0, tt)
        by false on = on

    selects_with : (has_else : Bool) (waits : WaitsAt) (at : Pos) → (end_at code t.control.place).last ≡ Does (Select has_else) → Offered waits.accepts → AllOfTasks plan waits.accepts → (alternative : Option ℕ) → Kept (effect.selects (orders plan code table tasks barriers seen sound fits ways) plan (flat_controls plan code).barrier alternative has_else waits at n c)
    selects_with true waits at line offered its None = goes_on_good plan code table tasks barriers seen sound fits ways 0 n c t w is running none still (Select true, (line, tt))
    selects_with false waits at line offered its None =
        either_kept _ _ _ (raised_good plan code table tasks barriers seen sound fits ways (Predefined Program) at n c t w is running none still (Select false, line))
        (waits_good at waits offered its)
    selects_with has_else waits at line offered its (Some a) = first_good (λ (o : OpenAccept). nat_eq o.alternative a) waits.accepts offered its

  -- The step select.
  pub selects_good : (alternative : Option ℕ) (has_else : Bool) (waits : WaitsAt) (at : Pos) (n : ℕ) (c : All Spot) (t : TaskAt Spot) → Kept c → slice_get c.tasks n ≡ Some t → t.own.status ≡ Running → t.own.pending ≡ None → t.own.again ≡ None → t.own.serving ≡ None → objects_in t.own.opened ≡ [] → AllOfTasks plan waits.accepts → asked_at code None (scene_of plan (flat_controls plan code) n c) t.control ≡ selects has_else waits at → Kept (effect.selects (orders plan code table tasks barriers seen sound fits ways) plan (flat_controls plan code).barrier alternative has_else waits at n c)
  selects_good alternative has_else waits at n c t w is running none still serves_none outside its asks_it =
      selects_with n c t w is running none still serves_none outside (subst (λ last. OpensAccept last) (sym line) tt) has_else waits at line
      (subst (λ a. AcceptsAsked (EachOffered code.lines seen (end_at code t.control.place) t.control.place (length t.own.display)) a) asks_it
      (asked_accepts (EachOffered code.lines seen (end_at code t.control.place) t.control.place (length t.own.display)) (loops_of (end_at code t.control.place).exit) (end_at code t.control.place).at scene (end_at code t.control.place).last (eval false scene (instructions_at code t.control.place) 0 no_operands)
      (λ with_else o does reached. select_offers code table tasks barriers seen sound fits t.control.place t.control.returns t.own.display t.own.opened (end_at code t.control.place) s with_else scene o does reached)))
      its alternative
    where
      scene : Scene
      scene = scene_of plan (flat_controls plan code) n c

      s : StandsAtStep code seen t.control.place (end_at code t.control.place) t.control.returns t.own.display t.own.opened
      s = at_step plan code seen n c t w.spots is running none w.framed

      line : (end_at code t.control.place).last ≡ Does (Select has_else)
      line = subst (λ a. AskedBy (end_at code t.control.place).last (loops_of (end_at code t.control.place).exit) a) asks_it (asks code sound scene t.control s.begins)
