-- Blocks and procedures that are left at their end or by an exception.
use Rattle.std.proofs.Common.{◌≡◌, ◌⊎◌, ℕ, suc, List, [], ◌∷◌, Option, Some, None, true, refl, sym, ap, ◌∙◌, subst, inl, inr, slice_get, arith}
use Rattle.std.proofs.lemmas.Option.{same_Some}
use Rattle.aud_text.specs.declared.limits.Limits.{Limits}
use Rattle.aud_text.specs.declared.raise.Raise.TheVariants.{Program}
use Rattle.aud_typed.specs.declared.program.Exception.TheVariants.{Predefined}
use Rattle.aud_typed.specs.Tree.{Plan}
use Rattle.aud_meaning.specs.declared.state.Again.{Again}
use Rattle.aud_meaning.specs.declared.state.Construct.TheVariants as construct
use Rattle.aud_meaning.specs.declared.state.Pending.{Pending}
use Rattle.aud_meaning.specs.declared.state.Status.TheVariants.{Running}
use Rattle.aud_meaning.specs.Configuration.{for_block, for_procedure, Returning, Opened, Own, TaskAt, All}
use Rattle.aud_meaning.specs.Control.{ends, here, is_left_by, out_by, passes_end}
use Rattle.aud_meaning.specs.Effects.{closed, is_loop, out_of, out_of_loops, pends}
use Rattle.aud_meaning.specs.Parts.{Closable, changed, on_own, on_task, own_of}
use Rattle.aud_meaning.specs.Step.{done}
use Rattle.aud_meaning.specs.Tasks as effect
use Rattle.aud_code.specs.Places.{Spot}
use Rattle.aud_code.specs.Flat.{Flat, EndLine, Last, Does, Continues, Guards, Ends, Leaves, end_at, ended_in, flat_controls, left_by}
use Rattle.aud_code.specs.Frames.{found, Found}
use Rattle.aud_code.specs.Seen.{IsSeen}
use Rattle.aud_code.specs.Sound.{Counts, IsSound}
use Rattle.aud_code.specs.Starts.{IsSpot}
use Rattle.aud_code.proofs.Starts.{moved_kept}
use Rattle.aud_framed.specs.Held.{has_left, Holds, MayPend, StandsAt, StandsBy}
use Rattle.aud_framed.specs.Waiting.{TaskFramed}
use Rattle.aud_framed.specs.Calls.{RequeueFits}
use Rattle.aud_framed.specs.Ways.{LeadsTo, LeavesConstruct, Pends, StandsAtStep}
use Rattle.aud_framed.specs.Stepping.{DoesSome, HasWays}
use Rattle.aud_framed.proofs.Bodies.{ends_framed}
use Rattle.aud_framed.proofs.Exceptions.{left_framed}
use Rattle.aud_framed.proofs.Stepping.Blocks.{own_changed}
use Rattle.aud_framed.proofs.Stepping.Leaving.{Kept, left_closed, left_is, left_there, loops_quiet, returned_good}
use Rattle.aud_framed.proofs.Stepping.Lone.{at_step, begins_there, end_found, spot_of}
use Rattle.aud_framed.proofs.Stepping.Parts.{Likens, framed_at}
use Rattle.aud_framed.proofs.Stepping.Refusing.{Became, orders}
use Rattle.aud_framed.proofs.Stepping.Tasks.{fused, no_loops, unchanged}

-- A task that stands at a place whatever is pending there stands at a statement.
pub does_some : (code : Flat) (seen : List ℕ) (s : Spot) (display : List ℕ) (os : List Opened) → Pending → ((p : Option Pending) → StandsAt code.lines seen p s display os) → DoesSome (end_at code s.place).last
does_some code seen s display os p h = by (found code.lines s.place) (end_found code s.place _ (h None)) (h None) (h (Some p))
  where
    go : Option ℕ → Type 0
    go = λ w. Holds code.lines seen w s.returns os

    different : {n : ℕ} {o : Option ℕ} → o ≡ Some n → o ≡ Some (suc n) → ⊥
    different {n} e d = let wrong : n ≡ suc n = same_Some n (suc n) (sym e ∙ d) in absurd (omega (arith, wrong))

    kind : (last : Last) (l : EndLine) → MayPend None last × StandsBy code.lines seen (λ w. Holds code.lines seen w s.returns os) (has_left None last) l s.place display → MayPend (Some p) last × StandsBy code.lines seen (λ w. Holds code.lines seen w s.returns os) (has_left (Some p) last) l s.place display → DoesSome last
    kind (Does e) l a b = (e, refl)
    kind (Continues f) l a b = absurd b.0
    kind (Guards gs) l a b = absurd b.0
    kind (Ends construct.Unit next) l a b = absurd b.0
    kind (Ends construct.Block next) l a b = absurd (different a.1.0 b.1.0)
    kind (Ends construct.Accept next) l a b = absurd (different a.1.0 b.1.0)
    kind (Leaves n next) l a b = absurd b.0

    by : (x : Option EndLine) → x ≡ Some (end_at code s.place) → Found x (λ l. MayPend None l.last × StandsBy code.lines seen (λ w. Holds code.lines seen w s.returns os) (has_left None l.last) l s.place display) → Found x (λ l. MayPend (Some p) l.last × StandsBy code.lines seen (λ w. Holds code.lines seen w s.returns os) (has_left (Some p) l.last) l s.place display) → DoesSome (end_at code s.place).last
    by None e a b = absurd a
    by (Some l) e a b = subst (λ (y : EndLine). DoesSome y.last) (same_Some l (end_at code s.place) e) (kind l.last l a b)

pub first_same : (x y : Opened) (xs ys : List Opened) → x ∷ xs ≡ y ∷ ys → (x ≡ y) × (xs ≡ ys)
first_same x y xs ys e = (ap head e, ap tail e)
  where
    head : List Opened → Opened
    head [] = x
    head (z ∷ zs) = z

    tail : List Opened → List Opened
    tail [] = []
    tail (z ∷ zs) = zs

pub some_pending : Pending
some_pending = record { exception = Predefined Program; at = record { line = 0; col = 0 } }

module _ (plan : Plan) (code : Flat) (table : List Counts) (tasks barriers seen : List ℕ) (sound : IsSound code) (fits : IsSeen code table tasks barriers seen) (ways : HasWays code) where
  abbrev pub Good : All Spot → Type 0
  Good c = Kept plan code table tasks barriers seen sound fits ways c

  procedure_likens : (c : All Spot) (n : ℕ) (o : Opened) (os : List Opened) (r : Returning) → o.purpose ≡ for_procedure r → Likens plan c n (o ∷ os) os
  procedure_likens c n o os r e = subst (λ p. Likens plan c n (record o { purpose = p } ∷ os) os) (sym e) (record { within = λ x k. k; serves = λ k. k.1; calls = refl; objects = refl })

  -- The body of a procedure, wherever it is left to.
  module _ (n : ℕ) (c : All Spot) (t : TaskAt Spot) (o : Opened) (os : List Opened) (r : Returning) (to : Spot → Spot) (w : Good c) (is : slice_get c.tasks n ≡ Some t) (running : t.own.status ≡ Running) (still : t.own.again ≡ None) (inner : (out_of_loops t.own).opened ≡ o ∷ os) (procedure : o.purpose ≡ for_procedure r) (places : (s : Spot) → IsSpot code.lines s → IsSpot code.lines (to s)) (stands : (p : Option Pending) → StandsAt code.lines seen p (to t.control) o.saved os) (closable : Closable o.frame c ≡ true) where
    quiet : (q : Again) → t.own.again ≡ Some q → RequeueFits plan c q os
    quiet q e = let wrong : None ≡ Some q = sym still ∙ e in absurd cc

    around : Likens plan c n (o ∷ os) os
    around = procedure_likens c n o os r procedure

    same : Own → Own
    same = λ x. x

    abbrev gone : TaskAt Spot → TaskAt Spot
    gone u = record { control = to u.control; own = closed (out_of_loops (record u.own { pending = None })) }

    gone_is : (gone t).own ≡ record t.own { pending = None; display = o.saved; opened = os }
    gone_is = left_is plan code table tasks barriers seen sound fits ways n c t o os to (λ x. x) None w is running inner around quiet places (λ x. refl) refl (stands None)

    all_closed : Became plan code table tasks barriers seen sound fits ways (on_task n gone c) (effect.close_master (orders plan code table tasks barriers seen sound fits ways) plan (flat_controls plan code).barrier o.frame (on_task n gone c))
    all_closed = left_closed plan code table tasks barriers seen sound fits ways n c t o os to (λ x. x) None w is running inner around quiet places (λ x. refl) refl (stands None) closable

    there : slice_get (on_task n gone c).tasks n ≡ Some (gone t)
    there = left_there plan code table tasks barriers seen sound fits ways n c t o os to (λ x. x) None w is running inner around quiet places (λ x. refl) refl (stands None)

    gone_runs : (gone t).own.status ≡ Running
    gone_runs = ap (λ (x : Own). x.status) gone_is ∙ running

    pub procedure_left : (p : Option Pending) → Good (effect.returned_or (orders plan code table tasks barriers seen sound fits ways) plan (flat_controls plan code).barrier p r o.frame o.at n (effect.close_master (orders plan code table tasks barriers seen sound fits ways) plan (flat_controls plan code).barrier o.frame (on_task n gone c)))
    procedure_left p =
        returned_good plan code table tasks barriers seen sound fits ways p r o.frame o.at n _ (gone t) all_closed.good (all_closed.run n (gone t) there gone_runs) gone_runs (ap (λ (x : Own). x.pending) gone_is) (ap (λ (x : Own). x.again) gone_is ∙ still)
        (does_some code seen (to t.control) o.saved os some_pending stands)

  -- The leaving step.

  module _ (n : ℕ) (c : All Spot) (t : TaskAt Spot) (o : Opened) (os : List Opened) (to : Spot → Spot) (alternative : Option ℕ) (p : Option Pending) (is : slice_get c.tasks n ≡ Some t) (inner : (out_of_loops (record t.own { pending = None })).opened ≡ o ∷ os) where
    abbrev start : TaskAt Spot → TaskAt Spot
    start u = record u { control = to u.control; own = record u.own { pending = None } }

    innermost_is : (out_of_loops (own_of n (on_task n start c))).opened ≡ o ∷ os
    innermost_is = ap (λ (x : Own). (out_of_loops x).opened) (own_changed n start c.tasks t is) ∙ inner

    both : changed n (λ (u : TaskAt Spot). record u { own = closed u.own }) (changed n (λ (u : TaskAt Spot). record u { own = out_of_loops u.own }) (changed n start c.tasks)) ≡ changed n (λ (u : TaskAt Spot). record { control = to u.control; own = closed (out_of_loops (record u.own { pending = None })) }) c.tasks
    both =
        fused n (λ (u : TaskAt Spot). record u { own = closed u.own }) (λ (u : TaskAt Spot). record u { own = out_of_loops u.own }) (changed n start c.tasks)
        ∙ fused n (λ (u : TaskAt Spot). record u { own = closed (out_of_loops u.own) }) start c.tasks

    pub procedure_end_is : (r : Returning) → o.purpose ≡ for_procedure r → effect.at_end (orders plan code table tasks barriers seen sound fits ways) plan (flat_controls plan code).barrier alternative p n (on_task n start c) ≡ effect.returned_or (orders plan code table tasks barriers seen sound fits ways) plan (flat_controls plan code).barrier p r o.frame o.at n (effect.close_master (orders plan code table tasks barriers seen sound fits ways) plan (flat_controls plan code).barrier o.frame (on_task n (λ (u : TaskAt Spot). record { control = to u.control; own = closed (out_of_loops (record u.own { pending = None })) }) c))
    procedure_end_is r e =
        ap (λ ps. effect.at_end_of (orders plan code table tasks barriers seen sound fits ways) plan (flat_controls plan code).barrier alternative ps p n (on_task n start c)) innermost_is
        ∙ (ap (λ q. effect.at_end_by (orders plan code table tasks barriers seen sound fits ways) plan (flat_controls plan code).barrier alternative q p o n (on_task n start c)) e
        ∙ ap (λ ts. effect.returned_or (orders plan code table tasks barriers seen sound fits ways) plan (flat_controls plan code).barrier p r o.frame o.at n (effect.close_master (orders plan code table tasks barriers seen sound fits ways) plan (flat_controls plan code).barrier o.frame (record c { tasks = ts }))) both)

  -- The normal end of a procedure.

  pub procedure_ended : (limits : Limits) (alternative : Option ℕ) (n : ℕ) (c : All Spot) (t : TaskAt Spot) (o : Opened) (os : List Opened) (r : Returning) (next : ℕ) → Good c → slice_get c.tasks n ≡ Some t → t.own.status ≡ Running → t.own.pending ≡ None → t.own.again ≡ None → t.own.opened ≡ o ∷ os → o.purpose ≡ for_procedure r → (end_at code t.control.place).last ≡ Ends construct.Unit next → Closable o.frame c ≡ true → Good (done (orders plan code table tasks barriers seen sound fits ways) plan (flat_controls plan code).barrier limits alternative (ends 0) n c)
  procedure_ended limits alternative n c t o os r next w is running none still opened procedure ending closable =
      subst (λ d. Good (on_own n (out_of 0) d)) (sym (procedure_end_is n c t o os behind alternative None is inner r procedure))
      (subst (λ ts. Good (record after { tasks = ts })) (sym (unchanged n (λ (u : TaskAt Spot). record u { own = out_of 0 u.own }) after.tasks (λ u. refl)))
      (procedure_left n c t o os r behind w is running still (ap (λ (x : Own). x.opened) (no_loops t.own o os opened (ap is_loop procedure)) ∙ opened) procedure (λ s h. moved_kept code sound plan (passes_end here) s h) stands closable None))
    where
      behind : Spot → Spot
      behind = (orders plan code table tasks barriers seen sound fits ways).behind

      inner : (out_of_loops (record t.own { pending = None })).opened ≡ o ∷ os
      inner = ap (λ (x : Own). x.opened) (no_loops (record t.own { pending = None }) o os opened (ap is_loop procedure)) ∙ opened

      after : All Spot
      after =
          effect.returned_or (orders plan code table tasks barriers seen sound fits ways) plan (flat_controls plan code).barrier None r o.frame o.at n
          (effect.close_master (orders plan code table tasks barriers seen sound fits ways) plan (flat_controls plan code).barrier o.frame
          (on_task n (λ (u : TaskAt Spot). record { control = (orders plan code table tasks barriers seen sound fits ways).behind u.control; own = closed (out_of_loops (record u.own { pending = None })) }) c))

      step : StandsAtStep code seen t.control.place (end_at code t.control.place) t.control.returns t.own.display (o ∷ os)
      step = subst (λ ps. StandsAtStep code seen t.control.place (end_at code t.control.place) t.control.returns t.own.display ps) opened (at_step plan code seen n c t w.spots is running none w.framed)

      stands : (p : Option Pending) → StandsAt code.lines seen p ((orders plan code table tasks barriers seen sound fits ways).behind t.control) o.saved os
      stands =
          subst (λ q. LeadsTo code seen (StandsAt code.lines seen None (ended_in code (end_at code t.control.place).last t.control) o.saved os) q (ended_in code (end_at code t.control.place).last t.control) o.saved os) procedure
          (ends_framed code table tasks barriers seen sound fits t.control.place next t.control.returns t.own.display o os (end_at code t.control.place) step construct.Unit ending)

  -- An exception leaves a block or a procedure.

  pub block_end_is : (n : ℕ) (c : All Spot) (t : TaskAt Spot) (o : Opened) (os : List Opened) (to : Spot → Spot) (alternative : Option ℕ) (p : Pending) → slice_get c.tasks n ≡ Some t → (out_of_loops (record t.own { pending = None })).opened ≡ o ∷ os → o.purpose ≡ for_block → effect.at_end (orders plan code table tasks barriers seen sound fits ways) plan (flat_controls plan code).barrier alternative (Some p) n (on_task n (λ (u : TaskAt Spot). record u { control = to u.control; own = record u.own { pending = None } }) c) ≡ effect.close_master (orders plan code table tasks barriers seen sound fits ways) plan (flat_controls plan code).barrier o.frame (on_task n (λ (u : TaskAt Spot). record { control = to u.control; own = pends p.exception o.at (closed (out_of_loops (record u.own { pending = None }))) }) c)
  block_end_is n c t o os to alternative p is inner e =
      ap (λ ps. effect.at_end_of (orders plan code table tasks barriers seen sound fits ways) plan (flat_controls plan code).barrier alternative ps (Some p) n (on_task n start c)) (ap (λ (x : Own). (out_of_loops x).opened) (own_changed n start c.tasks t is) ∙ inner)
      ∙ (ap (λ q. effect.at_end_by (orders plan code table tasks barriers seen sound fits ways) plan (flat_controls plan code).barrier alternative q (Some p) o n (on_task n start c)) e
      ∙ ap (λ ts. effect.close_master (orders plan code table tasks barriers seen sound fits ways) plan (flat_controls plan code).barrier o.frame (record c { tasks = ts }))
      (fused n (λ (u : TaskAt Spot). record u { own = pends p.exception o.at (closed u.own) }) (λ (u : TaskAt Spot). record u { own = out_of_loops u.own }) (changed n start c.tasks)
      ∙ fused n (λ (u : TaskAt Spot). record u { own = pends p.exception o.at (closed (out_of_loops u.own)) }) start c.tasks))
    where
      start : TaskAt Spot → TaskAt Spot
      start = λ u. record u { control = to u.control; own = record u.own { pending = None } }

  pub left_by_exception : (limits : Limits) (alternative : Option ℕ) (n : ℕ) (c : All Spot) (t : TaskAt Spot) (o : Opened) (os : List Opened) (p : Pending) → Good c → slice_get c.tasks n ≡ Some t → t.own.status ≡ Running → t.own.pending ≡ Some p → t.own.again ≡ None → (out_of_loops t.own).opened ≡ o ∷ os → (o.purpose ≡ for_block) ⊎ ((r : Returning) × (o.purpose ≡ for_procedure r)) → Closable o.frame c ≡ true → Good (done (orders plan code table tasks barriers seen sound fits ways) plan (flat_controls plan code).barrier limits alternative (is_left_by p) n c)
  left_by_exception limits alternative n c t o os p w is running pending still inner kind closable = by kind
    where
      to : Spot → Spot
      to = (orders plan code table tasks barriers seen sound fits ways).left p.exception

      places : (s : Spot) → IsSpot code.lines s → IsSpot code.lines ((orders plan code table tasks barriers seen sound fits ways).left p.exception s)
      places s h = moved_kept code sound plan (out_by p.exception here) s h

      stands_here : StandsAt code.lines seen (Some p) t.control t.own.display t.own.opened
      stands_here =
          subst (λ q. StandsAt code.lines seen q t.control t.own.display t.own.opened) pending
          (subst (λ st. TaskFramed plan code seen st t) running (framed_at plan code seen n c.tasks t is w.framed.tasks))

      pends_here : Pends code seen t.control.place (end_at code t.control.place) t.control.returns t.own.display t.own.opened p
      pends_here = record { begins = begins_there code.lines t.control.place _ stands_here (spot_of code.lines n c.tasks t is w.spots).place; is = end_found code t.control.place _ stands_here; stands = stands_here }

      out : LeavesConstruct code seen (left_by code (end_at code t.control.place).out t.control) t.own
      out = left_framed code table tasks barriers seen sound fits t.control.place t.control.returns t.own (end_at code t.control.place) p pends_here

      same : (out.o ≡ o) × (out.os ≡ os)
      same = first_same out.o o out.os os (sym out.opened ∙ inner)

      leads : LeadsTo code seen ((q : Pending) → StandsAt code.lines seen (Some q) (left_by code (end_at code t.control.place).out t.control) o.saved os) o.purpose (left_by code (end_at code t.control.place).out t.control) o.saved os
      leads =
          subst (λ ps. LeadsTo code seen ((q : Pending) → StandsAt code.lines seen (Some q) (left_by code (end_at code t.control.place).out t.control) o.saved ps) o.purpose (left_by code (end_at code t.control.place).out t.control) o.saved ps) same.1
          (subst (λ (x : Opened). LeadsTo code seen ((q : Pending) → StandsAt code.lines seen (Some q) (left_by code (end_at code t.control.place).out t.control) x.saved out.os) x.purpose (left_by code (end_at code t.control.place).out t.control) x.saved out.os) same.0 out.leads)

      quiet : (q : Again) → t.own.again ≡ Some q → RequeueFits plan c q os
      quiet q e = let wrong : None ≡ Some q = sym still ∙ e in absurd cc

      inner_quiet : (out_of_loops (record t.own { pending = None })).opened ≡ o ∷ os
      inner_quiet = loops_quiet t.own.opened t.own ∙ inner

      by : (o.purpose ≡ for_block) ⊎ ((r : Returning) × (o.purpose ≡ for_procedure r)) → Good (done (orders plan code table tasks barriers seen sound fits ways) plan (flat_controls plan code).barrier limits alternative (is_left_by p) n c)
      by (inl block) =
          let q : Pending = record { exception = p.exception; at = o.at } in
          let around : Likens plan c n (o ∷ os) os = subst (λ x. Likens plan c n (record o { purpose = x } ∷ os) os) (sym block) (record { within = λ x k. k; serves = λ k. k.1; calls = refl; objects = refl }) in
          let stands : StandsAt code.lines seen (Some q) (left_by code (end_at code t.control.place).out t.control) o.saved os =
          subst (λ x. LeadsTo code seen ((q : Pending) → StandsAt code.lines seen (Some q) (left_by code (end_at code t.control.place).out t.control) o.saved os) x (left_by code (end_at code t.control.place).out t.control) o.saved os) block leads q in
          subst (λ d. Good d) (sym (block_end_is n c t o os ((orders plan code table tasks barriers seen sound fits ways).left p.exception) alternative p is inner_quiet block))
          (left_closed plan code table tasks barriers seen sound fits ways n c t o os ((orders plan code table tasks barriers seen sound fits ways).left p.exception) (pends p.exception o.at) (Some q) w is running inner around quiet places (λ x. refl) refl stands closable).good
      by (inr procedure) =
          subst (λ d. Good d) (sym (procedure_end_is n c t o os ((orders plan code table tasks barriers seen sound fits ways).left p.exception) alternative (Some p) is inner_quiet procedure.0 procedure.1))
          (procedure_left n c t o os procedure.0 ((orders plan code table tasks barriers seen sound fits ways).left p.exception) w is running still inner procedure.1 places
          (subst (λ x. LeadsTo code seen ((q : Pending) → StandsAt code.lines seen (Some q) (left_by code (end_at code t.control.place).out t.control) o.saved os) x (left_by code (end_at code t.control.place).out t.control) o.saved os) procedure.1 leads)
          closable (Some p))
