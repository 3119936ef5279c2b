-- Exceptions in declarative parts, and blocks that are left at their end.
use Rattle.std.proofs.Common.{◌≡◌, ℕ, zero, suc, List, [], ◌∷◌, Option, Some, None, true, false, refl, sym, ap, ◌∙◌, subst, slice_get}
use Rattle.std.proofs.lemmas.Option.{same_Some}
use Rattle.aud_text.specs.declared.limits.Limits.{Limits}
use Rattle.aud_text.specs.declared.place.Pos.{Pos}
use Rattle.aud_text.specs.declared.raise.Raise.{Raise}
use Rattle.aud_typed.specs.declared.program.Exception.{Exception}
use Rattle.aud_typed.specs.declared.program.Exception.TheVariants.{Predefined}
use Rattle.aud_typed.specs.Tree.{Plan}
use Rattle.aud_meaning.specs.declared.state.Again.{Again}
use Rattle.aud_meaning.specs.declared.state.Construct.TheVariants as construct
use Rattle.aud_meaning.specs.declared.state.Pending.{Pending}
use Rattle.aud_meaning.specs.declared.state.Status.TheVariants.{Running}
use Rattle.aud_meaning.specs.Configuration.{for_block, Opened, Own, TaskAt, All}
use Rattle.aud_meaning.specs.Control.{ends, here, passes_end}
use Rattle.aud_meaning.specs.Effects.{closed, closed_by, innermost, is_loop, out_of, out_of_loops, pends}
use Rattle.aud_meaning.specs.Parts.{Closable, changed, is_over, on_own, on_task, own_of}
use Rattle.aud_meaning.specs.Step.{done}
use Rattle.aud_meaning.specs.Tasks as effect
use Rattle.aud_meaning.proofs.Limits.Frames.{nth}
use Rattle.aud_meaning.proofs.Open.Tasks.{Core, closed_core, loops_core}
use Rattle.aud_code.specs.Places.{Spot}
use Rattle.aud_code.specs.Flat.{Flat, Ends, end_at, ended_in, flat_controls}
use Rattle.aud_code.specs.Seen.{IsSeen}
use Rattle.aud_code.specs.Sound.{Counts, IsSound}
use Rattle.aud_code.proofs.Starts.{moved_kept}
use Rattle.aud_framed.specs.Held.{StandsAt}
use Rattle.aud_framed.specs.Waiting.{TaskFramed}
use Rattle.aud_framed.specs.Calls.{AgainFits, RequeueFits}
use Rattle.aud_framed.specs.Ways.{StandsAtStep}
use Rattle.aud_framed.specs.Stepping.{DoesSome, HasWays}
use Rattle.aud_framed.proofs.Steps.{block_framed}
use Rattle.aud_framed.proofs.Stepping.Closing.{master_closed, part_terminated}
use Rattle.aud_framed.proofs.Stepping.Ending.{Good}
use Rattle.aud_framed.proofs.Stepping.Refusing.{Became, orders}
use Rattle.aud_framed.proofs.Stepping.Going.{pends_there}
use Rattle.aud_framed.proofs.Stepping.Handling.{loops_side}
use Rattle.aud_framed.proofs.Stepping.Lone.{at_step}
use Rattle.aud_framed.proofs.Stepping.Parts.{Follows, Likens, follows, like_frames, own_got, same_task, side}
use Rattle.aud_framed.proofs.Stepping.Tasks.{closable_same, dependent, fused, left_own, no_loops, task_good, unchanged}

closed_side_by : (os : List Opened) (own : Own) → side (closed_by os own) ≡ side own
closed_side_by [] own = refl
closed_side_by (o ∷ os) own = refl

-- out of loops and then of the innermost construct
pub left_side : (own : Own) → side (closed (out_of_loops own)) ≡ side own
left_side own = closed_side_by (out_of_loops own).opened (out_of_loops own) ∙ loops_side own.opened own

pub left_core : (own : Own) → (closed (out_of_loops own)).abnormal ≡ own.abnormal
left_core own = ap (λ (k : Core). k.abnormal) (closed_core (out_of_loops own)) ∙ ap (λ (k : Core). k.abnormal) (loops_core own)

pub own_changed : (n : ℕ) (f : TaskAt Spot → TaskAt Spot) (ts : List (TaskAt Spot)) (t : TaskAt Spot) → slice_get ts n ≡ Some t → nth n (changed n f ts) ≡ (f t).own
own_changed n f [] t e = absurd cc
own_changed zero f (x ∷ xs) t e = ap (λ (y : TaskAt Spot). (f y).own) (same_Some x t e)
own_changed (suc n) f (x ∷ xs) t e = own_changed n f xs t e

module _ (plan : Plan) (code : Flat) (table : List Counts) (tasks barriers seen : List ℕ) (sound : IsSound code) (fits : IsSeen code table tasks barriers seen) (ways : HasWays code) where
  abbrev pub Kept : All Spot → Type 0
  Kept c = Good plan code table tasks barriers seen sound fits ways c

  -- an exception is raised at a statement
  pub raised_good : (x : Exception) (at : Pos) (n : ℕ) (c : All Spot) (t : TaskAt Spot) → Kept c → slice_get c.tasks n ≡ Some t → t.own.status ≡ Running → t.own.pending ≡ None → t.own.again ≡ None → DoesSome (end_at code t.control.place).last → Kept (on_own n (pends x at) c)
  raised_good x at n c t w is running none still d =
      let s = at_step plan code seen n c t w.spots is running none w.framed in
      let p : Pending = record { exception = x; at = at } in
      task_good plan code table tasks barriers seen sound fits ways n (λ u. record u { own = pends x at u.own }) c t is
      (subst (λ st. TaskFramed plan code seen st (record t { own = pends x at t.own })) (sym running)
      (pends_there code table tasks barriers seen sound fits ways t.control.place t.control.returns t.own.display t.own.opened (end_at code t.control.place) s p d))
      (follows plan c n t.own (pends x at t.own) refl (λ r e. let wrong : None ≡ Some r = sym still ∙ e in absurd cc) (like_frames plan c n t.own.opened)) (λ u h. h) w

  -- in a declarative part
  pub raised_in_part : (raise : Raise) (at : Pos) (n : ℕ) (c : All Spot) (t : TaskAt Spot) → Kept c → slice_get c.tasks n ≡ Some t → t.own.status ≡ Running → t.own.pending ≡ None → t.own.again ≡ None → DoesSome (end_at code t.control.place).last → Kept (effect.raises_in_part (orders plan code table tasks barriers seen sound fits ways) plan (flat_controls plan code).barrier raise at n c)
  raised_in_part raise at n c t w is running none still d =
      let part : ℕ = innermost (own_of n c).opened in
      let once = part_terminated plan code table tasks barriers seen sound fits ways part c w in
      raised_good (Predefined raise) at n _ t once.good (once.run n t is running) running none still d

  -- The innermost construct is left at its end: its frame, which is no loop's, has no number of a call or object.

  module _ (n : ℕ) (c : All Spot) (t : TaskAt Spot) (o : Opened) (os : List Opened) (w : Kept c) (is : slice_get c.tasks n ≡ Some t) (running : t.own.status ≡ Running) (opened : t.own.opened ≡ o ∷ os) (no_loop : is_loop o.purpose ≡ false) (around : Likens plan c n (o ∷ os) os) (requeues : (r : Again) → RequeueFits plan c r (o ∷ os) → RequeueFits plan c r os) (stands : StandsAt code.lines seen None ((orders plan code table tasks barriers seen sound fits ways).behind t.control) o.saved os) where
    abbrev behind : Spot → Spot
    behind = (orders plan code table tasks barriers seen sound fits ways).behind

    abbrev pub left_end : TaskAt Spot → TaskAt Spot
    left_end u = record { control = (orders plan code table tasks barriers seen sound fits ways).behind u.control; own = closed (out_of_loops (record u.own { pending = None })) }

    pub left_is : (left_end t).own ≡ record t.own { pending = None; display = o.saved; opened = os }
    left_is = left_own (record t.own { pending = None }) o os opened no_loop

    framed : TaskFramed plan code seen (left_end t).own.status (left_end t)
    framed =
        subst (λ (x : Own). TaskFramed plan code seen x.status (record { control = behind t.control; own = x })) (sym left_is)
        (subst (λ st. TaskFramed plan code seen st (record { control = behind t.control; own = record t.own { pending = None; display = o.saved; opened = os } })) (sym running) stands)

    requeues_on : (r : Again) → t.own.again ≡ Some r → AgainFits plan c r (record t.own { pending = None; display = o.saved; opened = os })
    requeues_on r e =
        let live : is_over (own_of n c).status ≡ false = ap (λ (x : Own). is_over x.status) (own_got n c.tasks t is) ∙ ap is_over running in
        let fits_all : AgainFits plan c r (own_of n c) = (w.framed.serves n live).again r (ap (λ (x : Own). x.again) (own_got n c.tasks t is) ∙ e) in
        let mine : AgainFits plan c r t.own = subst (λ x. AgainFits plan c r x) (own_got n c.tasks t is) fits_all in
        (requeues r (subst (λ ps. RequeueFits plan c r ps) opened mine.0), mine.1)

    kept : Follows plan c n t.own (left_end t).own
    kept =
        subst (λ x. Follows plan c n t.own x) (sym left_is)
        (follows plan c n t.own (record t.own { pending = None; display = o.saved; opened = os }) refl requeues_on (subst (λ ps. Likens plan c n ps os) (sym opened) around))

    pub left_good : Kept (on_task n left_end c)
    left_good =
        task_good plan code table tasks barriers seen sound fits ways n left_end c t is framed kept
        (λ u h. moved_kept code sound plan (passes_end here) u.control h) w

    pub same_master : Closable o.frame (on_task n left_end c) ≡ Closable o.frame c
    same_master =
        closable_same o.frame n left_end c
        (λ u g. subst (λ y. dependent (left_end y).own ≡ dependent y.own) (same_task n c.tasks t u is g) (ap (λ (x : Own). dependent x) left_is))

    abbrev pub first : TaskAt Spot → TaskAt Spot
    first u = record u { control = (orders plan code table tasks barriers seen sound fits ways).behind u.control; own = record u.own { pending = None } }

    pub innermost_is : (out_of_loops (own_of n (on_task n first c))).opened ≡ o ∷ os
    innermost_is =
        ap (λ (x : Own). (out_of_loops x).opened) (own_changed n first c.tasks t is)
        ∙ (ap (λ (x : Own). x.opened) (no_loops (record t.own { pending = None }) o os opened no_loop) ∙ opened)

    pub both : changed n (λ (u : TaskAt Spot). record u { own = closed u.own }) (changed n (λ (u : TaskAt Spot). record u { own = out_of_loops u.own }) (changed n first c.tasks)) ≡ changed n left_end c.tasks
    both =
        fused n (λ (u : TaskAt Spot). record u { own = closed u.own }) (λ (u : TaskAt Spot). record u { own = out_of_loops u.own }) (changed n first c.tasks)
        ∙ fused n (λ (u : TaskAt Spot). record u { own = closed (out_of_loops u.own) }) first c.tasks

  -- The end of a block.

  pub block_ended : (limits : Limits) (alternative : Option ℕ) (n : ℕ) (c : All Spot) (t : TaskAt Spot) (o : Opened) (os : List Opened) (next : ℕ) → Kept c → slice_get c.tasks n ≡ Some t → t.own.status ≡ Running → t.own.pending ≡ None → t.own.opened ≡ o ∷ os → o.purpose ≡ for_block → (end_at code t.control.place).last ≡ Ends construct.Block next → Closable o.frame c ≡ true → Kept (done (orders plan code table tasks barriers seen sound fits ways) plan (flat_controls plan code).barrier limits alternative (ends 0) n c)
  block_ended limits alternative n c t o os next w is running none opened block ending h =
      subst (λ d. Kept (on_own n (out_of 0) d)) (sym (ap (λ ps. leaving ps) (innermost_is n c t o os w is running opened no_loop around requeues stands) ∙ leaving_is))
      (subst (λ ts. Kept (record after { tasks = ts })) (sym (unchanged n (λ (u : TaskAt Spot). record u { own = out_of 0 u.own }) after.tasks (λ u. refl))) closed_all.good)
    where
      behind : Spot → Spot
      behind = (orders plan code table tasks barriers seen sound fits ways).behind

      left : TaskAt Spot → TaskAt Spot
      left u = record { control = (orders plan code table tasks barriers seen sound fits ways).behind u.control; own = closed (out_of_loops (record u.own { pending = None })) }

      begun : TaskAt Spot → TaskAt Spot
      begun u = record u { control = (orders plan code table tasks barriers seen sound fits ways).behind u.control; own = record u.own { pending = None } }

      no_loop : is_loop o.purpose ≡ false
      no_loop = ap is_loop block

      step : StandsAtStep code seen t.control.place (end_at code t.control.place) t.control.returns t.own.display (o ∷ os)
      step = subst (λ ps. StandsAtStep code seen t.control.place (end_at code t.control.place) t.control.returns t.own.display ps) opened (at_step plan code seen n c t w.spots is running none w.framed)

      stands : StandsAt code.lines seen None ((orders plan code table tasks barriers seen sound fits ways).behind t.control) o.saved os
      stands =
          subst (λ last. StandsAt code.lines seen None (ended_in code last t.control) o.saved os) (sym ending)
          (block_framed code table tasks barriers seen sound fits t.control.place next t.control.returns t.own.display o os (end_at code t.control.place) step ending)

      around : Likens plan c n (o ∷ os) os
      around = subst (λ p. Likens plan c n (record o { purpose = p } ∷ os) os) (sym block) (record { within = λ x k. k; serves = λ k. k.1; calls = refl; objects = refl })

      requeues : (r : Again) → RequeueFits plan c r (o ∷ os) → RequeueFits plan c r os
      requeues r k = subst (λ p. RequeueFits plan c r (record o { purpose = p } ∷ os)) block k

      leaving : List Opened → All Spot
      leaving ps = effect.at_end_of (orders plan code table tasks barriers seen sound fits ways) plan (flat_controls plan code).barrier alternative ps None n (on_task n begun c)

      after : All Spot
      after = effect.close_master (orders plan code table tasks barriers seen sound fits ways) plan (flat_controls plan code).barrier o.frame (on_task n left c)

      leaving_is : leaving (o ∷ os) ≡ after
      leaving_is =
          ap (λ p. effect.at_end_by (orders plan code table tasks barriers seen sound fits ways) plan (flat_controls plan code).barrier alternative p None o n (on_task n begun c)) block
          ∙ ap (λ ts. effect.close_master (orders plan code table tasks barriers seen sound fits ways) plan (flat_controls plan code).barrier o.frame (record c { tasks = ts })) (both n c t o os w is running opened no_loop around requeues stands)

      closed_all : Became plan code table tasks barriers seen sound fits ways (on_task n left c) after
      closed_all =
          master_closed plan code table tasks barriers seen sound fits ways o.frame (on_task n left c) (left_good n c t o os w is running opened no_loop around requeues stands)
          (same_master n c t o os w is running opened no_loop around requeues stands ∙ h)
