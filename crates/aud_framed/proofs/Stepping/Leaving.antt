-- The innermost construct is left, at its end or by an exception: a block or a procedure's body.
use Rattle.std.proofs.Common.{◌≡◌, ℕ, zero, suc, List, [], ◌∷◌, Option, Some, None, Bool, true, false, refl, sym, ap, ◌∙◌, subst, if◌then◌else◌, slice_get}
use Rattle.std.specs.Prelude.{◌&&◌, is_none}
use Rattle.std.proofs.lemmas.Option.{same_Some}
use Rattle.aud_text.specs.declared.place.Pos.{Pos}
use Rattle.aud_text.specs.declared.raise.Raise.{Raise}
use Rattle.aud_text.specs.declared.raise.Raise.TheVariants.{Program}
use Rattle.aud_typed.specs.declared.program.Exception.TheVariants.{Predefined}
use Rattle.aud_typed.specs.Tree.{Plan}
use Rattle.aud_meaning.specs.declared.state.Again.{Again}
use Rattle.aud_meaning.specs.declared.state.Pending.{Pending}
use Rattle.aud_meaning.specs.declared.state.Status.TheVariants.{Running}
use Rattle.aud_meaning.specs.Configuration.{Returning, Opened, Own, TaskAt, All}
use Rattle.aud_meaning.specs.Control.{here, takes_part}
use Rattle.aud_meaning.specs.Effects.{CopiedBack, closed, closed_by, is_loop, out_of_loops, out_of_loops_by}
use Rattle.aud_meaning.specs.Parts.{Closable, changed, is_over, on_task, with_frames}
use Rattle.aud_meaning.specs.Tasks as effect
use Rattle.aud_code.specs.Places.{Spot}
use Rattle.aud_code.specs.Flat.{Flat, end_at, flat_controls}
use Rattle.aud_code.specs.Seen.{IsSeen}
use Rattle.aud_code.specs.Sound.{Counts, IsSound}
use Rattle.aud_code.specs.Starts.{IsSpot}
use Rattle.aud_code.proofs.Starts.{moved_kept}
use Rattle.aud_framed.specs.Held.{StandsAt}
use Rattle.aud_framed.specs.Waiting.{TaskFramed}
use Rattle.aud_framed.specs.Calls.{AgainFits, RequeueFits}
use Rattle.aud_framed.specs.Stepping.{DoesSome, HasWays}
use Rattle.aud_framed.proofs.Stepping.Blocks.{raised_good}
use Rattle.aud_framed.proofs.Stepping.Closing.{master_closed}
use Rattle.aud_framed.proofs.Stepping.Ending.{Good, with_frames_good}
use Rattle.aud_framed.proofs.Stepping.Going.{first_goes}
use Rattle.aud_framed.proofs.Stepping.Lone.{at_step}
use Rattle.aud_framed.proofs.Stepping.Parts.{Follows, Likens, follows, like_frames, own_got, same_task}
use Rattle.aud_framed.proofs.Stepping.Handling.{loops_likens}
use Rattle.aud_framed.proofs.Stepping.Refusing.{Became, orders}
use Rattle.aud_framed.proofs.Stepping.Tasks.{closable_same, dependent, task_good}
use Rattle.aud_framed.proofs.Stepping.Parts.{then_frames}

-- Out of loops only what is seen and open changes.

loops_shape : (os : List Opened) (own : Own) → out_of_loops_by os own ≡ record own { display = (out_of_loops_by os own).display; opened = (out_of_loops_by os own).opened }
loops_shape [] own = refl
loops_shape (o ∷ os) own = by (is_loop o.purpose) (loops_shape os (record own { display = o.saved; opened = os }))
  where
    by : (b : Bool) → out_of_loops_by os (record own { display = o.saved; opened = os }) ≡ record own { display = (out_of_loops_by os (record own { display = o.saved; opened = os })).display; opened = (out_of_loops_by os (record own { display = o.saved; opened = os })).opened } → (if b then out_of_loops_by os (record own { display = o.saved; opened = os }) else own) ≡ record own { display = (if b then out_of_loops_by os (record own { display = o.saved; opened = os }) else own).display; opened = (if b then out_of_loops_by os (record own { display = o.saved; opened = os }) else own).opened }
    by true e = e
    by false e = refl

pub loops_quiet : (os : List Opened) (own : Own) → (out_of_loops_by os (record own { pending = None })).opened ≡ (out_of_loops_by os own).opened
loops_quiet [] own = refl
loops_quiet (o ∷ os) own = by (is_loop o.purpose) (loops_quiet os (record own { display = o.saved; opened = os }))
  where
    by : (b : Bool) → (out_of_loops_by os (record own { pending = None; display = o.saved; opened = os })).opened ≡ (out_of_loops_by os (record own { display = o.saved; opened = os })).opened → (if b then out_of_loops_by os (record own { pending = None; display = o.saved; opened = os }) else record own { pending = None }).opened ≡ (if b then out_of_loops_by os (record own { display = o.saved; opened = os }) else own).opened
    by true e = e
    by false e = refl

-- the innermost construct behind loops
pub left_shape : (own : Own) (o : Opened) (os : List Opened) → (out_of_loops own).opened ≡ o ∷ os → closed (out_of_loops own) ≡ record own { display = o.saved; opened = os }
left_shape own o os e = ap (λ ps. closed_by ps (out_of_loops own)) e ∙ ap (λ (x : Own). record x { display = o.saved; opened = os }) (loops_shape own.opened own)

pub got_changed : (n : ℕ) (f : TaskAt Spot → TaskAt Spot) (ts : List (TaskAt Spot)) (t : TaskAt Spot) → slice_get ts n ≡ Some t → slice_get (changed n f ts) n ≡ Some (f t)
got_changed n f [] t e = absurd cc
got_changed zero f (x ∷ xs) t e = ap (λ y. Some (f y)) (same_Some x t e)
got_changed (suc n) f (x ∷ xs) t e = got_changed n f xs t e

module _ (plan : Plan) (code : Flat) (table : List Counts) (tasks barriers seen : List ℕ) (sound : IsSound code) (fits : IsSeen code table tasks barriers seen) (ways : HasWays code) where
  abbrev pub Kept : All Spot → Type 0
  Kept c = Good plan code table tasks barriers seen sound fits ways c

  -- where the task goes on, and what is pending there
  module _ (n : ℕ) (c : All Spot) (t : TaskAt Spot) (o : Opened) (os : List Opened) (to : Spot → Spot) (leave : Own → Own) (q : Option Pending) (w : Kept c) (is : slice_get c.tasks n ≡ Some t) (running : t.own.status ≡ Running) (inner : (out_of_loops t.own).opened ≡ o ∷ os) (around : Likens plan c n (o ∷ os) os) (again : (r : Again) → t.own.again ≡ Some r → RequeueFits plan c r os) (places : (s : Spot) → IsSpot code.lines s → IsSpot code.lines (to s)) (pending : (x : Own) → leave x ≡ record x { pending = (leave x).pending }) (leaves_it : leave (record t.own { pending = None; display = o.saved; opened = os }) ≡ record t.own { pending = q; display = o.saved; opened = os }) (stands : StandsAt code.lines seen q (to t.control) o.saved os) where
    abbrev pub left : TaskAt Spot → TaskAt Spot
    left u = record { control = to u.control; own = leave (closed (out_of_loops (record u.own { pending = None }))) }

    inner_is : (out_of_loops (record t.own { pending = None })).opened ≡ o ∷ os
    inner_is = loops_quiet t.own.opened t.own ∙ inner

    pub left_is : (left t).own ≡ record t.own { pending = q; display = o.saved; opened = os }
    left_is = ap leave (left_shape (record t.own { pending = None }) o os inner_is) ∙ leaves_it

    framed : TaskFramed plan code seen (left t).own.status (left t)
    framed =
        subst (λ (x : Own). TaskFramed plan code seen x.status (record { control = to t.control; own = x })) (sym left_is)
        (subst (λ st. TaskFramed plan code seen st (record { control = to t.control; own = record t.own { pending = q; display = o.saved; opened = os } })) (sym running) stands)

    likens : Likens plan c n t.own.opened os
    likens =
        then_frames plan c n t.own.opened (o ∷ os) os
        (subst (λ ps. Likens plan c n t.own.opened ps) inner (loops_likens plan c n t.own.opened t.own refl)) around

    mine : (r : Again) → t.own.again ≡ Some r → AgainFits plan c r t.own
    mine r e =
        subst (λ x. AgainFits plan c r x) (own_got n c.tasks t is)
        ((w.framed.serves n (ap (λ (x : Own). is_over x.status) (own_got n c.tasks t is) ∙ ap is_over running)).again r (ap (λ (x : Own). x.again) (own_got n c.tasks t is) ∙ e))

    kept : Follows plan c n t.own (left t).own
    kept =
        subst (λ x. Follows plan c n t.own x) (sym left_is)
        (follows plan c n t.own (record t.own { pending = q; display = o.saved; opened = os }) refl (λ r e. (again r e, (mine r e).1)) likens)

    pub left_good : Kept (on_task n left c)
    left_good =
        task_good plan code table tasks barriers seen sound fits ways n left c t is framed kept
        (λ u h. places u.control h) w

    same_master : Closable o.frame (on_task n left c) ≡ Closable o.frame c
    same_master =
        closable_same o.frame n left c
        (λ u g. subst (λ y. dependent (left y).own ≡ dependent y.own) (same_task n c.tasks t u is g) (ap (λ (x : Own). dependent x) left_is))

    -- its master is left with it
    pub left_closed : Closable o.frame c ≡ true → Became plan code table tasks barriers seen sound fits ways (on_task n left c) (effect.close_master (orders plan code table tasks barriers seen sound fits ways) plan (flat_controls plan code).barrier o.frame (on_task n left c))
    left_closed h = master_closed plan code table tasks barriers seen sound fits ways o.frame (on_task n left c) left_good (same_master ∙ h)

    pub left_there : slice_get (on_task n left c).tasks n ≡ Some (left t)
    left_there = got_changed n left c.tasks t is

  -- what is given back by a procedure that ends normally
  given_good : (back : CopiedBack) (at : Pos) (n : ℕ) (c : All Spot) (t : TaskAt Spot) → Kept c → slice_get c.tasks n ≡ Some t → t.own.status ≡ Running → t.own.pending ≡ None → t.own.again ≡ None → DoesSome (end_at code t.control.place).last → Kept (effect.given_back (orders plan code table tasks barriers seen sound fits ways) plan (flat_controls plan code).barrier back at n c)
  given_good back at n c t w is running none still d = by back.raised
    where
      v : Kept (with_frames back.frames c)
      v = with_frames_good plan code table tasks barriers seen sound fits ways back.frames c w

      by : (r : Option Raise) → Kept (effect.given_back (orders plan code table tasks barriers seen sound fits ways) plan (flat_controls plan code).barrier (record back { raised = r }) at n c)
      by None =
          let s = at_step plan code seen n c t w.spots is running none w.framed in
          task_good plan code table tasks barriers seen sound fits ways n (λ u. record u { control = (orders plan code table tasks barriers seen sound fits ways).takes 0 u.control }) (with_frames back.frames c) t is
          (subst (λ st. TaskFramed plan code seen st (record t { control = (orders plan code table tasks barriers seen sound fits ways).takes 0 t.control })) (sym running)
          (subst (λ p. StandsAt code.lines seen p ((orders plan code table tasks barriers seen sound fits ways).takes 0 t.control) t.own.display t.own.opened) (sym none)
          (first_goes code table tasks barriers seen sound fits ways t.control.place t.control.returns t.own.display t.own.opened (end_at code t.control.place) s d)))
          (follows plan (with_frames back.frames c) n t.own t.own refl (λ r e. let wrong : None ≡ Some r = sym still ∙ e in absurd cc) (like_frames plan (with_frames back.frames c) n t.own.opened))
          (λ u h. moved_kept code sound plan (takes_part 0 here) u.control h) v
      by (Some raise) = raised_good plan code table tasks barriers seen sound fits ways (Predefined raise) at n (with_frames back.frames c) t v is running none still d

  either_kept : (b : Bool) (x y : All Spot) → Kept x → Kept y → Kept (if b then x else y)
  either_kept true x y h k = h
  either_kept false x y h k = k

  -- normally or by an exception, back at the statement that called it
  pub returned_good : (p : Option Pending) (r : Returning) (frame : ℕ) (at : Pos) (n : ℕ) (c : All Spot) (t : TaskAt Spot) → Kept c → slice_get c.tasks n ≡ Some t → t.own.status ≡ Running → t.own.pending ≡ None → t.own.again ≡ None → DoesSome (end_at code t.control.place).last → Kept (effect.returned_or (orders plan code table tasks barriers seen sound fits ways) plan (flat_controls plan code).barrier p r frame at n c)
  returned_good None r frame at n c t w is running none still d =
      either_kept (r.is_function && is_none r.value) _ _ (raised_good plan code table tasks barriers seen sound fits ways (Predefined Program) at n c t w is running none still d) (given_good _ at n c t w is running none still d)
  returned_good (Some p) r frame at n c t w is running none still d = raised_good plan code table tasks barriers seen sound fits ways p.exception at n c t w is running none still d
