-- A block is left together with loops around it.
use Rattle.std.proofs.Common.{◌≡◌, ℕ, List, ◌∷◌, length, Option, Some, None, true, false, refl, sym, ap, ◌∙◌, subst, slice_get}
use Rattle.aud_text.specs.declared.limits.Limits.{Limits}
use Rattle.aud_typed.specs.Tree.{Plan}
use Rattle.aud_meaning.specs.declared.state.Again.{Again}
use Rattle.aud_meaning.specs.declared.state.Status.TheVariants.{Running}
use Rattle.aud_meaning.specs.Configuration.{for_block, Opened, Own, TaskAt, All}
use Rattle.aud_meaning.specs.Control.{ends, here, passes_end}
use Rattle.aud_meaning.specs.Effects.{closed, closed_by, is_loop, out_of, out_of_loops}
use Rattle.aud_meaning.specs.Parts.{Closable, changed, is_over, on_own, on_task, own_of}
use Rattle.aud_meaning.specs.Step.{done}
use Rattle.aud_meaning.specs.Tasks as effect
use Rattle.aud_code.specs.Places.{Spot}
use Rattle.aud_code.specs.Flat.{Flat, EndLine, Leaves, end_at, ended_in, flat_controls}
use Rattle.aud_code.specs.Frames.{found, Found, At, BlockAround, LastFits, OpensBlock, OutOfLoops}
use Rattle.aud_code.specs.Seen.{IsSeen}
use Rattle.aud_code.specs.Sound.{Counts, IsSound, IsStart}
use Rattle.aud_code.proofs.Starts.{moved_kept}
use Rattle.aud_framed.specs.Held.{Holds, IsOpenAt, OpenedBy, StandsAt}
use Rattle.aud_framed.specs.Waiting.{TaskFramed}
use Rattle.aud_framed.specs.Calls.{AgainFits, RequeueFits}
use Rattle.aud_framed.specs.Ways.{LeavesBlock, StandsAtStep}
use Rattle.aud_framed.specs.Stepping.{HasWays}
use Rattle.aud_framed.proofs.Blocks.{leaves_framed}
use Rattle.aud_framed.proofs.Steps.{here as holds_here, led}
use Rattle.aud_framed.proofs.Stepping.Blocks.{own_changed}
use Rattle.aud_framed.proofs.Stepping.Closing.{master_closed}
use Rattle.aud_framed.proofs.Stepping.Commuting.{master_passes, out_passes, out_shape}
use Rattle.aud_framed.proofs.Stepping.Ending.{Good}
use Rattle.aud_framed.proofs.Stepping.Ends.{first_same}
use Rattle.aud_framed.proofs.Stepping.Frames.{AreLoops, loops_left, out_likens, out_requeues}
use Rattle.aud_framed.proofs.Stepping.Lone.{at_step}
use Rattle.aud_framed.proofs.Stepping.Parts.{Follows, Likens, follows, own_got, same_task, then_frames}
use Rattle.aud_framed.proofs.Stepping.Refusing.{Became, orders}
use Rattle.aud_framed.proofs.Stepping.Tasks.{closable_same, dependent, fused, left_own, no_loops, task_good}

module _ (plan : Plan) (code : Flat) (table : List Counts) (tasks barriers seen : List ℕ) (sound : IsSound code) (fits : IsSeen code table tasks barriers seen) (ways : HasWays code) where
  abbrev Kept : All Spot → Type 0
  Kept c = Good plan code table tasks barriers seen sound fits ways c

  -- what is left behind the block are loops
  loops_around : (loops next : ℕ) (returns : List ℕ) (o : Opened) (os : List Opened) (w : Option ℕ) → BlockAround code.lines w (λ v. OutOfLoops code.lines loops v (At code.lines next)) → Holds code.lines seen w returns (o ∷ os) → AreLoops loops os
  loops_around loops next returns o os None f h = absurd f
  loops_around loops next returns o os (Some m) f h = by (found code.lines m) f h
    where
      by : (x : Option EndLine) → Found x (λ b. OpensBlock b.last × OutOfLoops code.lines loops b.within (At code.lines next)) → Found x (λ b. OpenedBy b.last o.purpose × (IsOpenAt code.lines seen m (length o.saved) × Holds code.lines seen b.within returns os × IsStart code.lines m)) → AreLoops loops os
      by None f h = absurd f
      by (Some b) f h = loops_left code.lines seen (At code.lines next) loops b.within returns os h.1.1 f.1

  module _ (limits : Limits) (alternative : Option ℕ) (n : ℕ) (c : All Spot) (t : TaskAt Spot) (o : Opened) (os : List Opened) (loops next : ℕ) (w : Kept c) (is : slice_get c.tasks n ≡ Some t) (running : t.own.status ≡ Running) (none : t.own.pending ≡ None) (opened : t.own.opened ≡ o ∷ os) (leaves : (end_at code t.control.place).last ≡ Leaves loops next) (closable : Closable o.frame c ≡ true) where
    s : StandsAtStep code seen t.control.place (end_at code t.control.place) t.control.returns t.own.display t.own.opened
    s = at_step plan code seen n c t w.spots is running none w.framed

    left_block : LeavesBlock code seen loops next t.control.returns t.own
    left_block = leaves_framed code table tasks barriers seen sound fits t.control.place loops next t.control.returns t.own (end_at code t.control.place) s leaves

    block : o.purpose ≡ for_block
    block = ap (λ (x : Opened). x.purpose) (sym (first_same left_block.o o left_block.os os (sym left_block.opened ∙ opened)).0) ∙ left_block.block

    are_loops : AreLoops loops os
    are_loops =
        loops_around loops next t.control.returns o os (end_at code t.control.place).within
        (subst (λ last. LastFits code.lines last t.control.place (end_at code t.control.place)) leaves (led code table tasks barriers seen sound fits t.control.place t.control.returns t.own.display t.own.opened (end_at code t.control.place) s))
        (subst (λ ps. Holds code.lines seen (end_at code t.control.place).within t.control.returns ps) opened (holds_here code table tasks barriers seen sound fits t.control.place t.control.returns t.own.display t.own.opened (end_at code t.control.place) s).1)

    abbrev behind : Spot → Spot
    behind = (orders plan code table tasks barriers seen sound fits ways).behind

    abbrev start : TaskAt Spot → TaskAt Spot
    start u = record u { control = (orders plan code table tasks barriers seen sound fits ways).behind u.control; own = record u.own { pending = None } }

    abbrev left : TaskAt Spot → TaskAt Spot
    left u = record { control = (orders plan code table tasks barriers seen sound fits ways).behind u.control; own = out_of loops (closed (out_of_loops (record u.own { pending = None }))) }

    abbrev inner : Own
    inner = record t.own { display = o.saved; opened = os }

    closed_is : closed t.own ≡ inner
    closed_is = ap (λ ps. closed_by ps t.own) opened

    left_is : (left t).own ≡ out_of loops inner
    left_is = ap (λ (x : Own). out_of loops x) (left_own (record t.own { pending = None }) o os opened (ap is_loop block) ∙ ap (λ p. record t.own { pending = p; display = o.saved; opened = os }) (sym none))

    standing : StandsAt code.lines seen None (behind t.control) (out_of loops inner).display (out_of loops inner).opened
    standing =
        subst (λ last. StandsAt code.lines seen None (ended_in code last t.control) (out_of loops inner).display (out_of loops inner).opened) (sym leaves)
        (subst (λ x. StandsAt code.lines seen None (record { place = next; returns = t.control.returns }) (out_of loops x).display (out_of loops x).opened) closed_is left_block.stands)

    shape : out_of loops inner ≡ record t.own { display = (out_of loops inner).display; opened = (out_of loops inner).opened }
    shape = out_shape loops inner

    framed : TaskFramed plan code seen (left t).own.status (left t)
    framed =
        subst (λ (x : Own). TaskFramed plan code seen x.status (record { control = behind t.control; own = x })) (sym left_is)
        (subst (λ (x : Own). TaskFramed plan code seen x.status (record { control = behind t.control; own = x })) (sym shape)
        (subst (λ st. TaskFramed plan code seen st (record { control = behind t.control; own = record t.own { display = (out_of loops inner).display; opened = (out_of loops inner).opened } })) (sym running)
        (subst (λ p. StandsAt code.lines seen p (behind t.control) (out_of loops inner).display (out_of loops inner).opened) (sym none) standing)))

    around : Likens plan c n (o ∷ os) os
    around = subst (λ p. Likens plan c n (record o { purpose = p } ∷ os) os) (sym block) (record { within = λ x k. k; serves = λ k. k.1; calls = refl; objects = refl })

    likens : Likens plan c n t.own.opened (out_of loops inner).opened
    likens = subst (λ ps. Likens plan c n ps (out_of loops inner).opened) (sym opened) (then_frames plan c n (o ∷ os) os (out_of loops inner).opened around (out_likens plan c n loops inner are_loops))

    again : (r : Again) → t.own.again ≡ Some r → AgainFits plan c r (record t.own { display = (out_of loops inner).display; opened = (out_of loops inner).opened })
    again r e =
        let live : is_over (own_of n c).status ≡ false = ap (λ (x : Own). is_over x.status) (own_got n c.tasks t is) ∙ ap is_over running in
        let there : AgainFits plan c r (own_of n c) = (w.framed.serves n live).again r (ap (λ (x : Own). x.again) (own_got n c.tasks t is) ∙ e) in
        let mine : AgainFits plan c r t.own = subst (λ x. AgainFits plan c r x) (own_got n c.tasks t is) there in (
          out_requeues plan c n r loops inner are_loops (subst (λ p. RequeueFits plan c r (record o { purpose = p } ∷ os)) block (subst (λ ps. RequeueFits plan c r ps) opened mine.0)),
          mine.1,
        )

    kept : Follows plan c n t.own (left t).own
    kept =
        subst (λ x. Follows plan c n t.own x) (sym (left_is ∙ shape))
        (follows plan c n t.own (record t.own { display = (out_of loops inner).display; opened = (out_of loops inner).opened }) refl again likens)

    left_good : Kept (on_task n left c)
    left_good = task_good plan code table tasks barriers seen sound fits ways n left c t is framed kept (λ u h. moved_kept code sound plan (passes_end here) u.control h) w

    same_master : Closable o.frame (on_task n left c) ≡ Closable o.frame c
    same_master =
        closable_same o.frame n left c
        (λ u g. subst (λ y. dependent (left y).own ≡ dependent y.own) (same_task n c.tasks t u is g) (ap (λ (x : Own). dependent x) (left_is ∙ shape)))

    master_left : Became plan code table tasks barriers seen sound fits ways (on_task n left c) (effect.close_master (orders plan code table tasks barriers seen sound fits ways) plan (flat_controls plan code).barrier o.frame (on_task n left c))
    master_left = master_closed plan code table tasks barriers seen sound fits ways o.frame (on_task n left c) left_good (same_master ∙ closable)

    abbrev popped : All Spot
    popped = on_own n closed (on_own n out_of_loops (on_task n start c))

    ended_is : effect.at_end (orders plan code table tasks barriers seen sound fits ways) plan (flat_controls plan code).barrier alternative None n (on_task n start c) ≡ effect.close_master (orders plan code table tasks barriers seen sound fits ways) plan (flat_controls plan code).barrier o.frame popped
    ended_is =
        ap (λ ps. effect.at_end_of (orders plan code table tasks barriers seen sound fits ways) plan (flat_controls plan code).barrier alternative ps None n (on_task n start c))
        (ap (λ (x : Own). (out_of_loops x).opened) (own_changed n start c.tasks t is) ∙ (ap (λ (x : Own). x.opened) (no_loops (record t.own { pending = None }) o os opened (ap is_loop block)) ∙ opened))
        ∙ ap (λ p. effect.at_end_by (orders plan code table tasks barriers seen sound fits ways) plan (flat_controls plan code).barrier alternative p None o n (on_task n start c)) block

    tasks_are : changed n (λ (u : TaskAt Spot). record u { own = out_of loops u.own }) popped.tasks ≡ changed n left c.tasks
    tasks_are =
        ap (λ ts. changed n (λ (u : TaskAt Spot). record u { own = out_of loops u.own }) ts)
        (fused n (λ (u : TaskAt Spot). record u { own = closed u.own }) (λ (u : TaskAt Spot). record u { own = out_of_loops u.own }) (changed n start c.tasks)
        ∙ fused n (λ (u : TaskAt Spot). record u { own = closed (out_of_loops u.own) }) start c.tasks)
        ∙ fused n (λ (u : TaskAt Spot). record u { own = out_of loops u.own }) (λ (u : TaskAt Spot). record { control = (orders plan code table tasks barriers seen sound fits ways).behind u.control; own = closed (out_of_loops (record u.own { pending = None })) }) c.tasks

    pub block_left_with : Kept (done (orders plan code table tasks barriers seen sound fits ways) plan (flat_controls plan code).barrier limits alternative (ends loops) n c)
    block_left_with =
        subst (λ d. Kept d)
        (sym (ap (λ d. on_own n (out_of loops) d) ended_is
        ∙ (sym (master_passes (orders plan code table tasks barriers seen sound fits ways) plan (flat_controls plan code).barrier n (out_of loops) (out_passes loops) o.frame popped)
        ∙ ap (λ ts. effect.close_master (orders plan code table tasks barriers seen sound fits ways) plan (flat_controls plan code).barrier o.frame (record c { tasks = ts })) tasks_are)))
        master_left.good
