-- At the beginning, and behind each step, those frames are open that are seen; and then nothing else is named.
use Rattle.std.proofs.Common.{◌≡◌, ◌<◌, ℕ, zero, suc, List, [], ◌∷◌, ◌++◌, map, length, slice_get, Option, Some, None, Bool, true, false, ◌||◌, refl, sym, ap, ◌∙◌, subst, arith, inl, inr}
use Rattle.std.specs.Prelude.{◌⊎◌, nat_eq, Result}
use Rattle.aud_text.specs.declared.raise.Raise.{Raise}
use Rattle.aud_text.specs.declared.limits.Limits.{Limits}
use Rattle.aud_typed.specs.Tree.{Plan}
use Rattle.aud_meaning.specs.Orders.{noted}
use Rattle.aud_meaning.specs.declared.state.Status.{Status}
use Rattle.aud_meaning.specs.declared.state.Status.TheVariants.{Created, Running, Activating, Accepting, Delaying, Calling, Completed, Terminated}
use Rattle.std.proofs.lemmas.Bool.{eq-eqb}
use Rattle.aud_meaning.specs.Configuration.{Opened, Own, Object, Shared, TaskAt, All}
use Rattle.aud_meaning.specs.Evaluation.{Sight}
use Rattle.aud_meaning.specs.Control.{goes_out, next_of_loop, ends, declares_tasks, Seen, Asked, Moved, here, Controls, all_moved, requeues, Coming}
use Rattle.aud_meaning.specs.Parts.{any, contains, in_action, is_created, is_terminated, owns, is_accepting}
use Rattle.aud_meaning.specs.declared.state.Move.{Move}
use Rattle.aud_meaning.specs.Run.{Turn, resting, closing, completing, withdrawing, serving, expiring, cancelling, acting, under_way, turn_by, turn, alternative_or_none, turn_taken, turn_at, seen, seen_from, scene_of, step_of, step_with, opening_with, restarting, running, usual, coming_of, at_once, Deferred}
use Rattle.aud_meaning.specs.Tasks as effect
use Rattle.aud_over.specs.Over.{object_names}
use Rattle.aud_over.specs.Standing.{around, at, bones, Contains, IsFrame, IsPinned, MaySee, Sees, AreStacked, IsEmpty, StandsBut, Stands, AskedFits, TurnFits, LastIsMaster, AreKept, AskedFits, EachIs, frames_of, its_frames, FitsBy, Fits}
use Rattle.aud_over.proofs.Calls.{true_is_not_false}
use Rattle.aud_over.proofs.Bones.{sees_map}
use Rattle.aud_over.proofs.Taming.{goes_to_tame, call_expires_tame, withdraws_tame}
use Rattle.aud_over.proofs.Holding.{own_at}
use Rattle.aud_over.proofs.Keeping.{none, Held, held_tame}
use Rattle.aud_over.proofs.Lasting.{closes_held, completes_held, serves_held, starts_again_held}
use Rattle.aud_over.proofs.Creating.{done_held}
use Rattle.aud_meaning.specs.declared.state.Restart.{Restart}
use Rattle.aud_meaning.specs.declared.state.Serving.{Serving}

module _ (pins : List ℕ) where
  -- Who steps is neither created nor terminated, where that counts.

  abbrev IfLive : Turn → Own → Type 0
  IfLive resting o = Unit {0}
  IfLive closing o = Unit {0}
  IfLive completing o = Unit {0}
  IfLive (withdrawing object) o = Unit {0}
  IfLive (serving s) o = (is_terminated o.status ≡ false) × (is_created o.status ≡ false)
  IfLive (restarting r) o = (is_terminated o.status ≡ false) × (is_created o.status ≡ false)
  IfLive (expiring delays) o = Unit {0}
  IfLive (cancelling id) o = Unit {0}
  IfLive (acting next) o = (is_terminated o.status ≡ false) × (is_created o.status ≡ false)

  -- and who takes a step of its own waits in no accept
  abbrev IfQuiet : Turn → Own → Type 0
  IfQuiet resting o = Unit {0}
  IfQuiet closing o = Unit {0}
  IfQuiet completing o = Unit {0}
  IfQuiet (withdrawing object) o = Unit {0}
  IfQuiet (serving s) o = Unit {0}
  IfQuiet (restarting r) o = Unit {0}
  IfQuiet (expiring delays) o = Unit {0}
  IfQuiet (cancelling id) o = Unit {0}
  IfQuiet (acting next) o = is_accepting o.status ≡ false

  module _ (plan : Plan) (barrier : ℕ → Sight → Result Bool Raise) where
    running_quiet : (r : Option Restart) (next : Coming) (o : Own) → is_accepting o.status ≡ false → IfQuiet (running plan barrier r next) o
    running_quiet None next o h = h
    running_quiet (Some r) next o h = tt

    usual_quiet : (s : Option Serving) (status : Status) (n : ℕ) (t : TaskAt Seen) (c : All Seen) → t.own.status ≡ status → IfQuiet (usual plan barrier s status n t c) t.own
    usual_quiet (Some s) status n t c e = tt
    usual_quiet None Created n t c e = tt
    usual_quiet None Running n t c e = running_quiet t.own.restart (coming_of plan barrier n t c) t.own (ap is_accepting e)
    usual_quiet None Activating n t c e = tt
    usual_quiet None Accepting n t c e = tt
    usual_quiet None Delaying n t c e = tt
    usual_quiet None Calling n t c e = tt
    usual_quiet None Completed n t c e = tt
    usual_quiet None Terminated n t c e = tt

    at_once_quiet : (o : Option ℕ) (t : TaskAt Seen) → IfQuiet (at_once plan barrier o) t.own
    at_once_quiet None t = tt
    at_once_quiet (Some object) t = tt

    way_quiet : (b : Bool) (n : ℕ) (t : TaskAt Seen) (c : All Seen) → IfQuiet (under_way plan barrier b n t c) t.own
    way_quiet false n t c = usual_quiet t.own.serving t.own.status n t c refl
    way_quiet true n t c = by (Deferred plan barrier n t c)
      where
        way : Bool → Turn
        way true = usual plan barrier t.own.serving t.own.status n t c
        way false = at_once plan barrier t.own.withdraw

        by : (b : Bool) → IfQuiet (way b) t.own
        by true = usual_quiet t.own.serving t.own.status n t c refl
        by false = at_once_quiet t.own.withdraw t

    quiet_by : (status : Status) (n : ℕ) (t : TaskAt Seen) (c : All Seen) → IfQuiet (turn_by plan barrier status n t c) t.own
    quiet_by Created n t c = tt
    quiet_by Running n t c = way_quiet t.own.abnormal n t c
    quiet_by Activating n t c = way_quiet t.own.abnormal n t c
    quiet_by Accepting n t c = way_quiet t.own.abnormal n t c
    quiet_by Delaying n t c = way_quiet t.own.abnormal n t c
    quiet_by Calling n t c = way_quiet t.own.abnormal n t c
    quiet_by Completed n t c = tt
    quiet_by Terminated n t c = tt

    if_live : (u : Turn) (o : Own) → (is_terminated o.status ≡ false) × (is_created o.status ≡ false) → IfLive u o
    if_live resting o h = tt
    if_live closing o h = tt
    if_live completing o h = tt
    if_live (withdrawing object) o h = tt
    if_live (serving s) o h = h
    if_live (restarting r) o h = h
    if_live (expiring delays) o h = tt
    if_live (cancelling id) o h = tt
    if_live (acting next) o h = h

    live_by : (status : Status) (n : ℕ) (t : TaskAt Seen) (c : All Seen) → t.own.status ≡ status → IfLive (turn_by plan barrier status n t c) t.own
    live_by Created n t c e = tt
    live_by Running n t c e = if_live (under_way plan barrier t.own.abnormal n t c) t.own (ap is_terminated e, ap is_created e)
    live_by Activating n t c e = if_live (under_way plan barrier t.own.abnormal n t c) t.own (ap is_terminated e, ap is_created e)
    live_by Accepting n t c e = if_live (under_way plan barrier t.own.abnormal n t c) t.own (ap is_terminated e, ap is_created e)
    live_by Delaying n t c e = if_live (under_way plan barrier t.own.abnormal n t c) t.own (ap is_terminated e, ap is_created e)
    live_by Calling n t c e = if_live (under_way plan barrier t.own.abnormal n t c) t.own (ap is_terminated e, ap is_created e)
    live_by Completed n t c e = tt
    live_by Terminated n t c e = tt

    taken_held : (limits : Limits) (u : Turn) (asked : Asked) (m : Move) (o : Own) (c : All Moved) → own_at pins c m.task ≡ o → IfQuiet u o → IfLive u o → TurnFits u (IsPinned (around pins c.shared.objects)) o (in_action m.task c) asked → Held pins c → Held pins (turn_taken noted plan barrier limits u asked m c)
    taken_held limits resting asked m o c e q l h s = s
    taken_held limits closing asked m o c e q l h s = closes_held pins plan barrier m.task c (subst (λ (w : Own). LastIsMaster (bones w.opened) ⊎ AreKept (IsPinned (around pins c.shared.objects)) w) (sym e) h) s
    taken_held limits completing asked m o c e q l h s = completes_held pins plan barrier None m.task c s
    taken_held limits (withdrawing object) asked m o c e q l h s = held_tame pins c (effect.withdraws noted plan barrier object m.task c) (withdraws_tame plan barrier object m.task c) s
    taken_held limits (serving x) asked m o c e q l h s = serves_held pins plan barrier m.alternative x m.task c (subst (λ (w : Own). (is_terminated w.status ≡ false) × (is_created w.status ≡ false)) (sym e) l) s
    taken_held limits (restarting x) asked m o c e q l h s = starts_again_held pins plan barrier x m.task c (subst (λ (w : Own). (is_terminated w.status ≡ false) × (is_created w.status ≡ false)) (sym e) l) s
    taken_held limits (expiring delays) asked m o c e q l h s = held_tame pins c (effect.delay_expires noted plan barrier (alternative_or_none m.alternative) m.task c) (goes_to_tame plan barrier (alternative_or_none m.alternative) m.task c) s
    taken_held limits (cancelling id) asked m o c e q l h s = held_tame pins c (effect.call_expires noted plan barrier m.task c) (call_expires_tame plan barrier m.task c) s
    taken_held limits (acting next) asked m o c e q l h s =
        done_held pins plan barrier limits m.alternative asked m.task c (subst (λ (w : Own). is_accepting w.status ≡ false) (sym e) q) (subst (λ (w : Own). (is_terminated w.status ≡ false) × (is_created w.status ≡ false)) (sym e) l)
        (subst (λ w. AskedFits (IsPinned (around pins c.shared.objects)) w (in_action m.task c) asked) (sym e) h) s

  module _ {C : Type 0} (plan : Plan) (k : Controls C) (limits : Limits) where
    abbrev bare : All C → All Moved
    bare c = record {
      tasks = map (λ (t : TaskAt C). record { control = here; own = t.own }) c.tasks;
      shared = c.shared;
      choices = c.choices;
      clock = c.clock;
      steps = c.steps;
    }

    bare_owns : (ts : List (TaskAt C)) → owns (map (λ (t : TaskAt C). let u : TaskAt Moved = record { control = here; own = t.own } in u) ts) ≡ owns ts
    bare_owns [] = refl
    bare_owns (t ∷ ts) = ap (λ os. t.own ∷ os) (bare_owns ts)

    moved_owns : (ts : List (TaskAt C)) (ds : List (TaskAt Moved)) → owns (all_moved k ts ds) ≡ owns ds
    moved_owns ts [] = refl
    moved_owns [] (d ∷ ds) = ap (λ os. d.own ∷ os) (moved_owns [] ds)
    moved_owns (t ∷ ts) (d ∷ ds) = ap (λ os. d.own ∷ os) (moved_owns ts ds)

    -- a task that is seen has its own part
    seen_own : (n i : ℕ) (ts : List (TaskAt C)) (os : List Own) (s : Shared) (t : TaskAt Seen) → slice_get (seen_from plan k n ts os s) i ≡ Some t → at (owns ts) i ≡ t.own
    seen_own n i [] os s t e = absurd (subst IsThere (sym e) tt)
      where
        IsThere : Option (TaskAt Seen) → Type 0
        IsThere None = ⊥
        IsThere (Some x) = Unit {0}
    seen_own n zero (x ∷ xs) os s t e = ap own_or e
      where
        own_or : Option (TaskAt Seen) → Own
        own_or None = x.own
        own_or (Some y) = y.own
    seen_own n (suc i) (x ∷ xs) os s t e = seen_own (suc n) i xs os s t e

    got_own : (ts : List (TaskAt C)) (n : ℕ) (t : TaskAt C) → slice_get ts n ≡ Some t → at (owns ts) n ≡ t.own
    got_own [] n t e = absurd (subst IsThere (sym e) tt)
      where
        IsThere : Option (TaskAt C) → Type 0
        IsThere None = ⊥
        IsThere (Some x) = Unit {0}
    got_own (x ∷ xs) zero t e = ap own_or e
      where
        own_or : Option (TaskAt C) → Own
        own_or None = x.own
        own_or (Some y) = y.own
    got_own (x ∷ xs) (suc n) t e = got_own xs n t e

    abbrev carried : All C → All Moved → All C
    carried c d = record c { tasks = all_moved k c.tasks d.tasks; shared = d.shared }

    carried_stands : (c : All C) (d : All Moved) → Held pins d → Stands pins (carried c d)
    carried_stands c d s = subst (λ os. StandsBut (none pins) os (around pins d.shared.objects) (length d.shared.frames)) (sym (moved_owns c.tasks d.tasks)) s

    bare_held : (c : All C) → Stands pins c → Held pins (bare c)
    bare_held c s = subst (λ os. StandsBut (none pins) os (around pins c.shared.objects) (length c.shared.frames)) (sym (bare_owns c.tasks)) s

    abbrev one_step_on : All C → All C
    one_step_on c = record c { steps = suc c.steps }

    step_by : (c : All C) (m : Move) (o : Option (TaskAt C)) → slice_get c.tasks m.task ≡ o → FitsBy pins plan k (slice_get (seen plan k c).tasks m.task) o m.task c → Stands pins c → Stands pins (step_of plan k limits o m c)
    step_by c m None e f s = s
    step_by c m (Some t) e f s = carried_stands (one_step_on c) (turn_taken noted plan k.barrier limits (turn_at plan k.barrier (slice_get (seen plan k c).tasks m.task) m.task (seen plan k c)) asked m d) (by (slice_get (seen plan k c).tasks m.task) refl f)
      where
        asked : Asked
        asked = k.asks t.own.pending (scene_of plan k m.task c) t.control

        d : All Moved
        d = bare (one_step_on c)

        own_is : own_at pins d m.task ≡ t.own
        own_is = ap (λ os. at os m.task) (bare_owns c.tasks) ∙ got_own c.tasks m.task t e

        by : (x : Option (TaskAt Seen)) → slice_get (seen plan k c).tasks m.task ≡ x → FitsBy pins plan k x (Some t) m.task c → Held pins (turn_taken noted plan k.barrier limits (turn_at plan k.barrier x m.task (seen plan k c)) (k.asks t.own.pending (scene_of plan k m.task c) t.control) m (bare (one_step_on c)))
        by None z g = bare_held (one_step_on c) s
        by (Some x) z g =
            let w : x.own ≡ t.own = sym (seen_own 0 m.task c.tasks (owns c.tasks) c.shared x z) ∙ got_own c.tasks m.task t e in
            taken_held plan k.barrier limits (turn plan k.barrier m.task x (seen plan k c)) asked m t.own d own_is
            (subst (IfQuiet (turn plan k.barrier m.task x (seen plan k c))) w (quiet_by plan k.barrier x.own.status m.task x (seen plan k c)))
            (subst (IfLive (turn plan k.barrier m.task x (seen plan k c))) w (live_by plan k.barrier x.own.status m.task x (seen plan k c) refl)) g (bare_held (one_step_on c) s)

    pub step_stands : (c : All C) (m : Move) → Fits pins plan k m.task c → Stands pins c → Stands pins (step_with plan k limits c m)
    step_stands c m f s = step_by c m (slice_get c.tasks m.task) refl f s

-- The beginning.

pub opening_stands : {C : Type 0} (plan : Plan) (name : List ℕ) (left : C) → Stands [] (opening_with plan name left)
opening_stands plan name left = record {
  sees = sees;
  made = made;
  made_masters = no_masters;
  ended = ended;
  created = created;
  back = back;
  apart = apart;
  through = λ n m f g h c d. true_is_not_false (sym (masters m f c));
  bodies = λ n m f h c w. true_is_not_false (sym (masters m f c));
}
  where
    os : List Own
    os = owns (opening_with plan name left).tasks

    sees : (n : ℕ) → false ≡ false → Sees (MaySee (owns (opening_with plan name left).tasks) (around [] []) (at (owns (opening_with plan name left).tasks) n).masters) (at (owns (opening_with plan name left).tasks) n).display (bones (at (owns (opening_with plan name left).tasks) n).opened)
    sees zero e = ((inl (inl refl), tt), tt)
    sees (suc n) e = tt

    made : (n f : ℕ) → IsFrame f (bones (at (owns (opening_with plan name left).tasks) n).opened) → f < 1
    made zero f (inl e) = omega (arith, e)
    made zero f (inr h) = absurd h
    made (suc n) f h = absurd h

    no_masters : (n f : ℕ) → Contains f (at (owns (opening_with plan name left).tasks) n).masters → f < 1
    no_masters zero f h = true_is_not_false (sym h)
    no_masters (suc n) f h = true_is_not_false (sym h)

    masters : (n f : ℕ) → Contains f (at (owns (opening_with plan name left).tasks) n).masters → false ≡ true
    masters zero f h = h
    masters (suc n) f h = h

    ended : (n : ℕ) → is_terminated (at (owns (opening_with plan name left).tasks) n).status ≡ true → IsEmpty (at (owns (opening_with plan name left).tasks) n)
    ended zero e = true_is_not_false (sym e)
    ended (suc n) e = record { display = refl; opened = refl }

    created : (n : ℕ) → is_created (at (owns (opening_with plan name left).tasks) n).status ≡ true → bones (at (owns (opening_with plan name left).tasks) n).opened ≡ []
    created zero e = true_is_not_false (sym e)
    created (suc n) e = refl

    back : (n : ℕ) → AreStacked (bones (at (owns (opening_with plan name left).tasks) n).opened)
    back zero = ((tt, λ f h. absurd h), tt)
    back (suc n) = tt

    apart : (n m f : ℕ) → IsFrame f (bones (at (owns (opening_with plan name left).tasks) n).opened) → IsFrame f (bones (at (owns (opening_with plan name left).tasks) m).opened) → n ≡ m
    apart zero zero f h g = refl
    apart zero (suc m) f h g = absurd g
    apart (suc n) m f h g = absurd h

-- More may be kept at any time.

contains_more : (f : ℕ) (more pins : List ℕ) → Contains f pins → Contains f (more ++ pins)
contains_more f [] pins h = h
contains_more f (n ∷ more) pins h = by (nat_eq f n) (contains_more f more pins h)
  where
    by : (b : Bool) → Contains f (more ++ pins) → (b || contains f (more ++ pins)) ≡ true
    by true g = refl
    by false g = g

pinned_more : (pins more : List ℕ) (objects : List Object) (f : ℕ) → any (object_names f) (around pins objects) ≡ true → any (object_names f) (around (more ++ pins) objects) ≡ true
pinned_more pins more [] f h = by (contains f pins) refl h
  where
    by : (b : Bool) → contains f pins ≡ b → (b || false) ≡ true → (contains f (more ++ pins) || false) ≡ true
    by true e g = ap (λ b. b || false) (contains_more f more pins e)
    by false e g = true_is_not_false (sym g)
pinned_more pins more (o ∷ objects) f h = by (object_names f o) h (pinned_more pins more objects f)
  where
    by : (b : Bool) → (b || any (object_names f) (around pins objects)) ≡ true → (any (object_names f) (around pins objects) ≡ true → any (object_names f) (around (more ++ pins) objects) ≡ true) → (b || any (object_names f) (around (more ++ pins) objects)) ≡ true
    by true g rest = refl
    by false g rest = rest g

pub more_pins : {C : Type 0} (pins more : List ℕ) (c : All C) → Stands pins c → Stands (more ++ pins) c
more_pins pins more c s = record {
  sees = λ n e. sees_map (MaySee (owns c.tasks) (around pins c.shared.objects) (at (owns c.tasks) n).masters) (MaySee (owns c.tasks) (around (more ++ pins) c.shared.objects) (at (owns c.tasks) n).masters) (at (owns c.tasks) n).display (bones (at (owns c.tasks) n).opened) (held (at (owns c.tasks) n).masters) (s.sees n e);
  made = s.made;
  made_masters = s.made_masters;
  ended = s.ended;
  created = s.created;
  back = s.back;
  apart = s.apart;
  through = s.through;
  bodies = s.bodies;
}
  where
    held : (ms : List ℕ) (f : ℕ) → MaySee (owns c.tasks) (around pins c.shared.objects) ms f → MaySee (owns c.tasks) (around (more ++ pins) c.shared.objects) ms f
    held ms f (inl (inl x)) = inl (inl x)
    held ms f (inl (inr x)) = inl (inr (pinned_more pins more c.shared.objects f x))
    held ms f (inr x) = inr x

-- Any step fits where what the task sees and its open frames are kept.

or_second : (x y : Bool) → y ≡ true → (x || y) ≡ true
or_second true y h = refl
or_second false y h = h

pinned_of : (f : ℕ) (pins : List ℕ) (objects : List Object) → Contains f pins → any (object_names f) (around pins objects) ≡ true
pinned_of f pins [] h = ap (λ b. b || false) h
pinned_of f pins (o ∷ objects) h = or_second (object_names f o) (any (object_names f) (around pins objects)) (pinned_of f pins objects h)

contains_first : (f : ℕ) (ns ms : List ℕ) → Contains f ns → Contains f (ns ++ ms)
contains_first f [] ms h = true_is_not_false (sym h)
contains_first f (n ∷ ns) ms h = by (nat_eq f n) h (contains_first f ns ms)
  where
    by : (b : Bool) → (b || contains f ns) ≡ true → (Contains f ns → Contains f (ns ++ ms)) → (b || contains f (ns ++ ms)) ≡ true
    by true g rest = refl
    by false g rest = rest g

frame_contained : (f : ℕ) (ys : List Opened) → IsFrame f (bones ys) → Contains f (frames_of ys)
frame_contained f [] h = absurd h
frame_contained f (o ∷ ys) (inl e) = ap (λ b. b || contains f (frames_of ys)) (eq-eqb f o.frame e)
frame_contained f (o ∷ ys) (inr h) = or_second (nat_eq f o.frame) (contains f (frames_of ys)) (frame_contained f ys h)

each_of : (p : ℕ → Type 0) (ns : List ℕ) → ((f : ℕ) → Contains f ns → p f) → EachIs p ns
each_of p [] h = tt
each_of p (n ∷ ns) h = (h n (ap (λ b. b || contains n ns) (eq-eqb n n refl)), each_of p ns (λ f g. h f (or_second (nat_eq f n) (contains f ns) g)))

asked_kept : (pinned : ℕ → Type 0) (own : Own) (acts : Bool) (asked : Asked) → AreKept pinned own → EachIs pinned own.display → AskedFits pinned own acts asked
asked_kept pinned own acts (goes_out loops value) h g = inr h
asked_kept pinned own acts (next_of_loop f) h g = inr h
asked_kept pinned own acts (requeues loops r) h g = inr h
asked_kept pinned own acts (ends loops) h g = inr h
asked_kept pinned own acts (declares_tasks at ts) h g = λ x y. inr g
asked_kept pinned own acts asked h g = tt

turn_kept : (u : Turn) (pinned : ℕ → Type 0) (own : Own) (acts : Bool) (asked : Asked) → AreKept pinned own → EachIs pinned own.display → TurnFits u pinned own acts asked
turn_kept resting pinned own acts asked h g = tt
turn_kept closing pinned own acts asked h g = inr h
turn_kept completing pinned own acts asked h g = tt
turn_kept (withdrawing object) pinned own acts asked h g = tt
turn_kept (serving s) pinned own acts asked h g = tt
turn_kept (restarting r) pinned own acts asked h g = tt
turn_kept (expiring delays) pinned own acts asked h g = tt
turn_kept (cancelling id) pinned own acts asked h g = tt
turn_kept (acting next) pinned own acts asked h g = asked_kept pinned own acts asked h g

module _ {C : Type 0} (plan : Plan) (k : Controls C) (limits : Limits) where
  kept_fits : (pins : List ℕ) (n : ℕ) (c : All C) → ((f : ℕ) → Contains f (its_frames (at (owns c.tasks) n)) → Contains f pins) → Fits pins plan k n c
  kept_fits pins n c h = by (slice_get (seen plan k c).tasks n) (slice_get c.tasks n) refl
    where
      pinned : (own : Own) → ((f : ℕ) → Contains f (its_frames own) → Contains f pins) → AreKept (IsPinned (around pins c.shared.objects)) own
      pinned own g f x = inr (pinned_of f pins c.shared.objects (g f (contains_more f own.display (frames_of own.opened) (frame_contained f own.opened x))))

      seen_pinned : (own : Own) → ((f : ℕ) → Contains f (its_frames own) → Contains f pins) → EachIs (IsPinned (around pins c.shared.objects)) own.display
      seen_pinned own g = each_of (IsPinned (around pins c.shared.objects)) own.display (λ f x. inr (pinned_of f pins c.shared.objects (g f (contains_first f own.display (frames_of own.opened) x))))

      by : (s : Option (TaskAt Seen)) (t : Option (TaskAt C)) → slice_get c.tasks n ≡ t → FitsBy pins plan k s t n c
      by None t e = tt
      by (Some s) None e = tt
      by (Some s) (Some t) e =
          let g : (f : ℕ) → Contains f (its_frames t.own) → Contains f pins = subst (λ w. (f : ℕ) → Contains f (its_frames w) → Contains f pins) (got_own pins plan k limits c.tasks n t e) h in
          turn_kept (turn plan k.barrier n s (seen plan k c)) (IsPinned (around pins c.shared.objects)) t.own (in_action n c) (k.asks t.own.pending (scene_of plan k n c) t.control) (pinned t.own g) (seen_pinned t.own g)

  pub always_stands : (pins : List ℕ) (c : All C) (m : Move) → Stands pins c → Stands (its_frames (at (owns c.tasks) m.task) ++ pins) (step_with plan k limits c m)
  always_stands pins c m s =
      let more = its_frames (at (owns c.tasks) m.task) in
      step_stands (more ++ pins) plan k limits c m (kept_fits (more ++ pins) m.task c (λ f h. contains_first f more pins h)) (more_pins pins more c s)
