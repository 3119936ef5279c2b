-- Whole steps of tasks, by their turns.
use Rattle.std.proofs.Common.{◌≡◌, ◌⊎◌, ℕ, zero, suc, ◌+◌, List, [], ◌∷◌, Option, Some, None, Bool, true, false, Result, refl, sym, ap, ◌∙◌, subst, inl, inr, if◌then◌else◌, slice_get, arith}
use Rattle.std.proofs.lemmas.Bool.{and_parts, false≢true, true≢false}
use Rattle.std.specs.Prelude.{◌&&◌, ◌||◌, is_some, not}
use Rattle.aud_text.specs.declared.limits.Limits.{Limits}
use Rattle.aud_text.specs.declared.raise.Raise.{Raise}
use Rattle.aud_typed.specs.Tree.{Plan}
use Rattle.aud_meaning.specs.declared.state.Move.{Move}
use Rattle.aud_meaning.specs.declared.state.Restart.{Restart}
use Rattle.aud_meaning.specs.declared.state.Serving.{Serving}
use Rattle.aud_meaning.specs.declared.state.Status.{Status}
use Rattle.aud_meaning.specs.declared.state.Status.TheVariants.{Created, Running, Activating, Accepting, Delaying, Calling, Completed, Terminated}
use Rattle.aud_meaning.specs.Configuration.{Own, Shared, TaskAt, All}
use Rattle.aud_meaning.specs.Control.{Asked, Seen}
use Rattle.aud_meaning.specs.Evaluation.{Sight}
use Rattle.aud_meaning.specs.Parts.{call_of, in_action, is_over, is_queued, is_selected, owns, sight_in}
use Rattle.aud_meaning.specs.Run.{Turn, resting, closing, completing, withdrawing, serving, restarting, expiring, cancelling, acting, Deferred, alternative_or_none, at_once, is_bound, is_leave, running, scene_of, seen, seen_from, turn, turn_at, turn_by, turn_taken, under_way, usual}
use Rattle.aud_meaning.specs.Why.Carried.{carried_by}
use Rattle.aud_meaning.proofs.Carrying.{carried_law}
use Rattle.aud_code.specs.Places.{Spot}
use Rattle.aud_code.specs.Flat.{Flat, asked_at, coming_at, flat_controls}
use Rattle.aud_code.specs.Seen.{IsSeen}
use Rattle.aud_code.specs.Sound.{Counts, IsSound}
use Rattle.aud_code.proofs.Starts.{step_kept}
use Rattle.aud_framed.specs.Enabled.{ComingTells, IsIdleOwner, TurnTells}
use Rattle.aud_framed.specs.Framed.{HasLevels, IsFramed, MeetsBy}
use Rattle.aud_framed.specs.Turns.{FramedLaw}
use Rattle.aud_framed.specs.Stepping.{HasWays}
use Rattle.aud_framed.proofs.Stepping.Aborted.{aborted_completes}
use Rattle.aud_framed.proofs.Stepping.Acting.{acts_good}
use Rattle.aud_framed.proofs.Stepping.Choosing.{served}
use Rattle.aud_framed.proofs.Stepping.Closing.{task_closed}
use Rattle.aud_framed.proofs.Stepping.Delays.{delay_expired}
use Rattle.aud_framed.proofs.Stepping.Enabled.{enabled_tells}
use Rattle.aud_framed.proofs.Stepping.Ending.{Good}
use Rattle.aud_framed.proofs.Stepping.Expiring.{expired, withdrew}
use Rattle.aud_framed.proofs.Stepping.Meeting.{queued_state}
use Rattle.aud_framed.proofs.Stepping.Parts.{like_framed, own_got}
use Rattle.aud_framed.proofs.Stepping.Refusing.{orders}
use Rattle.aud_framed.proofs.Stepping.Restarting.{made_again}

-- What a turn tells of the task.

module _ (plan : Plan) (barrier : ℕ → Sight → Result Bool Raise) (n : ℕ) (x : TaskAt Seen) (s : All Seen) where
  -- it is under way, in no action
  abbrev IsLeft : Type 0
  IsLeft = (is_over x.own.status ≡ false) × (in_action n s ≡ false)

  abbrev pub Told : Turn → Type 0
  Told resting = Unit {0}
  Told closing = x.own.status ≡ Completed
  Told completing = IsLeft × ((x.own.abnormal ≡ true) × (x.own.status ≡ Calling → is_selected (call_of x.own.call s).state || (is_queued (call_of x.own.call s).state && (call_of x.own.call s).stays) ≡ false))
  Told (withdrawing object) = IsLeft × (x.own.withdraw ≡ Some object)
  Told (serving v) = (is_over x.own.status ≡ false) × (x.own.serving ≡ Some v)
  Told (restarting r) = (x.own.status ≡ Running) × (x.own.restart ≡ Some r)
  Told (expiring ds) = (x.own.status ≡ Delaying) ⊎ (x.own.status ≡ Accepting)
  Told (cancelling id) = (x.own.status ≡ Calling) × (id ≡ x.own.call)
  Told (acting y) = (x.own.status ≡ Running) × ((x.own.serving ≡ None) × ((x.own.restart ≡ None) × ((y ≡ x.control.coming) × (in_action n s ≡ false → is_leave x.control.coming x.own ≡ false → x.own.abnormal ≡ false))))

  abbrev Well : Type 0
  Well = x.own.status ≡ Running → x.own.restart ≡ None → in_action n s ≡ false → is_leave x.control.coming x.own ≡ false → x.own.abnormal ≡ false

  running_told : (r : Option Restart) → x.own.restart ≡ r → x.own.serving ≡ None → x.own.status ≡ Running → Well → Told (running plan barrier r x.control.coming)
  running_told None q e h well = (h, (e, (q, (refl, well h q))))
  running_told (Some r) q e h well = (h, q)

  usual_told : (v : Option Serving) (status : Status) → x.own.serving ≡ v → x.own.status ≡ status → is_over x.own.status ≡ false → Well → Told (usual plan barrier v status n x s)
  usual_told (Some v) status e h alive well = (alive, e)
  usual_told None Created e h alive well = tt
  usual_told None Running e h alive well = running_told x.own.restart refl e h well
  usual_told None Activating e h alive well = tt
  usual_told None Accepting e h alive well = inr h
  usual_told None Delaying e h alive well = inl h
  usual_told None Calling e h alive well = (h, refl)
  usual_told None Completed e h alive well = tt
  usual_told None Terminated e h alive well = tt

  at_rest : Deferred plan barrier n x s ≡ false → in_action n s ≡ false
  at_rest d = by (in_action n s) d
    where
      by : (b : Bool) → (if b then true else is_bound plan barrier x.own.status n x s) ≡ false → b ≡ false
      by true e = absurd (true≢false e)
      by false e = refl

  unbound : Deferred plan barrier n x s ≡ false → is_bound plan barrier x.own.status n x s ≡ false
  unbound d = ap (λ b. if b then true else is_bound plan barrier x.own.status n x s) (sym (at_rest d)) ∙ d

  once_told : (object : Option ℕ) → x.own.withdraw ≡ object → is_over x.own.status ≡ false → x.own.abnormal ≡ true → Deferred plan barrier n x s ≡ false → Told (at_once plan barrier object)
  once_told None q alive ill d = ((alive, at_rest d), (ill, λ e. ap (λ st. is_bound plan barrier st n x s) (sym e) ∙ unbound d))
  once_told (Some object) q alive ill d = ((alive, at_rest d), q)

  -- one whose abort is deferred is in an action, or at the end of a master
  deferred_well : Deferred plan barrier n x s ≡ true → Well
  deferred_well d status q i l =
      let bound : is_bound plan barrier x.own.status n x s ≡ true = ap (λ b. if b then true else is_bound plan barrier x.own.status n x s) (sym i) ∙ d in
      let some : is_some x.own.restart || is_leave x.control.coming x.own ≡ true = ap (λ st. is_bound plan barrier st n x s) (sym status) ∙ bound in
      absurd (false≢true (sym l ∙ (ap (λ r. is_some r || is_leave x.control.coming x.own) (sym q) ∙ some)))

  abbrev way : Bool → Turn
  way true = usual plan barrier x.own.serving x.own.status n x s
  way false = at_once plan barrier x.own.withdraw

  way_told : (b : Bool) → Deferred plan barrier n x s ≡ b → is_over x.own.status ≡ false → x.own.abnormal ≡ true → Told (way b)
  way_told true d alive ill = usual_told x.own.serving x.own.status refl refl alive (deferred_well d)
  way_told false d alive ill = once_told x.own.withdraw refl alive ill d

  under_way_told : (b : Bool) → x.own.abnormal ≡ b → is_over x.own.status ≡ false → Told (under_way plan barrier b n x s)
  under_way_told false h alive = usual_told x.own.serving x.own.status refl refl alive (λ status q i l. h)
  under_way_told true h alive = way_told (Deferred plan barrier n x s) refl alive h

  pub turn_told : (status : Status) → x.own.status ≡ status → Told (turn_by plan barrier status n x s)
  turn_told Created h = tt
  turn_told Running h = under_way_told x.own.abnormal refl (ap is_over h)
  turn_told Activating h = under_way_told x.own.abnormal refl (ap is_over h)
  turn_told Accepting h = under_way_told x.own.abnormal refl (ap is_over h)
  turn_told Delaying h = under_way_told x.own.abnormal refl (ap is_over h)
  turn_told Calling h = under_way_told x.own.abnormal refl (ap is_over h)
  turn_told Completed h = h
  turn_told Terminated h = tt

-- What is seen of a task.

module _ (plan : Plan) (code : Flat) where
  abbrev SeenAs : ℕ → List Own → Shared → Option (TaskAt Spot) → Option (TaskAt Seen) → Type 0
  SeenAs n os shared None x = Unit {0}
  SeenAs n os shared (Some t) None = ⊥
  SeenAs n os shared (Some t) (Some x) = (x.own ≡ t.own) × (x.control.coming ≡ coming_at code plan t.own.pending (sight_in n os shared) t.control)

  seen_as : (n i : ℕ) (ts : List (TaskAt Spot)) (os : List Own) (shared : Shared) → SeenAs (i + n) os shared (slice_get ts n) (slice_get (seen_from plan (flat_controls plan code) i ts os shared) n)
  seen_as n i [] os shared = tt
  seen_as zero i (t ∷ ts) os shared = let e : i ≡ i + zero = omega arith in (refl, ap (λ j. coming_at code plan t.own.pending (sight_in j os shared) t.control) e)
  seen_as (suc n) i (t ∷ ts) os shared =
      let e : suc i + n ≡ i + suc n = omega arith in
      subst (λ j. SeenAs j os shared (slice_get ts n) (slice_get (seen_from plan (flat_controls plan code) (suc i) ts os shared) n)) e (seen_as n (suc i) ts os shared)

  pub seen_there : (n : ℕ) (c : All Spot) → SeenAs n (owns c.tasks) c.shared (slice_get c.tasks n) (slice_get (seen plan (flat_controls plan code) c).tasks n)
  seen_there n c =
      let e : 0 + n ≡ n = omega arith in
      subst (λ j. SeenAs j (owns c.tasks) c.shared (slice_get c.tasks n) (slice_get (seen plan (flat_controls plan code) c).tasks n)) e (seen_as n 0 c.tasks (owns c.tasks) c.shared)

-- The step.

module _ (plan : Plan) (code : Flat) (table : List Counts) (tasks barriers seen_many : List ℕ) (sound : IsSound code) (fits : IsSeen code table tasks barriers seen_many) (levels : HasLevels plan code tasks seen_many) (ways : HasWays code) (limits : Limits) (m : Move) (c : All Spot) (t : TaskAt Spot) (w : Good plan code table tasks barriers seen_many sound fits ways c) (is : slice_get c.tasks m.task ≡ Some t) (meets : t.own.status ≡ Running → MeetsBy plan code (Some t) m.task c) where
  abbrev n : ℕ
  n = m.task

  abbrev next : All Spot
  next = record c { steps = suc c.steps }

  abbrev asks : Asked
  asks = asked_at code t.own.pending (scene_of plan (flat_controls plan code) m.task c) t.control

  next_good : Good plan code table tasks barriers seen_many sound fits ways next
  next_good = record { framed = like_framed plan code seen_many c next refl refl refl w.framed; spots = w.spots }

  taken : (u : Turn) (x : TaskAt Seen) → x.own ≡ t.own → x.control.coming ≡ coming_at code plan t.own.pending (sight_in m.task (owns c.tasks) c.shared) t.control → Told plan (flat_controls plan code).barrier m.task x (seen plan (flat_controls plan code) c) u → TurnTells plan m.alternative m.task c u → IsFramed plan code seen_many (turn_taken (orders plan code table tasks barriers seen_many sound fits ways) plan (flat_controls plan code).barrier limits u asks m next)
  taken resting x own coming told tells = next_good.framed
  taken closing x own coming told tells =
      (task_closed plan code table tasks barriers seen_many sound fits ways m.task next next_good (ap (λ (o : Own). o.status) (own_got m.task c.tasks t is) ∙ (ap (λ (o : Own). o.status) (sym own) ∙ told)) tells).good.framed
  taken completing x own coming told tells =
      (aborted_completes plan code table tasks barriers seen_many sound fits ways m.task next t next_good is (ap (λ (o : Own). is_over o.status) (sym own) ∙ told.0.0) (ap (λ (o : Own). o.abnormal) (sym own) ∙ told.1.0) told.0.1
      (λ e. ap (λ (o : Own). is_selected (call_of o.call c).state || (is_queued (call_of o.call c).state && (call_of o.call c).stays)) (sym own) ∙ told.1.1 (ap (λ (o : Own). o.status) own ∙ e))).framed
  taken (withdrawing object) x own coming told tells =
      (withdrew plan code table tasks barriers seen_many sound fits ways m.task next t next_good is (ap (λ (o : Own). is_over o.status) (sym own) ∙ told.0.0) object (ap (λ (o : Own). o.withdraw) (sym own) ∙ told.1) told.0.1 tells).framed
  taken (serving v) x own coming told tells =
      (served plan code table tasks barriers seen_many sound fits ways levels v m.task next t next_good is (ap (λ (o : Own). is_over o.status) (sym own) ∙ told.0) (ap (λ (o : Own). o.serving) (sym own) ∙ told.1) m.alternative tells).framed
  taken (restarting r) x own coming told tells =
      (made_again plan code table tasks barriers seen_many sound fits ways levels r m.task next t next_good is (ap (λ (o : Own). o.status) (sym own) ∙ told.0) (ap (λ (o : Own). o.restart) (sym own) ∙ told.1) tells).framed
  taken (expiring ds) x own coming told tells =
      (delay_expired plan code table tasks barriers seen_many sound fits ways (alternative_or_none m.alternative) m.task next t next_good is (subst (λ (o : Own). (o.status ≡ Delaying) ⊎ (o.status ≡ Accepting)) own told)).framed
  taken (cancelling id) x own coming told tells =
      let waiting : t.own.status ≡ Calling = ap (λ (o : Own). o.status) (sym own) ∙ told.0 in
      let same : id ≡ t.own.call = told.1 ∙ ap (λ (o : Own). o.call) own in
      let both = and_parts (is_queued (call_of t.own.call c).state && not (call_of t.own.call c).stays) (IsIdleOwner m.task c (call_of t.own.call c).owner)
      (subst (λ i. is_queued (call_of i c).state && not (call_of i c).stays && IsIdleOwner m.task c (call_of i c).owner ≡ true) same tells) in
      (expired plan code table tasks barriers seen_many sound fits ways m.task next t next_good is (ap is_over waiting) waiting (queued_state (call_of t.own.call c).state (and_parts (is_queued (call_of t.own.call c).state) (not (call_of t.own.call c).stays) both.0).0)
      (λ object e. subst (λ o. IsIdleOwner m.task c o ≡ true) e both.1)).framed
  taken (acting y) x own coming told tells =
      acts_good plan code table tasks barriers seen_many sound fits levels ways limits m.alternative m.task next t next_good is (ap (λ (o : Own). o.status) (sym own) ∙ told.0) (ap (λ (o : Own). o.serving) (sym own) ∙ told.1.0)
      (ap (λ (o : Own). o.restart) (sym own) ∙ told.1.1.0) (meets (ap (λ (o : Own). o.status) (sym own) ∙ told.0)) (subst (λ z. ComingTells m.task next z) (told.1.1.1.0 ∙ coming) tells)
      (λ i l. ap (λ (o : Own). o.abnormal) (sym own) ∙ told.1.1.1.1 i (ap (λ (o : Own). is_leave x.control.coming o) own ∙ (ap (λ z. is_leave z t.own) coming ∙ l)))

pub framed_step : FramedLaw
framed_step plan code table tasks barriers seen_many limits c number m t sound fits levels ways kept enabled is meets = record {
  framed =
      subst (λ d. IsFramed plan code seen_many d) (sym (carried_law plan (flat_controls plan code) limits c m))
      (subst (λ o. IsFramed plan code seen_many (carried_by plan (flat_controls plan code) limits o m c)) (sym is)
      (by (slice_get (seen plan (flat_controls plan code) c).tasks m.task)
      (subst (λ o. SeenAs plan code m.task (owns c.tasks) c.shared o (slice_get (seen plan (flat_controls plan code) c).tasks m.task)) is (seen_there plan code m.task c)) (enabled_tells plan code c number m enabled)));
  spots = step_kept code sound plan limits c m kept.spots;
}
  where
    asks : Asked
    asks = asked_at code t.own.pending (scene_of plan (flat_controls plan code) m.task c) t.control

    by : (x : Option (TaskAt Seen)) → SeenAs plan code m.task (owns c.tasks) c.shared (Some t) x → TurnTells plan m.alternative m.task c (turn_at plan (flat_controls plan code).barrier x m.task (seen plan (flat_controls plan code) c)) → IsFramed plan code seen_many (turn_taken (orders plan code table tasks barriers seen_many sound fits ways) plan (flat_controls plan code).barrier limits (turn_at plan (flat_controls plan code).barrier x m.task (seen plan (flat_controls plan code) c)) asks m (record c { steps = suc c.steps }))
    by None s tells = absurd s
    by (Some x) s tells =
        taken plan code table tasks barriers seen_many sound fits levels ways limits m c t kept is meets (turn plan (flat_controls plan code).barrier m.task x (seen plan (flat_controls plan code) c)) x s.0 s.1
        (turn_told plan (flat_controls plan code).barrier m.task x (seen plan (flat_controls plan code) c) x.own.status refl) tells
