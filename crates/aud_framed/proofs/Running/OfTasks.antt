-- Programs without protected objects.
use Rattle.std.proofs.Common.{◌≡◌, ℕ, zero, suc, List, Option, Some, None, refl, ap, ◌∙◌, slice_get}
use Rattle.std.proofs.lemmas.Option.{same_Some}
use Rattle.aud_text.specs.declared.limits.Limits.{Limits}
use Rattle.aud_typed.specs.Tree.{Plan}
use Rattle.aud_meaning.specs.declared.state.Move.{Move}
use Rattle.aud_meaning.specs.Configuration.{Shared, TaskAt, All, Acting}
use Rattle.aud_meaning.specs.Orders.{carried_out}
use Rattle.aud_meaning.specs.Parts.{acting, alone, alone_by}
use Rattle.aud_meaning.specs.Run.{advanced, opening_with, step_with}
use Rattle.aud_meaning.specs.Step as step
use Rattle.aud_code.specs.Places.{Spot}
use Rattle.aud_code.specs.Flat.{Flat, flat_controls}
use Rattle.aud_code.specs.Seen.{IsSeen}
use Rattle.aud_code.specs.Sound.{Counts, IsSound}
use Rattle.aud_framed.specs.Framed.{HasLevels}
use Rattle.aud_framed.specs.OfTasks.{IsOfTasks, OfTasksLaw, TasksMeetLaw}
use Rattle.aud_framed.specs.Runs.{MeetsIf, Reached, begins, chooses, steps, waits}
use Rattle.aud_framed.specs.Stepping.{HasWays, IsKept}
use Rattle.aud_framed.proofs.Running.Again.{LeavesAt, all_leave}
use Rattle.aud_framed.proofs.Running.Ended.{Anyone}
use Rattle.aud_framed.proofs.Running.Meeting.{declares_none, task_meets}
use Rattle.aud_framed.proofs.Running.Reaching.{comes_kept, opens, other, stepped}
use Rattle.aud_framed.proofs.Running.Standing.{comes_open}
use Rattle.aud_framed.proofs.Running.Staying.{NoObjects, objects_closed}
use Rattle.aud_framed.proofs.Running.Steps.{step_keeps}

module _ (plan : Plan) (code : Flat) (table : List Counts) (tasks barriers seen : List ℕ) (sound : IsSound code) (fits : IsSeen code table tasks barriers seen) (ways : HasWays code) (of_tasks : IsOfTasks plan code) (limits : Limits) where
  pub step_objects : (m : Move) (c : All Spot) → IsKept plan code seen c → NoObjects c → NoObjects (step_with plan (flat_controls plan code) limits c m)
  step_objects m c w none =
      step_keeps plan code table tasks barriers seen sound fits ways limits m c w Anyone NoObjects objects_closed tt none (λ t is. record {
        complete = λ u d raised opened h. h;
        object = λ running at declaration cells e. absurd (declares_none plan code table tasks barriers seen sound fits of_tasks m.task c w none t is running at declaration cells e);
        again = λ y u running loops r e. made (λ a. step.out_of_loops (carried_out (flat_controls plan code)) plan (flat_controls plan code).barrier loops (step.requeued (carried_out (flat_controls plan code)) plan (flat_controls plan code).barrier r a)) m.task (record c { steps = suc c.steps }) (λ a. refl) none;
      })
    where
      made : (f : Acting Spot → Acting Spot) (n : ℕ) (d : All Spot) → ((a : Acting Spot) → (f a).shared ≡ a.shared) → NoObjects d → NoObjects (alone f n d)
      made f n d same h = by (slice_get d.tasks n)
        where
          by : (o : Option (TaskAt Spot)) → NoObjects (alone_by f o n d)
          by None = h
          by (Some t) = ap (λ (s : Shared). s.objects) (same (acting t d.shared)) ∙ h

  module _ (name : List ℕ) (levels : HasLevels plan code tasks seen) where
    record Holds (c : All Spot) : Type 0 where
      kept : IsKept plan code seen c
      none : NoObjects c
      leave : (k : ℕ) → LeavesAt code k c

    meets : (m : Move) (c : All Spot) → Holds c → MeetsIf plan code (slice_get c.tasks m.task) m.task c
    meets m c h = by (slice_get c.tasks m.task) refl
      where
        by : (o : Option (TaskAt Spot)) → slice_get c.tasks m.task ≡ o → MeetsIf plan code o m.task c
        by None e = tt
        by (Some t) e = λ running. task_meets plan code table tasks barriers seen sound fits of_tasks m.task c h.kept h.none t e running (h.leave m.task t e)

    begins_so : (k : ℕ) → LeavesAt code k (opening_with plan name ((flat_controls plan code).begins 0))
    begins_so zero t e r makes = let wrong : None ≡ Some r = ap (λ (x : TaskAt Spot). x.own.again) (same_Some _ t e) ∙ makes in absurd cc
    begins_so (suc k) t e r makes = absurd cc

    holds : (c : All Spot) → Reached plan code name limits c → Holds c
    holds c begins = record { kept = opens plan code table tasks barriers seen name limits sound fits levels ways; none = refl; leave = begins_so }
    holds c (chooses choices d r) =
        let h = holds d r in
        record { kept = other plan code table tasks barriers seen name limits sound fits levels ways d (record d { choices = choices }) refl refl h.kept; none = h.none; leave = h.leave }
    holds c (waits milliseconds d r) =
        let h = holds d r in
        record { kept = other plan code table tasks barriers seen name limits sound fits levels ways d (advanced milliseconds d) refl refl h.kept; none = h.none; leave = h.leave }
    holds c (steps number m d enabled r) =
        let h = holds d r in
        record {
          kept = stepped plan code table tasks barriers seen name limits sound fits levels ways number m d enabled (meets m d h) h.kept;
          none = step_objects m d h.kept h.none;
          leave = all_leave plan code table tasks barriers seen sound fits ways of_tasks limits m d h.kept h.none h.leave;
        }

pub tasks_meet : TasksMeetLaw
tasks_meet plan code table tasks barriers seen name limits sound fits levels ways of_tasks c number m r enabled =
    meets plan code table tasks barriers seen sound fits ways of_tasks limits name levels m c (holds plan code table tasks barriers seen sound fits ways of_tasks limits name levels c r)

pub tasks_run : OfTasksLaw
tasks_run plan code table tasks barriers seen name limits c sound fits levels ways direct of_tasks comes =
    let meet = tasks_meet plan code table tasks barriers seen name limits sound fits levels ways of_tasks in (
      comes_kept plan code table tasks barriers seen name limits sound fits levels ways meet c comes,
      comes_open plan code table tasks barriers seen name limits sound fits levels ways direct meet c comes,
    )
