-- A completed task keeps its frames, of which the outermost is a body's.
use Rattle.std.proofs.Common.{◌≡◌, ℕ, suc, List, Some, slice_get, sym, ap, ◌∙◌, subst}
use Rattle.aud_text.specs.declared.limits.Limits.{Limits}
use Rattle.aud_typed.specs.Tree.{Plan}
use Rattle.aud_meaning.specs.declared.state.Move.{Move}
use Rattle.aud_meaning.specs.Configuration.{Opened, Own, TaskAt, All}
use Rattle.aud_meaning.specs.Orders.{carried_out}
use Rattle.aud_meaning.specs.Run.{step_with}
use Rattle.aud_meaning.specs.Step as step
use Rattle.aud_code.specs.Places.{Spot}
use Rattle.aud_code.specs.Flat.{Flat, flat_controls}
use Rattle.aud_code.specs.Seen.{IsSeen}
use Rattle.aud_code.specs.Sound.{Counts, IsSound}
use Rattle.aud_over.specs.Standing.{LastIsMaster, bones}
use Rattle.aud_framed.specs.Fitting.{KeepBodies}
use Rattle.aud_framed.specs.Stepping.{HasWays, IsKept}
use Rattle.aud_framed.proofs.Running.Closed.{not_running, out_status}
use Rattle.aud_framed.proofs.Running.Ended.{Anyone, Has, Keeps, alone_ended, ended_closed}
use Rattle.aud_framed.proofs.Running.Effects.{completed}
use Rattle.aud_framed.proofs.Running.Steps.{last, step_keeps}
use Rattle.aud_framed.proofs.Running.Turns.{IsUnderWay}
use Rattle.aud_framed.proofs.Stepping.Parts.{changed_own, own_got, same_task}

-- What holds of the frames of each task under way holds of those of completed ones.
module _ (E : ℕ → List Opened → Type 0) (plan : Plan) (code : Flat) (table : List Counts) (tasks barriers seen : List ℕ) (sound : IsSound code) (fits : IsSeen code table tasks barriers seen) (ways : HasWays code) (limits : Limits) (m : Move) (c : All Spot) (w : IsKept plan code seen c) (h : Keeps E c) where
  pub step_ends : ((t : TaskAt Spot) → slice_get c.tasks m.task ≡ Some t → IsUnderWay t.own.status → E m.task t.own.opened) → Keeps E (step_with plan (flat_controls plan code) limits c m)
  step_ends under_way = step_keeps plan code table tasks barriers seen sound fits ways limits m c w Anyone (Keeps E) (ended_closed E) tt h (λ t is. record {
    complete = λ u d raised opened k.
        record {
          each = λ i. changed_own (λ j own. Has E j own) m.task (λ x. record x { own = completed (carried_out (flat_controls plan code)) plan (flat_controls plan code).barrier Anyone (Keeps E) (ended_closed E) raised x.own }) d.tasks
              (λ x e q done. subst (λ os. E m.task os) (sym (ap (λ (o : Own). o.opened) (sym (own_got m.task d.tasks x e)) ∙ opened)) (under_way t is u)) i (k.each i);
        };
    object = λ running at declaration cells e. record { each = h.each };
    again = λ y u running loops r e.
        alone_ended E (λ u. step.out_of_loops (carried_out (flat_controls plan code)) plan (flat_controls plan code).barrier loops (step.requeued (carried_out (flat_controls plan code)) plan (flat_controls plan code).barrier r u)) m.task (record c { steps = suc c.steps })
        (λ u. out_status loops (record u.own { again = Some r })) (λ x q done. not_running (sym running ∙ (ap (λ (y : TaskAt Spot). y.own.status) (same_task m.task c.tasks t x is q) ∙ done))) (record { each = h.each });
  })

pub step_bodies : (plan : Plan) (code : Flat) (table : List Counts) (tasks barriers seen : List ℕ) (limits : Limits) (c : All Spot) (m : Move) → IsSound code → IsSeen code table tasks barriers seen → HasWays code → IsKept plan code seen c → KeepBodies c → KeepBodies (step_with plan (flat_controls plan code) limits c m)
step_bodies plan code table tasks barriers seen limits c m sound fits ways w bodies =
    (step_ends (λ n os. LastIsMaster (bones os)) plan code table tasks barriers seen sound fits ways limits m c w (record { each = bodies })
    (λ t is u. last plan code table tasks barriers seen sound fits ways limits m c w t is u)).each
