-- Those frames are open that are seen, in each configuration that a program comes to.
use Rattle.std.proofs.Common.{◌≡◌, ℕ, zero, suc, List, [], ◌∷◌, length, Bool, false, refl, sym, ap, ◌∙◌, subst}
use Rattle.aud_text.specs.declared.limits.Limits.{Limits}
use Rattle.aud_typed.specs.Tree.{Plan}
use Rattle.aud_meaning.specs.Configuration.{Frame, All}
use Rattle.aud_meaning.specs.Parts.{owns}
use Rattle.aud_meaning.specs.Run.{opening_with}
use Rattle.aud_code.specs.Places.{Spot}
use Rattle.aud_code.specs.Flat.{Flat, flat_controls}
use Rattle.aud_code.specs.Seen.{IsSeen}
use Rattle.aud_code.specs.Sound.{Counts, IsSound}
use Rattle.aud_over.specs.Over.{forgotten, frames_left, is_named}
use Rattle.aud_over.specs.Standing.{Stands, StandsBut, around}
use Rattle.aud_over.proofs.Naming.{open_left}
use Rattle.aud_over.proofs.Staying.{opening_stands, step_stands}
use Rattle.aud_framed.specs.Fitting.{DeclaresDirectly, OnlyOpen, KeepBodies}
use Rattle.aud_framed.specs.Framed.{HasLevels}
use Rattle.aud_framed.specs.Runs.{AllMeet, Comes, Reached, begins, chooses, steps, waits}
use Rattle.aud_framed.specs.Stepping.{HasWays, IsKept}
use Rattle.aud_framed.proofs.Running.Bodies.{step_bodies}
use Rattle.aud_framed.proofs.Running.Closed.{not_running, not_terminated}
use Rattle.aud_framed.proofs.Running.Fitting.{framed_fits}
use Rattle.aud_framed.proofs.Running.Reaching.{comes_kept, reached_kept}

frames_count : (named : ℕ → Bool) (n : ℕ) (fs : List Frame) → length (frames_left named n fs) ≡ length fs
frames_count named n [] = refl
frames_count named n (f ∷ fs) = ap suc (frames_count named (suc n) fs)

-- frames and calls that are over do not count
stands_kept : (c d : All Spot) → forgotten c ≡ forgotten d → Stands [] c → Stands [] d
stands_kept c d same s =
    subst (λ n. StandsBut (λ masters. false) (owns d.tasks) (around [] d.shared.objects) n) frames
    (subst (λ os. StandsBut (λ masters. false) (owns d.tasks) (around [] os) (length c.shared.frames)) (ap (λ (x : All Spot). x.shared.objects) same)
    (subst (λ ts. StandsBut (λ masters. false) (owns ts) (around [] c.shared.objects) (length c.shared.frames)) (ap (λ (x : All Spot). x.tasks) same) s))
  where
    frames : length c.shared.frames ≡ length d.shared.frames
    frames =
        sym (frames_count (is_named (owns c.tasks) c.shared.objects) 0 c.shared.frames)
        ∙ ap (λ (x : All Spot). length x.shared.frames) same
        ∙ frames_count (is_named (owns d.tasks) d.shared.objects) 0 d.shared.frames

bodies_kept : (c d : All Spot) → forgotten c ≡ forgotten d → KeepBodies c → KeepBodies d
bodies_kept c d same h = subst (λ ts. KeepBodies (record d { tasks = ts })) (ap (λ (x : All Spot). x.tasks) same) h

module _ (plan : Plan) (code : Flat) (table : List Counts) (tasks barriers seen : List ℕ) (name : List ℕ) (limits : Limits) (sound : IsSound code) (fits : IsSeen code table tasks barriers seen) (levels : HasLevels plan code tasks seen) (ways : HasWays code) (direct : DeclaresDirectly code) (meet : AllMeet plan code name limits) where
  record Holds (c : All Spot) : Type 0 where
    kept : IsKept plan code seen c
    bodies : KeepBodies c
    stands : Stands [] c

  opens : KeepBodies (opening_with plan name ((flat_controls plan code).begins 0))
  opens zero done = absurd (not_running done)
  opens (suc n) done = absurd (not_terminated done)

  reached_holds : (c : All Spot) → Reached plan code name limits c → Holds c
  reached_holds c begins = record {
    kept = reached_kept plan code table tasks barriers seen name limits sound fits levels ways meet c begins;
    bodies = opens;
    stands = opening_stands plan name ((flat_controls plan code).begins 0);
  }
  reached_holds c (chooses choices d r) =
      let h = reached_holds d r in
      record { kept = reached_kept plan code table tasks barriers seen name limits sound fits levels ways meet c (chooses choices d r); bodies = h.bodies; stands = h.stands }
  reached_holds c (waits milliseconds d r) =
      let h = reached_holds d r in
      record { kept = reached_kept plan code table tasks barriers seen name limits sound fits levels ways meet c (waits milliseconds d r); bodies = h.bodies; stands = h.stands }
  reached_holds c (steps number m d enabled r) =
      let h = reached_holds d r in
      record {
        kept = reached_kept plan code table tasks barriers seen name limits sound fits levels ways meet c (steps number m d enabled r);
        bodies = step_bodies plan code table tasks barriers seen limits d m sound fits ways h.kept h.bodies;
        stands = step_stands [] plan (flat_controls plan code) limits d m (framed_fits plan code table tasks barriers seen [] m.task d sound fits ways direct h.kept h.bodies) h.stands;
      }

  opened : (c : All Spot) → Holds c → OnlyOpen plan code c
  opened c h = record { stands = h.stands; fits = λ n. framed_fits plan code table tasks barriers seen [] n c sound fits ways direct h.kept h.bodies; left = open_left c h.stands }

  pub reached_open : (c : All Spot) → Reached plan code name limits c → OnlyOpen plan code c
  reached_open c r = opened c (reached_holds c r)

  pub comes_open : (d : All Spot) → Comes plan code name limits d → OnlyOpen plan code d
  comes_open d r =
      let h = reached_holds r.0 r.1 in
      opened d (record { kept = comes_kept plan code table tasks barriers seen name limits sound fits levels ways meet d r; bodies = bodies_kept r.0 d r.2 h.bodies; stands = stands_kept r.0 d r.2 h.stands })
