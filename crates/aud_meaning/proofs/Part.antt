-- Frames that a task leaves are those that its part leaves.
use Rattle.std.proofs.Common.{◌≡◌, ℕ, zero, suc, List, [], ◌∷◌, Option, Some, None, Bool, true, false, if◌then◌else◌, refl, ap, ◌∙◌}
use Rattle.aud_meaning.specs.declared.state.Pending.{Pending}
use Rattle.aud_meaning.specs.Configuration.{Opened, Own}
use Rattle.aud_meaning.specs.Effects as own
use Rattle.aud_meaning.specs.Effects.{is_loop, changed_first}
use Rattle.aud_meaning.specs.Ties.Stack.{Stack, closed, closed_by, closed_times, out_of_loops, out_of_loops_by, on_innermost}
use Rattle.aud_meaning.specs.Ties.Part.{within_own}

module _ (o : Own) (pending : Option Pending) where
  closes_by : (os : List Opened) (s : Stack) → within_own o pending (closed_by os s) ≡ own.closed_by os (within_own o pending s)
  closes_by [] s = refl
  closes_by (x ∷ os) s = refl

  pub closes : (s : Stack) → within_own o pending (closed s) ≡ own.closed (within_own o pending s)
  closes s = closes_by s.opened s

  pub closes_times : (n : ℕ) (s : Stack) → within_own o pending (closed_times n s) ≡ own.out_of n (within_own o pending s)
  closes_times zero s = refl
  closes_times (suc n) s = closes_times n (closed s) ∙ ap (own.out_of n) (closes s)

  leaves_by : (os : List Opened) (s : Stack) → within_own o pending (out_of_loops_by os s) ≡ own.out_of_loops_by os (within_own o pending s)
  leaves_by [] s = refl
  leaves_by (x ∷ os) s = by (is_loop x.purpose) (leaves_by os (record { display = x.saved; opened = os }))
    where
      by : (b : Bool) → within_own o pending (out_of_loops_by os (record { display = x.saved; opened = os })) ≡ own.out_of_loops_by os (within_own o pending (record { display = x.saved; opened = os })) →
          within_own o pending (if b then out_of_loops_by os (record { display = x.saved; opened = os }) else s) ≡ (if b then own.out_of_loops_by os (record (within_own o pending s) { display = x.saved; opened = os }) else within_own o pending s)
      by true more = more
      by false more = refl

  pub leaves_loops : (s : Stack) → within_own o pending (out_of_loops s) ≡ own.out_of_loops (within_own o pending s)
  leaves_loops s = leaves_by s.opened s

-- the innermost construct handles what is pending
pub handles : (o : Own) (pending : Option Pending) (p : Pending) (s : Stack) →
    within_own o None (on_innermost (λ f. record f { handling = Some p.exception }) (out_of_loops s)) ≡ own.handles p (within_own o pending s)
handles o pending p s = ap (λ (x : Own). record x { pending = None; opened = changed_first (λ f. record f { handling = Some p.exception }) x.opened }) (leaves_loops o pending s)
