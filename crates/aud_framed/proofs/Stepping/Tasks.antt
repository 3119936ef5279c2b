-- One task changes, of all that is kept.
use Rattle.std.proofs.Common.{◌≡◌, ℕ, zero, suc, List, [], ◌∷◌, Some, Bool, false, refl, ap, ◌∙◌, if◌then◌else◌, slice_get}
use Rattle.std.specs.Prelude.{◌&&◌, ◌||◌, not}
use Rattle.aud_typed.specs.Tree.{Plan}
use Rattle.aud_meaning.specs.declared.state.Status.{Status}
use Rattle.aud_meaning.specs.Configuration.{Opened, Own, TaskAt, Waits, All}
use Rattle.aud_meaning.specs.Effects.{closed, closed_by, is_loop, out_of_loops, out_of_loops_by}
use Rattle.aud_meaning.specs.Parts.{Closable, any, changed, depends, may_terminate, nobody, on_task}
use Rattle.aud_code.specs.Places.{Spot}
use Rattle.aud_code.specs.Flat.{Flat}
use Rattle.aud_code.specs.Seen.{IsSeen}
use Rattle.aud_code.specs.Sound.{Counts, IsSound}
use Rattle.aud_code.specs.Starts.{AreSpots, IsSpot}
use Rattle.aud_framed.specs.Waiting.{TaskFramed}
use Rattle.aud_framed.specs.Stepping.{HasWays}
use Rattle.aud_framed.proofs.Stepping.Ending.{Good}
use Rattle.aud_framed.proofs.Stepping.Parts.{Follows, task_framed}

-- Changes of one task, one after the other.

pub fused : {A : Type 0} (n : ℕ) (f g : A → A) (xs : List A) → changed n f (changed n g xs) ≡ changed n (λ x. f (g x)) xs
fused n f g [] = refl
fused zero f g (x ∷ xs) = refl
fused (suc n) f g (x ∷ xs) = ap (λ ys. x ∷ ys) (fused n f g xs)

pub unchanged : {A : Type 0} (n : ℕ) (f : A → A) (xs : List A) → ((x : A) → f x ≡ x) → changed n f xs ≡ xs
unchanged n f [] e = refl
unchanged zero f (x ∷ xs) e = ap (λ y. y ∷ xs) (e x)
unchanged (suc n) f (x ∷ xs) e = ap (λ ys. x ∷ ys) (unchanged n f xs e)

pub any_same : {A : Type 0} (p : A → Bool) (n : ℕ) (f : A → A) (xs : List A) → ((x : A) → slice_get xs n ≡ Some x → p (f x) ≡ p x) → any p (changed n f xs) ≡ any p xs
any_same p n f [] e = refl
any_same p zero f (x ∷ xs) e = ap (λ b. b || any p xs) (e x refl)
any_same p (suc n) f (x ∷ xs) e = ap (λ b. p x || b) (any_same p n f xs e)

-- what counts of a task for masters
pub record Dependent : Type 0 where
  pub status : Status
  pub masters : List ℕ
  pub waits : Waits
  pub abnormal : Bool

abbrev pub dependent : Own → Dependent
dependent own = record { status = own.status; masters = own.masters; waits = own.waits; abnormal = own.abnormal }

-- so a master is as closable as it was
pub closable_same : (master n : ℕ) (f : TaskAt Spot → TaskAt Spot) (c : All Spot) → ((t : TaskAt Spot) → slice_get c.tasks n ≡ Some t → dependent (f t).own ≡ dependent t.own) → Closable master (on_task n f c) ≡ Closable master c
closable_same master n f c e =
    ap (λ b. not b)
    (any_same (λ (t : TaskAt Spot). depends master t.own && not (may_terminate t.own)) n f c.tasks
    (λ t g. ap (λ (d : Dependent). blocks d) (e t g)))
  where
    blocks : Dependent → Bool
    blocks d = depends master (record nobody { status = d.status; masters = d.masters }) && not (may_terminate (record nobody { status = d.status; waits = d.waits; abnormal = d.abnormal }))

pub spots_at : (code : Flat) (n : ℕ) (f : TaskAt Spot → TaskAt Spot) (ts : List (TaskAt Spot)) → ((t : TaskAt Spot) → slice_get ts n ≡ Some t → IsSpot code.lines t.control → IsSpot code.lines (f t).control) → AreSpots code.lines ts → AreSpots code.lines (changed n f ts)
spots_at code n f [] g h = tt
spots_at code zero f (t ∷ ts) g h = (g t refl h.0, h.1)
spots_at code (suc n) f (t ∷ ts) g h = (h.0, spots_at code n f ts g h.1)

module _ (plan : Plan) (code : Flat) (table : List Counts) (tasks barriers seen : List ℕ) (sound : IsSound code) (fits : IsSeen code table tasks barriers seen) (ways : HasWays code) where
  -- its side is as it was
  pub task_good : (n : ℕ) (f : TaskAt Spot → TaskAt Spot) (c : All Spot) (t : TaskAt Spot) → slice_get c.tasks n ≡ Some t → TaskFramed plan code seen (f t).own.status (f t) → Follows plan c n t.own (f t).own → ((u : TaskAt Spot) → IsSpot code.lines u.control → IsSpot code.lines (f u).control) → Good plan code table tasks barriers seen sound fits ways c → Good plan code table tasks barriers seen sound fits ways (on_task n f c)
  task_good n f c t is framed follows spot w = record {
    framed = task_framed plan code seen n f c t is framed follows w.framed;
    spots = spots_at code n f c.tasks (λ u g h. spot u h) w.spots;
  }

-- The innermost frame is left, which is no loop's.

pub no_loops : (own : Own) (o : Opened) (os : List Opened) → own.opened ≡ o ∷ os → is_loop o.purpose ≡ false → out_of_loops own ≡ own
no_loops own o os e h = ap (λ ps. out_of_loops_by ps own) e ∙ ap (λ b. if b then out_of_loops_by os (record own { display = o.saved; opened = os }) else own) h

pub left_own : (own : Own) (o : Opened) (os : List Opened) → own.opened ≡ o ∷ os → is_loop o.purpose ≡ false → closed (out_of_loops own) ≡ record own { display = o.saved; opened = os }
left_own own o os e h = ap (λ (x : Own). closed x) (no_loops own o os e h) ∙ ap (λ ps. closed_by ps own) e
