-- What holds of the open frames of each task that is completed.
use Rattle.std.proofs.Common.{◌≡◌, ℕ, zero, suc, List, [], ◌∷◌, ◌++◌, Option, Some, None, refl, sym, ◌∙◌, subst, slice_get}
use Rattle.aud_meaning.specs.declared.state.Status.TheVariants.{Completed, Terminated}
use Rattle.aud_meaning.specs.Configuration.{Opened, Own, TaskAt, All, Acting}
use Rattle.aud_meaning.specs.Parts.{acting, alone, alone_by, no_waits, own_of}
use Rattle.aud_meaning.proofs.Limits.Frames.{nth}
use Rattle.aud_code.specs.Places.{Spot}
use Rattle.aud_framed.proofs.Running.Closed.{Busy, Closed, IsNew, not_created, not_terminated}
use Rattle.aud_framed.proofs.Stepping.Parts.{changed_own}

pub joined_own : (P : ℕ → Own → Type 0) (ts more : List (TaskAt Spot)) → ((m : ℕ) → P m (nth m ts)) → ((i n : ℕ) → P i (nth n more)) → (m : ℕ) → P m (nth m (ts ++ more))
joined_own P [] more h g m = g m m
joined_own P (t ∷ ts) more h g zero = h zero
joined_own P (t ∷ ts) more h g (suc m) = joined_own (λ i. P (suc i)) ts more (λ i. h (suc i)) (λ i n. g (suc i) n) m

abbrev pub Has : (ℕ → List Opened → Type 0) → ℕ → Own → Type 0
Has E n own = own.status ≡ Completed → E n own.opened

pub record Keeps (E : ℕ → List Opened → Type 0) (c : All Spot) : Type 0 where
  pub each : (n : ℕ) → (own_of n c).status ≡ Completed → E n (own_of n c).opened

-- of whichever task
abbrev pub Anyone : ℕ → Type 0
Anyone n = Unit {0}

new_has : (E : ℕ → List Opened → Type 0) (ts : List (TaskAt Spot)) → ((i : ℕ) (t : TaskAt Spot) → slice_get ts i ≡ Some t → IsNew t.own) → (i n : ℕ) → Has E i (nth n ts)
new_has E [] g i n done = absurd (not_terminated done)
new_has E (t ∷ ts) g i zero done = absurd (not_created (sym (g zero t refl).status ∙ done))
new_has E (t ∷ ts) g i (suc n) done = new_has E ts (λ j. g (suc j)) i n done

pub ended_closed : (E : ℕ → List Opened → Type 0) → Closed Anyone (Keeps E)
ended_closed E = record {
  task = λ n f c b g h. record { each = λ m. changed_own (λ i own. Has E i own) n f c.tasks (λ t e k done. let x = (g t e).ended done in subst (E n) (sym x.1) (k x.0)) m (h.each m) };
  beside = λ n f c g h. record { each = λ m. changed_own (λ i own. Has E i own) n (λ t. record t { own = f t.own }) c.tasks (λ t e k done. subst (E n) (sym (g t.own).opened) (k (sym (g t.own).status ∙ done))) m (h.each m) };
  terminated = λ n c h. record { each = λ m. changed_own (λ i own. Has E i own) n (λ t. record t { own = record t.own { status = Terminated; pending = None; display = []; opened = []; waits = no_waits } }) c.tasks (λ t e k done. absurd (not_terminated done)) m (h.each m) };
  more = λ ts c g h. record { each = joined_own (Has E) c.tasks ts h.each (new_has E ts g) };
  call = λ id g c same ev h. record { each = h.each };
  made = λ a c b h. record { each = h.each };
  object = λ n f c h. record { each = h.each };
  rest = λ c d e calls objects h. record { each = λ n. subst (λ ts. Has E n (nth n ts)) e (h.each n) };
  live = λ id c h e. tt;
  wakes = λ n c h e. tt;
}

pub alone_ended : (E : ℕ → List Opened → Type 0) (f : Acting Spot → Acting Spot) (n : ℕ) (c : All Spot) → ((u : Acting Spot) → (f u).own.status ≡ u.own.status) → Busy n c → Keeps E c → Keeps E (alone f n c)
alone_ended E f n c same busy h = by (slice_get c.tasks n) refl
  where
    by : (o : Option (TaskAt Spot)) → slice_get c.tasks n ≡ o → Keeps E (alone_by f o n c)
    by None e = h
    by (Some t) e =
        let u : Acting Spot = f (acting t c.shared) in
        record { each = λ m. changed_own (λ i own. Has E i own) n (λ old. record { control = u.control; own = u.own }) c.tasks (λ x d k done. absurd (busy t e (sym (same (acting t c.shared)) ∙ done))) m (h.each m) }
