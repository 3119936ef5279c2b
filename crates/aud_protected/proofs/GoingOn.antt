-- Tasks that go on behind what they do by themselves.
use Rattle.std.proofs.Common.{◌≡◌, ℕ, zero, suc, List, [], ◌∷◌, Option, Some, None, slice_get, refl, ap, sym}
use Rattle.aud_meaning.specs.Configuration.{Acting, All, TaskAt}
use Rattle.aud_meaning.specs.Parts.{acting, alone, alone_by, changed, on_control}
use Rattle.aud_code.specs.Places.{Spot}

twice : (f g : TaskAt Spot → TaskAt Spot) (n : ℕ) (ts : List (TaskAt Spot)) → changed n f (changed n g ts) ≡ changed n (λ t. f (g t)) ts
twice f g n [] = refl
twice f g zero (t ∷ ts) = refl
twice f g (suc n) (t ∷ ts) = ap (λ l. t ∷ l) (twice f g n ts)

past : (f : TaskAt Spot → TaskAt Spot) (n : ℕ) (ts : List (TaskAt Spot)) → slice_get ts n ≡ None → ts ≡ changed n f ts
past f n [] none = refl
past f zero (t ∷ ts) none = absurd cc
past f (suc n) (t ∷ ts) none = ap (λ l. t ∷ l) (past f n ts none)

-- what a task does by itself, and then where it goes on
pub goes_behind : (g : Spot → Spot) (f : Acting Spot → Acting Spot) (n : ℕ) (c : All Spot) → on_control n g (alone f n c) ≡ alone (λ t. (let u = f t in record u { control = g u.control })) n c
goes_behind g f n c = by (slice_get c.tasks n) refl
  where
    by : (o : Option (TaskAt Spot)) → slice_get c.tasks n ≡ o → on_control n g (alone_by f o n c) ≡ alone_by (λ t. (let u = f t in record u { control = g u.control })) o n c
    by None none = ap (λ ts. record c { tasks = ts }) (sym (past (λ t. record t { control = g t.control }) n c.tasks none))
    by (Some t) some =
        let u = f (acting t c.shared) in
        ap (λ ts. record c { tasks = ts; shared = u.shared }) (twice (λ x. record x { control = g x.control }) (λ old. record { control = u.control; own = u.own }) n c.tasks)
