-- What moves, state and listings see of the task of a number.
use Rattle.std.proofs.Common.{◌≡◌, ◌+◌, ℕ, zero, suc, List, [], ◌∷◌, Option, Some, None, slice_get, slice_index_or, refl, ap, ◌∙◌, arith}
use Rattle.aud_typed.specs.Tree.{Plan}
use Rattle.aud_meaning.specs.declared.state.Pending.{Pending}
use Rattle.aud_meaning.specs.Configuration.{Own, Shared, TaskAt, All}
use Rattle.aud_meaning.specs.Control.{Seen, ending}
use Rattle.aud_meaning.specs.Parts.{nobody, owns, sight_in, sight_of}
use Rattle.aud_meaning.specs.Run.{seen, seen_from, shown_place, turn, turn_at}
use Rattle.aud_code.specs.Places.{Spot}
use Rattle.aud_code.specs.Flat.{Flat, barrier_at, coming_at, flat_controls}
use Rattle.aud_sequential.specs.Next.{place_in}
use Rattle.aud_state.specs.Reads.{coming_by, place_by}
use Rattle.aud_tasks.specs.Turning.{coming_in, seen_in, turn_in}

-- where there is none
abbrev pub none_seen : TaskAt Seen
none_seen = record { control = record { coming = ending; place = record { line = 0; col = 0 } }; own = nobody }

abbrev own_by : Option (TaskAt Spot) → Own
own_by None = nobody
own_by (Some t) = t.own

own_is : (ts : List (TaskAt Spot)) (n : ℕ) → own_by (slice_get ts n) ≡ slice_index_or (owns ts) n nobody
own_is [] n = refl
own_is (t ∷ ts) zero = refl
own_is (t ∷ ts) (suc n) = own_is ts n

module _ (plan : Plan) (code : Flat) where
  abbrev pub one_seen : ℕ → List Own → Shared → Option (TaskAt Spot) → Option (TaskAt Seen)
  one_seen m os shared None = None
  one_seen m os shared (Some t) = Some (record { control = record { coming = coming_at code plan t.own.pending (sight_in m os shared) t.control; place = shown_place plan (flat_controls plan code) t.own.pending t.control }; own = t.own })

  pub seen_at : (i m n : ℕ) (ts : List (TaskAt Spot)) (os : List Own) (shared : Shared) → i + n ≡ m → slice_get (seen_from plan (flat_controls plan code) i ts os shared) n ≡ one_seen m os shared (slice_get ts n)
  seen_at i m n [] os shared is = refl
  seen_at i m zero (t ∷ ts) os shared is =
      let e : i ≡ m = omega (arith, is) in
      ap (λ j. one_seen j os shared (Some t)) e
  seen_at i m (suc n) (t ∷ ts) os shared is = seen_at (suc i) m n ts os shared (omega (arith, is))

  places : (pending : Option Pending) (s : Spot) → shown_place plan (flat_controls plan code) pending s ≡ place_in code s.place pending
  places None s = refl
  places (Some p) s = refl

  -- whatever is said of what is seen of it
  pub seen_law : {A : Type 0} (f : Option (TaskAt Seen) → A) (g : TaskAt Seen → A) → f None ≡ g none_seen → ((t : TaskAt Seen) → f (Some t) ≡ g t) → (n : ℕ) (c : All Spot) →
      f (slice_get (seen plan (flat_controls plan code) c).tasks n) ≡ g (seen_in plan code n c)
  seen_law f g none some n c =
      ap f (seen_at 0 n n c.tasks (owns c.tasks) c.shared (omega arith))
      ∙ by (slice_get c.tasks n)
      ∙ ap (λ o. g (record { control = record { coming = coming_in plan code n c; place = place_by code (slice_get c.tasks n) }; own = o })) (own_is c.tasks n)
    where
      by : (o : Option (TaskAt Spot)) → f (one_seen n (owns c.tasks) c.shared o) ≡ g (record { control = record { coming = coming_by code plan (sight_of n c) o; place = place_by code o }; own = own_by o })
      by None = none
      by (Some t) =
          some (record { control = record { coming = coming_at code plan t.own.pending (sight_of n c) t.control; place = shown_place plan (flat_controls plan code) t.own.pending t.control }; own = t.own })
          ∙ ap (λ p. g (record { control = record { coming = coming_at code plan t.own.pending (sight_of n c) t.control; place = p }; own = t.own })) (places t.own.pending t.control)

  pub turn_law : (n : ℕ) (c : All Spot) → turn_in plan code n c ≡ turn plan (barrier_at code) n (seen_in plan code n c) (seen plan (flat_controls plan code) c)
  turn_law n c =
      seen_law (λ o. turn_at plan (barrier_at code) o n (seen plan (flat_controls plan code) c)) (λ t. turn plan (barrier_at code) n t (seen plan (flat_controls plan code) c)) refl (λ t. refl) n c
