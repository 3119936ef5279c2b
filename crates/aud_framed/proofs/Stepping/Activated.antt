-- A task's own activation ends: it goes on.
use Rattle.std.proofs.Common.{◌≡◌, ◌⊎◌, ℕ, zero, suc, List, [], ◌∷◌, Option, Some, None, Bool, true, false, refl, sym, ap, ◌∙◌, inl, inr, if◌then◌else◌, slice_get}
use Rattle.std.proofs.lemmas.Bool.{true≢false}
use Rattle.std.specs.Prelude.{◌&&◌, ◌||◌, not}
use Rattle.aud_typed.specs.Tree.{Plan}
use Rattle.aud_meaning.specs.declared.state.Status.TheVariants.{Running}
use Rattle.aud_meaning.specs.Configuration.{Own, TaskAt, All}
use Rattle.aud_meaning.specs.Parts.{any, changed, on_control, on_own, own_of}
use Rattle.aud_meaning.specs.Tasks as effect
use Rattle.aud_code.specs.Places.{Spot}
use Rattle.aud_code.specs.Flat.{Flat, Does, end_at, flat_controls}
use Rattle.aud_code.specs.Instruction.{Activated}
use Rattle.aud_code.specs.Seen.{IsSeen}
use Rattle.aud_code.specs.Sound.{Counts, IsSound}
use Rattle.aud_framed.specs.Stepping.{HasWays}
use Rattle.aud_framed.proofs.Stepping.Activation.{activation_over}
use Rattle.aud_framed.proofs.Stepping.Beginning.{goes_on_good, task_changed}
use Rattle.aud_framed.proofs.Stepping.Ending.{Good}
use Rattle.aud_framed.proofs.Stepping.Parts.{own_got}
use Rattle.aud_framed.proofs.Stepping.Refusing.{orders}

-- a task that may be the one that changes
either_task : (m n : ℕ) (f : TaskAt Spot → TaskAt Spot) (ts : List (TaskAt Spot)) (u : TaskAt Spot) → slice_get ts n ≡ Some u → (slice_get (changed m f ts) n ≡ Some u) ⊎ (slice_get (changed m f ts) n ≡ Some (f u))
either_task m n f [] u e = absurd cc
either_task zero zero f (t ∷ ts) u e = inr (task_changed 0 f (t ∷ ts) u e)
either_task zero (suc n) f (t ∷ ts) u e = inl e
either_task (suc m) zero f (t ∷ ts) u e = inl e
either_task (suc m) (suc n) f (t ∷ ts) u e = either_task m n f ts u e

pub other_task : (m n : ℕ) (f : TaskAt Spot → TaskAt Spot) (ts : List (TaskAt Spot)) → (m ≡ n → ⊥) → slice_get (changed m f ts) n ≡ slice_get ts n
other_task m n f [] differs = refl
other_task zero zero f (t ∷ ts) differs = absurd (differs refl)
other_task zero (suc n) f (t ∷ ts) differs = refl
other_task (suc m) zero f (t ∷ ts) differs = refl
other_task (suc m) (suc n) f (t ∷ ts) differs = other_task m n f ts (λ e. differs (ap suc e))

-- the task is the same, but for who waits for its activation and whether one has failed
record WatchedAt (n : ℕ) (t : TaskAt Spot) (ts : List (TaskAt Spot)) : Type 0 where
  activator : Option ℕ
  failed : Bool
  is : slice_get ts n ≡ Some (record t { own = record t.own { activator = activator; failed = failed } })

module _ (plan : Plan) (code : Flat) (table : List Counts) (tasks barriers seen : List ℕ) (sound : IsSound code) (fits : IsSeen code table tasks barriers seen) (ways : HasWays code) where
  abbrev Kept : All Spot → Type 0
  Kept c = Good plan code table tasks barriers seen sound fits ways c

  abbrev ended : Bool → ℕ → All Spot → All Spot
  ended failed n c = effect.activation_ended (orders plan code table tasks barriers seen sound fits ways) plan (flat_controls plan code).barrier failed n c

  abbrev looks : ℕ → All Spot → All Spot
  looks m c = effect.activator_looks (orders plan code table tasks barriers seen sound fits ways) plan (flat_controls plan code).barrier m c

  abbrev goes : ℕ → All Spot → All Spot
  goes m c = effect.activator_goes_on (orders plan code table tasks barriers seen sound fits ways) plan (flat_controls plan code).barrier m c

  watched_still : (n : ℕ) (c : All Spot) (t : TaskAt Spot) → slice_get c.tasks n ≡ Some t → t.own.status ≡ Running → (failed : Bool) → WatchedAt n t (ended failed n c).tasks
  watched_still n c t is running failed = by (own_of n c).activator
    where
      first : All Spot
      first = on_own n (λ own. record own { activator = None }) c

      by : (a : Option ℕ) → WatchedAt n t (effect.activation_ended_by (orders plan code table tasks barriers seen sound fits ways) plan (flat_controls plan code).barrier a failed n c).tasks
      by None = record { activator = t.own.activator; failed = t.own.failed; is = is }
      by (Some m) = both (either_task m n (λ u. record u { own = record u.own { failed = u.own.failed || failed } }) first.tasks _ (task_changed n (λ u. record u { own = record u.own { activator = None } }) c.tasks t is))
        where
          second : All Spot
          second = on_own m (λ own. record own { failed = own.failed || failed }) first

          looked : (f : Bool) → slice_get second.tasks n ≡ Some (record t { own = record t.own { activator = None; failed = f } }) → WatchedAt n t (looks m second).tasks
          looked f e = at (effect.is_activating (orders plan code table tasks barriers seen sound fits ways) plan (flat_controls plan code).barrier (own_of m second).status) refl (not (any (effect.is_awaited_by (orders plan code table tasks barriers seen sound fits ways) plan (flat_controls plan code).barrier m) second.tasks))
            where
              stays : WatchedAt n t second.tasks
              stays = record { activator = None; failed = f; is = e }

              at : (b : Bool) → effect.is_activating (orders plan code table tasks barriers seen sound fits ways) plan (flat_controls plan code).barrier (own_of m second).status ≡ b → (d : Bool) → WatchedAt n t (if b && d then goes m second else second).tasks
              at true q true = record {
                activator = None;
                failed = f;
                is =
                    other_task m n _ second.tasks
                    (λ same. true≢false (sym q ∙ (ap (λ i. effect.is_activating (orders plan code table tasks barriers seen sound fits ways) plan (flat_controls plan code).barrier (own_of i second).status) same
                    ∙ ap (λ s. effect.is_activating (orders plan code table tasks barriers seen sound fits ways) plan (flat_controls plan code).barrier s) (ap (λ (o : Own). o.status) (own_got n second.tasks _ e) ∙ running)))) ∙ e;
              }
              at true q false = stays
              at false q d = stays

          both : (slice_get second.tasks n ≡ Some (record t { own = record t.own { activator = None } })) ⊎ (slice_get second.tasks n ≡ Some (record t { own = record t.own { activator = None; failed = t.own.failed || failed } })) → WatchedAt n t (looks m second).tasks
          both (inl e) = looked t.own.failed e
          both (inr e) = looked (t.own.failed || failed) e

  pub ends_activation_good : (n : ℕ) (c : All Spot) (t : TaskAt Spot) → Kept c → slice_get c.tasks n ≡ Some t → t.own.status ≡ Running → t.own.pending ≡ None → t.own.again ≡ None → (end_at code t.control.place).last ≡ Does Activated → Kept (on_control n ((orders plan code table tasks barriers seen sound fits ways).takes 0) (ended false n c))
  ends_activation_good n c t w is running none still line =
      let x : WatchedAt n t (ended false n c).tasks = watched_still n c t is running false in
      goes_on_good plan code table tasks barriers seen sound fits ways 0 n (ended false n c) (record t { own = record t.own { activator = x.activator; failed = x.failed } })
      (activation_over plan code table tasks barriers seen sound fits ways false n c w) x.is running none still (Activated, (line, tt))
