-- A task that begins sees what it saw where it was created.
use Rattle.std.proofs.Common.{◌≡◌, ℕ, zero, suc, List, [], ◌∷◌, Option, Some, None, slice_get, slice_index_or, refl, ap, sym, ◌∙◌}
use Rattle.std.specs.Prelude.{Result, Bool, false, map, nat_eq, ◌&&◌, ◌||◌, if◌then◌else◌}
use Rattle.aud_text.specs.declared.place.Pos.{Pos}
use Rattle.aud_text.specs.declared.raise.Raise.{Raise}
use Rattle.aud_typed.specs.Tree.{Plan}
use Rattle.aud_meaning.specs.declared.state.Status.TheVariants.{Activating}
use Rattle.aud_meaning.specs.Evaluation.{Sight}
use Rattle.aud_meaning.specs.Orders.{Orders}
use Rattle.aud_meaning.specs.Tasks as effect
use Rattle.aud_meaning.specs.Configuration.{Opened, TaskAt, All, Acting, Own}
use Rattle.aud_meaning.specs.Parts.{acting, alone, alone_by, any, blocks, is_created, no_waits, numbers, changed, nobody, on_own, own_of, owns, put_back}

module _ {C : Type 0} where
  alone_same : (f g : Acting C → Acting C) (o : Option (TaskAt C)) (n : ℕ) (c : All C) → ((t : TaskAt C) → o ≡ Some t → f (acting t c.shared) ≡ g (acting t c.shared)) → alone_by f o n c ≡ alone_by g o n c
  alone_same f g None n c same = refl
  alone_same f g (Some t) n c same = ap (λ a. put_back n a c) (same t refl)

  abbrev seen_by : Option (TaskAt C) → List ℕ
  seen_by None = []
  seen_by (Some t) = t.own.display

  sees : (f : Own → Own) → ((o : Own) → (f o).display ≡ o.display) → (ts : List (TaskAt C)) (n : ℕ) → seen_by (slice_get (changed n (λ t. record t { own = f t.own }) ts) n) ≡ (slice_index_or (owns ts) n nobody).display
  sees f same [] n = refl
  sees f same (t ∷ ts) zero = same t.own
  sees f same (t ∷ ts) (suc n) = sees f same ts n

  -- so it does not matter where the display is read
  pub alone_seeing : (f : Own → Own) → ((o : Own) → (f o).display ≡ o.display) → (h : List ℕ → Acting C → Acting C) (n : ℕ) (c : All C) →
      alone (λ t. h t.own.display t) n (on_own n f c) ≡ alone (h (own_of n c).display) n (on_own n f c)
  alone_seeing f same h n c =
      alone_same (λ t. h t.own.display t) (h (own_of n c).display) (slice_get (on_own n f c).tasks n) n (on_own n f c)
      (λ t is. ap (λ d. h d (acting t c.shared)) (ap seen_by (sym is) ∙ sees f same c.tasks n))

module _ {C : Type 0} (go : Orders C) (plan : Plan) (barrier : ℕ → Sight → Result Bool Raise) where
  -- where there is something to activate
  pub activates_some : (at : Pos) (n : ℕ) (ns : List ℕ) (c : All C) → (ns ≡ [] → ⊥) → effect.activates go plan barrier at n ns c ≡ effect.begin_all go plan barrier n ns (on_own n (λ own. record (blocks Activating at no_waits own) { failed = false }) c)
  activates_some at n [] c some = absurd (some refl)
  activates_some at n (m ∷ ms) c some = refl

  -- those that parts with these frames have created
  frames_any : (os : List Opened) (part : ℕ) → any (λ p. nat_eq p part) (map (λ (o : Opened). o.frame) os) ≡ any (λ (o : Opened). nat_eq o.frame part) os
  frames_any [] part = refl
  frames_any (o ∷ os) part = ap (λ b. nat_eq o.frame part || b) (frames_any os part)

  pub created_same : (os : List Opened) (ts : List (TaskAt C)) (k : ℕ) → numbers (λ (t : TaskAt C). is_created t.own.status && any (λ p. nat_eq p t.own.part) (map (λ (o : Opened). o.frame) os)) k ts ≡ numbers (effect.created_in go plan barrier os) k ts
  created_same os [] k = refl
  created_same os (t ∷ ts) k =
      ap (λ ns. if is_created t.own.status && any (λ p. nat_eq p t.own.part) (map (λ (o : Opened). o.frame) os) then k ∷ ns else ns) (created_same os ts (suc k))
      ∙ ap (λ b. if is_created t.own.status && b then k ∷ numbers (effect.created_in go plan barrier os) (suc k) ts else numbers (effect.created_in go plan barrier os) (suc k) ts) (frames_any os t.own.part)
