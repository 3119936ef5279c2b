-- Calls that are given back depend on no other.
use Rattle.std.proofs.Common.{◌≡◌, ℕ, suc, List, [], ◌∷◌, Bool, true, false, refl, ap, ◌∙◌}
use Rattle.std.specs.Prelude.{◌||◌, not}
use Rattle.aud_meaning.specs.Configuration.{Call, Purpose, for_body, for_block, for_loop, for_procedure, for_operation, for_entry, for_accept, Opened, All}
use Rattle.aud_meaning.specs.Parts.{any, contains, no_call, owns}
use Rattle.aud_code.specs.Places.{Spot}
use Rattle.aud_store.specs.Ties.Stored.{served_by, served_in}
use Rattle.aud_over.specs.Over.{call_if, calls_left, forgotten, frames_left, is_call_over, is_for, is_named, is_served, with_kept}
use Rattle.aud_calls.proofs.CallLaws.GivenBack.{left}
use Rattle.aud_state.specs.Held.{calls_given_back}

module _ (served : ℕ → Bool) where
  -- given back twice
  once : (n : ℕ) (b : Bool) (c : Call) → (not (is_call_over c.state) || served n) ≡ b → left served n (call_if b c) ≡ call_if b c
  once n true c is = ap (λ a. call_if a c) is
  once n false c is = by (not (is_call_over no_call.state) || served n)
    where
      by : (b : Bool) → call_if b no_call ≡ no_call
      by true = refl
      by false = refl

  pub left_again : (n : ℕ) (cs : List Call) → calls_left served n (calls_left served n cs) ≡ calls_left served n cs
  left_again n [] = refl
  left_again n (c ∷ cs) =
      ap (λ d. d ∷ calls_left served (suc n) (calls_left served (suc n) cs)) (once n (not (is_call_over c.state) || served n) c refl)
      ∙ ap (λ ds. left served n c ∷ ds) (left_again (suc n) cs)

pub left_same : (p q : ℕ → Bool) → ((n : ℕ) → p n ≡ q n) → (n : ℕ) (cs : List Call) → calls_left p n cs ≡ calls_left q n cs
left_same p q same n [] = refl
left_same p q same n (c ∷ cs) =
    ap (λ b. call_if (not (is_call_over c.state) || b) c ∷ calls_left p (suc n) cs) (same n)
    ∙ ap (λ ds. left q n c ∷ ds) (left_same p q same (suc n) cs)

pub calls_left_over : (c : All Spot) → forgotten (calls_given_back c) ≡ forgotten c
calls_left_over c =
    ap (λ cs. with_kept (frames_left (is_named (owns c.tasks) c.shared.objects) 0 c.shared.frames) cs c) (left_again (is_served (owns c.tasks)) 0 c.shared.calls)

-- A frame is open for these, and no others.

served_one : (id : ℕ) (p : Purpose) (ids : List ℕ) → contains id (served_by p ids) ≡ (is_for id p || contains id ids)
served_one id for_body ids = refl
served_one id for_block ids = refl
served_one id for_loop ids = refl
served_one id (for_procedure r) ids = refl
served_one id (for_operation n r) ids = refl
served_one id (for_entry n i s b) ids = refl
served_one id (for_accept i) ids = refl

pub serves_same : (id : ℕ) (os : List Opened) → contains id (served_in os) ≡ any (λ (o : Opened). is_for id o.purpose) os
serves_same id [] = refl
serves_same id (o ∷ os) = served_one id o.purpose (served_in os) ∙ ap (λ b. is_for id o.purpose || b) (serves_same id os)
