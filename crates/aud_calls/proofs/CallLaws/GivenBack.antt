-- Calls that are given back one after the other.
use Rattle.std.proofs.Common.{◌≡◌, ℕ, zero, suc, ◌+◌, List, [], ◌∷◌, length, Bool, true, false, refl, ap, sym, ◌∙◌, arith}
use Rattle.std.specs.Prelude.{◌||◌, not}
use Rattle.aud_meaning.specs.Configuration.{Call}
use Rattle.aud_meaning.specs.Parts.{changed}
use Rattle.aud_over.specs.Over.{call_if, calls_left, is_call_over}

module _ (served : ℕ → Bool) where
  abbrev pub left : ℕ → Call → Call
  left n c = call_if (not (is_call_over c.state) || served n) c

  kept_by : (b : Bool) (n : ℕ) (c : Call) → served n ≡ true → call_if (not b || served n) c ≡ c
  kept_by true n c h = ap (λ s. call_if s c) h
  kept_by false n c h = refl

  -- one for which a frame is open stays
  pub stays : (n : ℕ) (cs : List Call) → served n ≡ true → (k : ℕ) → changed k (left n) cs ≡ cs
  stays n [] h k = refl
  stays n (c ∷ cs) h zero = ap (λ d. d ∷ cs) (kept_by (is_call_over c.state) n c h)
  stays n (c ∷ cs) h (suc k) = ap (λ ds. c ∷ ds) (stays n cs h k)

  alone : (b : Bool) (n : ℕ) (c : Call) → served n ≡ false → call_if (not b) c ≡ call_if (not b || served n) c
  alone true n c h = ap (λ s. call_if s c) (sym h)
  alone false n c h = refl

  pub left_alone : (n : ℕ) (c : Call) → served n ≡ false → call_if (not (is_call_over c.state)) c ≡ left n c
  left_alone n c h = alone (is_call_over c.state) n c h

  -- the first so many, counted from a number on
  abbrev pub left_first : ℕ → ℕ → List Call → List Call
  left_first n zero cs = cs
  left_first n (suc k) cs = changed k (left (n + k)) (left_first n k cs)

  first_left : (n k : ℕ) (c : Call) (cs : List Call) → left_first n (suc k) (c ∷ cs) ≡ left n c ∷ left_first (suc n) k cs
  first_left n zero c cs = let z : n + 0 ≡ n = omega arith in ap (λ m. left m c ∷ cs) z
  first_left n (suc k) c cs =
      let z : n + suc k ≡ suc n + k = omega arith in
      ap (changed (suc k) (left (n + suc k))) (first_left n k c cs)
      ∙ ap (λ m. left n c ∷ changed k (left m) (left_first (suc n) k cs)) z

  all_from : (n : ℕ) (cs : List Call) → left_first n (length cs) cs ≡ calls_left served n cs
  all_from n [] = refl
  all_from n (c ∷ cs) = first_left n (length cs) c cs ∙ ap (λ l. left n c ∷ l) (all_from (suc n) cs)

  pub all_left : (k : ℕ) (cs : List Call) → k ≡ length cs → left_first 0 k cs ≡ calls_left served 0 cs
  all_left k cs is = ap (λ m. left_first 0 m cs) is ∙ all_from 0 cs

  -- one more of them
  pub more_left : (n : ℕ) (cs : List Call) → changed n (left n) (left_first 0 n cs) ≡ left_first 0 (n + 1) cs
  more_left n cs =
      let z : n ≡ 0 + n = omega arith in
      let next : suc n ≡ n + 1 = omega arith in
      ap (λ m. changed n (left m) (left_first 0 n cs)) z ∙ ap (λ k. left_first 0 k cs) next

  pub none_left : (n : ℕ) (cs : List Call) → served n ≡ true → left_first 0 n cs ≡ left_first 0 (n + 1) cs
  none_left n cs h = sym (stays n (left_first 0 n cs) h n) ∙ more_left n cs
