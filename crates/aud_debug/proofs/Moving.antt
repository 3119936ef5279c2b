-- The lines of moves, one by one.
use Rattle.std.proofs.Common.{◌≡◌, ◌<◌, ◌≤◌, ◌+◌, ℕ, zero, suc, List, [], ◌∷◌, ◌++◌, length, drop, get_or, Bool, true, false, add-one, refl, ap, sym, ◌∙◌, arith}
use Rattle.std.proofs.lemmas.List.{at_drop_all, drop_more}
use Rattle.aud_typed.specs.Tree.{Plan}
use Rattle.aud_meaning.specs.declared.state.Move.{Move}
use Rattle.aud_meaning.specs.Configuration.{TaskAt, All}
use Rattle.aud_meaning.specs.Control.{Seen}
use Rattle.aud_meaning.specs.Listings.{move_lines, move_lines_of, moves_by_enabled, moves_view}
use Rattle.aud_meaning.specs.Run.{has_ended, moves_at, moves_by, moves_from, seen, turn, turn_moves}
use Rattle.aud_code.specs.Places.{Spot}
use Rattle.aud_code.specs.Flat.{Flat, barrier_at, flat_controls}
use Rattle.aud_machine.specs.Tasking.{seen_in}
use Rattle.aud_machine.proofs.Tasking.{AreOf, many, moves_of, none_seen}
use Rattle.aud_debug.specs.Ties.Rows.{each_line, move_line}
use Rattle.aud_debug.proofs.Tasked.{one_seen}

-- the first of some from a place on
first_there : {A : Type 0} (xs : List A) (n : ℕ) (x : A) (rest : List A) → drop n xs ≡ x ∷ rest → n < length xs
first_there [] zero x rest is = absurd cc
first_there [] (suc n) x rest is = absurd cc
first_there (y ∷ ys) zero x rest is = omega arith
first_there (y ∷ ys) (suc n) x rest is = let h = first_there ys n x rest is in omega (arith, h)

module _ (plan : Plan) (code : Flat) (c : All Spot) where
  abbrev d : All Seen
  d = seen plan (flat_controls plan code) c

  -- the tasks are what is seen of them by their numbers, from this one on
  abbrev AreSeen : ℕ → List (TaskAt Seen) → Type 0
  AreSeen n [] = Unit {0}
  AreSeen n (t ∷ ts) = (t ≡ seen_in plan code n c) × AreSeen (suc n) ts

  seen_from_there : (n : ℕ) (ts : List (TaskAt Seen)) → ts ≡ drop n d.tasks → AreSeen n ts
  seen_from_there n [] is = tt
  seen_from_there n (t ∷ ts) is =
      let inside : n < length d.tasks = first_there d.tasks n t ts (sym is) in
      let more = is ∙ drop_more d.tasks n none_seen inside in (
        ap (head_or none_seen) more ∙ one_seen plan code c n (omega (arith, inside, many plan code c)),
        seen_from_there (suc n) ts (ap tail_of more ∙ ap (λ k. drop k d.tasks) (add-one n)),
      )
    where
      head_or : TaskAt Seen → List (TaskAt Seen) → TaskAt Seen
      head_or x [] = x
      head_or x (y ∷ ys) = y

      tail_of : List (TaskAt Seen) → List (TaskAt Seen)
      tail_of [] = []
      tail_of (y ∷ ys) = ys

  all_seen : AreSeen 0 d.tasks
  all_seen = seen_from_there 0 d.tasks refl

  -- those of one task
  lines_of : (i n : ℕ) (ms : List Move) (t : TaskAt Seen) → t ≡ seen_in plan code n c → AreOf n ms → move_lines_of plan (barrier_at code) i ms t (turn plan (barrier_at code) n t d) d ≡ each_line plan code i ms c
  lines_of i n [] t is are = refl
  lines_of i n (m ∷ ms) t is are =
      ap (λ x. move_lines_of plan (barrier_at code) i (m ∷ []) x (turn plan (barrier_at code) n x d) d ++ move_lines_of plan (barrier_at code) (suc i) ms t (turn plan (barrier_at code) n t d) d) is
      ∙ ap (λ k. move_lines_of plan (barrier_at code) i (m ∷ []) (seen_in plan code k c) (turn plan (barrier_at code) k (seen_in plan code k c) d) d ++ move_lines_of plan (barrier_at code) (suc i) ms t (turn plan (barrier_at code) n t d) d) (sym are.0)
      ∙ ap (λ rest. move_line plan code i m c ∷ rest) (lines_of (suc i) n ms t is are.1)

  each_more : (i : ℕ) (ms ns : List Move) → each_line plan code i ms c ++ each_line plan code (i + length ms) ns c ≡ each_line plan code i (ms ++ ns) c
  each_more i [] ns =
      let none : i + 0 ≡ i = omega arith in
      ap (λ k. each_line plan code k ns c) none
  each_more i (m ∷ ms) ns =
      let along : i + suc (length ms) ≡ suc i + length ms = omega arith in
      ap (λ rest. move_line plan code i m c ∷ rest) (ap (λ k. each_line plan code (suc i) ms c ++ each_line plan code k ns c) along ∙ each_more (suc i) ms ns)

  -- those of all tasks
  lines_all : (i n : ℕ) (ts : List (TaskAt Seen)) → AreSeen n ts → move_lines plan (barrier_at code) i n ts d ≡ each_line plan code i (moves_from plan (barrier_at code) n ts d) c
  lines_all i n [] are = refl
  lines_all i n (t ∷ ts) are =
      let u = turn plan (barrier_at code) n t d in
      let ms = turn_moves plan (barrier_at code) u n d in
      ap (λ xs. xs ++ move_lines plan (barrier_at code) (i + length ms) (suc n) ts d) (lines_of i n ms t are.0 (moves_of plan (barrier_at code) u n d))
      ∙ ap (λ xs. each_line plan code i ms c ++ xs) (lines_all (i + length ms) (suc n) ts are.1)
      ∙ each_more i ms (moves_from plan (barrier_at code) (suc n) ts d)

  -- of those that are enabled
  lines_by : (ended cut : Bool) → moves_by_enabled plan (barrier_at code) (moves_by plan (barrier_at code) ended cut d) d ≡ each_line plan code 0 (moves_by plan (barrier_at code) ended cut d) c
  lines_by true cut = refl
  lines_by false true = refl
  lines_by false false = some (moves_from plan (barrier_at code) 0 d.tasks d) refl
    where
      some : (ms : List Move) → ms ≡ moves_from plan (barrier_at code) 0 d.tasks d → moves_by_enabled plan (barrier_at code) ms d ≡ each_line plan code 0 ms c
      some [] is = refl
      some (m ∷ ms) is = lines_all 0 0 d.tasks all_seen ∙ ap (λ l. each_line plan code 0 l c) (sym is)

  pub moves_are : moves_view plan (barrier_at code) d ≡ each_line plan code 0 (moves_at plan (flat_controls plan code) c) c
  moves_are = lines_by (has_ended plan (barrier_at code) d.tasks) d.shared.cut

  -- Those of the list in memory.

  pub next_line : (ms : List Move) (i : ℕ) (other : Move) → i < length ms → each_line plan code i (drop i ms) c ≡ (move_line plan code i (get_or ms i other) c ∷ []) ++ each_line plan code (i + 1) (drop (i + 1) ms) c
  next_line ms i other within =
      ap (λ l. each_line plan code i l c) (drop_more ms i other within)
      ∙ ap (λ k. move_line plan code i (get_or ms i other) c ∷ each_line plan code k (drop (i + 1) ms) c) (sym (add-one i))

  pub past_lines : (ms : List Move) (i : ℕ) → length ms ≤ i → each_line plan code i (drop i ms) c ≡ []
  past_lines ms i past = at_drop_all (λ l. each_line plan code i l c) ms i past
