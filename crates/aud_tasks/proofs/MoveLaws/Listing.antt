-- The list of moves, task by task.
use Rattle.std.specs.Prelude.{IsTrue}
use Rattle.std.proofs.Common.{◌≡◌, ◌<◌, ◌≤◌, ◌+◌, ◌++◌, ℕ, List, [], ◌∷◌, length, Bool, true, false, refl, ap, sym, ◌∙◌, append-nil, arith}
use Rattle.aud_typed.specs.Tree.{Plan}
use Rattle.aud_meaning.specs.declared.state.Move.{Move}
use Rattle.aud_meaning.specs.Configuration.{All}
use Rattle.aud_code.specs.Places.{Spot}
use Rattle.aud_code.specs.Flat.{Flat}
use Rattle.aud_state.specs.Resting.{Rests}
use Rattle.aud_tasks.specs.Moving.{has_some, moves_of}
use Rattle.aud_tasks.specs.Running.{ActsSimply, AreSimple}
use Rattle.aud_tasks.proofs.MoveLaws.Moving.{from, listed_more, moves_past}
use Rattle.aud_tasks.proofs.MoveLaws.Resting.{rests_between}
use Rattle.aud_tasks.proofs.Running.Chosen.{AreSimpleBelow, all_simple, next_simple, none_simple, simple_up_to, without_moves}

module _ (plan : Plan) (code : Flat) (c : All Spot) where
  -- those of the tasks below a number are listed, and whether all these act simply
  pub record ListedSoFar (n : ℕ) (moves : List Move) (are_simple : Bool) : Type 0 where
    pub listed : moves ++ from plan code c n ≡ from plan code c 0
    pub simple : IsTrue are_simple → AreSimpleBelow plan code c n

  -- the next task that may have some
  module _ (n j : ℕ) (on : n ≤ j) (within : n < j → j ≤ length c.tasks) (rest : (k : ℕ) → n ≤ k → k < j → Rests k c) where
    pub skipped : (moves : List Move) (are_simple : Bool) → ListedSoFar n moves are_simple → ListedSoFar j moves are_simple
    skipped moves are_simple so_far = record {
      listed = ap (λ ms. moves ++ ms) (sym (rests_between plan code c n j on within rest)) ∙ so_far.listed;
      simple = λ yes. simple_up_to plan code c n j (so_far.simple yes) rest;
    }

  pub none_listed : (moves : List Move) → moves ≡ [] → ListedSoFar 0 moves true
  none_listed moves none = record {
    listed = ap (λ ms. ms ++ from plan code c 0) none;
    simple = λ yes. none_simple plan code c;
  }

  pub one_listed : (n : ℕ) (before moves : List Move) (all both : Bool) → ListedSoFar n before all → n < length c.tasks → moves ≡ before ++ moves_of plan code n c → (IsTrue both → IsTrue all) → (IsTrue both → ActsSimply plan code n c) → ListedSoFar (n + 1) moves both
  one_listed n before moves all both so_far within more before_too here = record {
    listed = listed_more plan code c n before moves (moves_of plan code n c) within more refl ∙ so_far.listed;
    simple = λ holds. next_simple plan code c n (so_far.simple (before_too holds)) (here holds);
  }

  module _ (n : ℕ) (moves : List Move) (are_simple : Bool) (past : length c.tasks ≤ n) (so_far : ListedSoFar n moves are_simple) where
    pub all_listed : moves ≡ from plan code c 0
    all_listed = sym (append-nil moves) ∙ ap (λ ms. moves ++ ms) (sym (moves_past plan code c n past)) ∙ so_far.listed

    pub all_act : IsTrue are_simple → AreSimple plan code c
    all_act holds = all_simple plan code c n past (so_far.simple holds)

  -- one that has none
  has_none : (ms : List Move) → length ms ≡ 0 → false ≡ has_some ms
  has_none [] none = refl
  has_none (m ∷ ms) none = absurd (omega (arith, none))

  pub simple_if_none : (n : ℕ) → length (moves_of plan code n c) ≡ 0 → ActsSimply plan code n c
  simple_if_none n none = without_moves plan code c n (has_none (moves_of plan code n c) none)

  nothing : (ms : List Move) → length ms ≡ 0 → ms ≡ []
  nothing [] none = refl
  nothing (m ∷ ms) none = absurd (omega (arith, none))

  pub none_more : (n : ℕ) (before : List Move) → length (moves_of plan code n c) ≡ 0 → before ≡ before ++ moves_of plan code n c
  none_more n before none = sym (append-nil before) ∙ ap (λ ms. before ++ ms) (sym (nothing (moves_of plan code n c) none))
