-- How many instructions steps and runs execute.
use Rattle.std.specs.Prelude.{ℕ, zero, suc, ◌+◌, ◌-◌, ◌^◌, ◌%◌, ◌≤◌, min, List, [], ◌∷◌, length, slice_index_or}
use Rattle.aud_text.specs.declared.limits.Limits.{Limits}
use Rattle.aud_typed.specs.Tree.{Plan}
use Rattle.aud_meaning.specs.declared.state.Move.{Move}
use Rattle.aud_meaning.specs.Configuration.{All}
use Rattle.aud_meaning.specs.Run.{Turn, acting, moves_at, take_one}
use Rattle.aud_code.specs.Places.{Spot}
use Rattle.aud_code.specs.Flat.{Flat, flat_controls}
use Rattle.aud_expr.specs.Size.{instructions_in, instructions_of_all}
use Rattle.aud_state.specs.Fast.{executed_in}
use Rattle.aud_tasks.specs.Turning.{turn_in}
pub use Rattle.aud_protected.specs.Counting.{costs, most_among, most_asked}

-- Of barriers only a bound is known.

-- of the barrier of an entry
abbrev pub cost_in : Flat → ℕ → ℕ
cost_in code entry = length (slice_index_or code.barriers entry [])

-- a barrier is evaluated where a call arrives, and each of an object's where that is serviced
abbrev pub most_of_barriers : Plan → Flat → ℕ
most_of_barriers plan code = instructions_of_all code.barriers + most_asked (cost_in code) plan

-- besides, the step's own instructions
abbrev pub most_ticks : Plan → Flat → ℕ
most_ticks plan code = instructions_in code.lines + most_of_barriers plan code

-- A count tells these instructions, up to the largest u64, and of barriers at most so many besides.
pub record Counts (own barriers ticks : ℕ) : Type 0 where
  pub least : min own (2 ^ 64 - 1) ≤ ticks
  pub most : ticks ≤ own + barriers

-- A step's own instructions are those of its task's statements, where these are its turn.
abbrev pub at_turn : Turn → ℕ → ℕ
at_turn (acting next) ticks = ticks
at_turn u ticks = 0

module _ (plan : Plan) (code : Flat) where
  abbrev pub step_ticks : All Spot → Move → ℕ
  step_ticks c m = at_turn (turn_in plan code m.task c) (executed_in code m.task c)

  -- of the move that is taken
  abbrev pub ticks_by : Move → List Move → List ℕ → All Spot → ℕ
  ticks_by first ms [] c = step_ticks c first
  ticks_by first ms (choice ∷ choices) c = step_ticks (record c { choices = choices }) (slice_index_or ms (choice % length ms) first)

  abbrev pub ticks_of_one : Move → List Move → All Spot → ℕ
  ticks_of_one m [] c = step_ticks c m
  ticks_of_one m (n ∷ ms) c = ticks_by m (m ∷ n ∷ ms) c.choices c

  module _ (limits : Limits) where
    abbrev pub executed_from : (All Spot → ℕ) → List Move → All Spot → ℕ
    executed_from go [] c = 0
    executed_from go (m ∷ ms) c = ticks_of_one m ms c + go (take_one plan (flat_controls plan code) limits m ms c)

    -- of n steps, or of those until no move is enabled
    abbrev pub executed : ℕ → All Spot → ℕ
    executed zero c = 0
    executed (suc n) c = executed_from (executed n) (moves_at plan (flat_controls plan code) c) c
