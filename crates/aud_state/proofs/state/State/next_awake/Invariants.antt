use Rattle.std.proofs.Common.{◌<◌, ◌≤◌, ℕ}
use Rattle.aud_state.specs.Resting.{Rests}
use Rattle.aud_state.proofs.state.State.next_awake.Given as goal

abbrev pub invariant-loop-task : goal.invariant-loop-task
invariant-loop-task l = (n : ℕ) → l.from ≤ n → n < l.task → Rests n l.self
