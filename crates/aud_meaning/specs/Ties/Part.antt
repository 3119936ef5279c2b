-- What a task has by itself, with what all tasks share of the store and the run: as it is worked on in memory.
use Rattle.std.specs.Prelude.{ℕ, List, Option, Bool}
use Rattle.aud_meaning.specs.declared.state.Pending.{Pending}
use Rattle.aud_meaning.specs.Configuration.{Frame, Own, Shared, Acting}
use Rattle.aud_meaning.specs.Ties.Stack.{Stack}

-- what it has left to do, what is pending, its open frames; all frames, the output, what the user has supplied, and the steps taken
pub record Part (C : Type 0) : Type 0 where
  pub control : C
  pub pending : Option Pending
  pub stack : Stack
  pub frames : List Frame
  pub output : List ℕ
  pub cut : Bool
  pub choices : List ℕ
  pub clock : ℕ
  pub steps : ℕ

-- of a task that has this besides, where all share this besides
abbrev pub within_own : Own → Option Pending → Stack → Own
within_own own pending s = record own { pending = pending; display = s.display; opened = s.opened }

abbrev pub shared_by : {C : Type 0} → Shared → Part C → Shared
shared_by shared p = record shared { frames = p.frames; output = p.output; cut = p.cut }

abbrev pub within : {C : Type 0} → Own → Shared → Part C → Acting C
within own shared p = record { control = p.control; own = within_own own p.pending p.stack; shared = shared_by shared p }

-- what no task's own step changes
pub record Rest : Type 0 where
  pub choices : List ℕ
  pub clock : ℕ
  pub steps : ℕ

abbrev pub rest_of : {C : Type 0} → Part C → Rest
rest_of p = record { choices = p.choices; clock = p.clock; steps = p.steps }
