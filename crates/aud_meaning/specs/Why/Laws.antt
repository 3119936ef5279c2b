-- What is true of every run of every program.
use Rattle.std.specs.Prelude.{◌≡◌, ℕ, ◌+◌, []}
use Rattle.aud_text.specs.declared.limits.Limits.{Limits}
use Rattle.aud_typed.specs.Tree.{Program}
use Rattle.aud_meaning.specs.Configuration.{Configuration}
use Rattle.aud_meaning.specs.Run.{moves_in, run}

-- a run may be cut anywhere
abbrev pub CutLaw : Type 0
CutLaw = (limits : Limits) (program : Program) (m n : ℕ) (c : Configuration) → run limits program (m + n) c ≡ run limits program n (run limits program m c)

-- steps take no time: only the user lets the clock go on (RM 9.6)
abbrev pub ClockLaw : Type 0
ClockLaw = (limits : Limits) (program : Program) (n : ℕ) (c : Configuration) → (run limits program n c).clock ≡ c.clock

-- a run does all its steps, unless no move is enabled where it ends
abbrev pub StepsLaw : Type 0
StepsLaw =
    (limits : Limits) (program : Program) (n : ℕ) (c : Configuration) → ¬ (moves_in program (run limits program n c) ≡ []) → (run limits program n c).steps ≡ c.steps + n
