-- What a machine shows, and what its calls do to it.
use Rattle.std.specs.Prelude.{◌≡◌, ℕ, ◌+◌, List, Option, Some, None, Result, OnErr, IsErr, true, false}
use Rattle.aud_text.specs.declared.limits.Limits.{Limits}
use Rattle.aud_typed.specs.Tree.{Program}
use Rattle.aud_meaning.specs.Configuration.{Item, All, Configuration}
use Rattle.aud_meaning.specs.declared.state.Move.{Move}
use Rattle.aud_meaning.specs.Run.{step, run, state_in}
use Rattle.aud_meaning.specs.Why.Open.{NoneMissed}
use Rattle.aud_code.specs.Places.{Spot}
use Rattle.aud_layout.specs.Law as code
use Rattle.aud_over.specs.Over.{forgotten}
pub use Rattle.aud_tasks.specs.declared.run.Ran.{Ran}
use Rattle.aud_machine.specs.Shown.{Shown, program_in}

-- code under way shows the configuration, and the same is left of it as of the machine; where memory is refused, it shows none from then on
pub record Shows (m : Shown) (c : Configuration) : Type 0 where
  pub alive : m.spent ≡ false
  pub through : All Spot
  pub all : code.Shows (program_in m) through c
  pub left : forgotten through ≡ forgotten m.all

-- it holds of the configuration that the machine shows
abbrev pub IfShows : Shown → (Configuration → Type 0) → Type 0
IfShows m holds = (c : Configuration) → Shows m c → holds c

-- it shows one in which no call is queued on a task's open entry
abbrev pub MissesNone : Shown → Type 0
MissesNone m = (c : Configuration) × Shows m c × NoneMissed (List Item) c

-- what a call leaves that may need memory: the program, its code and the limits. Where memory is refused, the machine is spent, and one
-- that is spent refuses
pub record Leaves {A E : Type 0} (old new : Shown) (result : Result A E) : Type 0 where
  pub code : new.code ≡ old.code
  pub program : new.program ≡ old.program
  pub limits : new.limits ≡ old.limits
  pub spent : OnErr result (new.spent ≡ true)
  pub refuses : old.spent ≡ true → IsErr result

-- what was done, where it led from one configuration to another
pub record Did (program : Program) (ran : Ran) (from to : Configuration) : Type 0 where
  pub steps : ran.steps + from.steps ≡ to.steps
  pub state : ran.state ≡ state_in program to

-- the machine was run for n steps, or until no move was enabled
pub record RunsFrom (limits : Limits) (program : Program) (n : ℕ) (c : Configuration) (new : Shown) (ran : Ran) : Type 0 where
  pub shows : Shows new (run limits program n c)
  pub did : Did program ran c (run limits program n c)

-- the machine took the move; where there is none, nothing has changed
abbrev pub Takes : Limits → Program → Configuration → Option Move → Shown → Shown → Option Ran → Type 0
Takes limits program c None old new taken = (taken ≡ None) × (new ≡ old)
Takes limits program c (Some m) old new taken =
    (ran : Ran) × (taken ≡ Some ran) × Shows new (step limits program c m) × Did program ran c (step limits program c m)
