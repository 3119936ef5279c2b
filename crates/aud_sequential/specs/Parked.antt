-- A task while it is not worked on.
use Rattle.std.specs.Prelude.{ℕ, zero, suc, ℤ, pos, List, [], ◌∷◌, take, Option, None, false}
use Rattle.aud_typed.specs.Tree.{UnitPlan}
use Rattle.aud_meaning.specs.declared.state.Pending.{Pending}
use Rattle.aud_meaning.specs.Ties.Stack.{Stack}
use Rattle.aud_meaning.specs.Ties.Part.{Part}
use Rattle.aud_code.specs.Places.{Spot}
use Rattle.aud_code.specs.Flat.{Flat, start_at}
use Rattle.aud_sequential.specs.Shown.{unit_in}

-- what it has by itself: where it stands, what is pending, and its open frames
pub record Parked : Type 0 where
  pub control : Spot
  pub pending : Option Pending
  pub stack : Stack

-- before its first step, with the body of this number, where these frames are seen at its declaration
abbrev pub created : Flat → List UnitPlan → ℕ → List ℕ → Parked
created code units body display = record {
  control = record { place = start_at code body; returns = [] };
  pending = None;
  stack = record { display = take (unit_in units body).level display; opened = [] };
}

-- it is worked on; what all tasks share is as before
abbrev pub acting : Parked → Part Spot → Part Spot
acting t p = record p { control = t.control; pending = t.pending; stack = t.stack }

-- the one that was
abbrev pub parked : Part Spot → Parked
parked p = record { control = p.control; pending = p.pending; stack = p.stack }

-- no task, and nothing that all share
abbrev pub no_part : Part Spot
no_part = record {
  control = record { place = 0; returns = [] };
  pending = None;
  stack = record { display = []; opened = [] };
  frames = [];
  output = [];
  cut = false;
  choices = [];
  clock = 0;
  steps = 0;
}

-- so many tasks from a number on, as the values of a variable
abbrev pub numbers_from : ℕ → ℕ → List ℤ
numbers_from first zero = []
numbers_from first (suc n) = pos first ∷ numbers_from (suc first) n
