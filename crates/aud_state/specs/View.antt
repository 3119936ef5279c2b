-- All tasks with what they share in memory, as a configuration.
use Rattle.std.specs.Prelude.{ℕ, ℤ, List, [], ◌∷◌, ◌++◌, length, map, Option, Some, None, if◌then◌else◌}
use Rattle.aud_text.specs.declared.raise.Raise.TheVariants.{Tasking}
use Rattle.aud_typed.specs.declared.program.Exception.TheVariants.{Predefined}
use Rattle.aud_meaning.specs.declared.state.Pending.{Pending}
use Rattle.aud_meaning.specs.declared.state.Resumed.{Resumed}
use Rattle.aud_meaning.specs.declared.state.Status.TheVariants.{Running}
use Rattle.aud_meaning.specs.Effects.{closed, handles, pends}
use Rattle.aud_meaning.specs.Configuration.{TaskAt, All, Own}
use Rattle.aud_meaning.specs.Configuration as meaning
use Rattle.aud_meaning.specs.Orders.{Orders}
use Rattle.aud_meaning.specs.Parts.{nobody, number_name, runs}
use Rattle.aud_meaning.specs.Ties.Part.{Part, within_own}
use Rattle.aud_code.specs.Places.{Spot}
use Rattle.aud_calls.specs.View.{Kept}
use Rattle.aud_state.specs.declared.object.Object.{Object}
use Rattle.aud_state.specs.declared.task.Task.{Task}
pub use Rattle.aud_state.specs.Condition.{plain_waits}

-- of an element of an array with its number
abbrev pub element_name : List ℕ → Option ℤ → List ℕ
element_name name None = name
element_name name (Some z) = name ++ 40 ∷ (number_name z ++ 41 ∷ [])

-- what it has but for what is pending and its frames
abbrev pub plain_own : Task → Own
plain_own t = record nobody {
  name = element_name t.name t.element;
  task_type = t.task_type;
  unit = t.unit;
  status = t.condition.status;
  raised = t.raised;
  masters = t.masters.items;
  part = t.part;
  activator = t.activator;
  failed = t.failed;
  at = t.at;
  waits = t.condition.waits;
  call = t.call;
  serving = t.condition.serving;
  again = t.again;
  restart = t.restart;
  abnormal = t.condition.abnormal;
  withdraw = t.withdraw;
}

abbrev pub plain_task : Task → TaskAt Spot
plain_task t = record { control = t.parked.control; own = within_own (plain_own t) t.parked.pending t.parked.stack }

abbrev pub plain_object : Object → meaning.Object
plain_object o = record { declaration = o.declaration; display = o.display.items; actions = o.actions.items }

abbrev pub all_of : List Task → Part Spot → Kept → List Object → All Spot
all_of tasks p kept objects = record {
  tasks = map plain_task tasks;
  shared = record { frames = p.frames; output = p.output; cut = p.cut; calls = kept.calls; arrivals = kept.arrivals; objects = map plain_object objects };
  choices = p.choices;
  clock = p.clock;
  steps = p.steps;
}

-- one object more, whose bodies see these frames and that of its components, with these cells
abbrev pub with_object : ℕ → List ℤ → List ℕ → meaning.Shared → meaning.Shared
with_object declaration cells display s = record s {
  frames = s.frames ++ cells ∷ [];
  objects = s.objects ++ record { declaration = declaration; display = display ++ length s.frames ∷ []; actions = [] } ∷ [];
}

-- it goes on, and a part follows of what stands there
abbrev pub resumes : Orders Spot → ℕ → TaskAt Spot → TaskAt Spot
resumes go part t = record { control = go.takes part t.control; own = runs t.own }

-- it goes on, with what the accept of this alternative does
abbrev pub begins_accept : Orders Spot → ℕ → TaskAt Spot → TaskAt Spot
begins_accept go alternative t = record { control = go.accepts alternative t.control; own = runs t.own }

-- it is in an entry body, and what it waited for or had pending is set aside
abbrev pub begins_entry : Orders Spot → ℕ → TaskAt Spot → TaskAt Spot
begins_entry go unit t = record { control = go.enters unit t.control; own = record t.own { status = Running; pending = None; serving = None } }

-- out of an entry body it goes back to what it was at
abbrev pub goes_back : Resumed → Own → Own
goes_back back own = record (closed own) { status = back.status; pending = back.pending; again = None }

-- out of what an accept does
abbrev pub leaves_accept : Own → Own
leaves_accept own = record (closed own) { again = None }

-- all activations have ended for which it waited
abbrev pub goes_on_behind : Orders Spot → TaskAt Spot → TaskAt Spot
goes_on_behind go t = record { control = go.takes 0 t.control; own = if t.own.failed then pends (Predefined Tasking) t.own.at (runs t.own) else runs t.own }

-- its innermost construct handles what is pending
abbrev pub handles_it : Orders Spot → Pending → TaskAt Spot → TaskAt Spot
handles_it go p t = record { control = go.handling p.exception t.control; own = handles p t.own }
