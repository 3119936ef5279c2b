-- What a user can see of protected objects: whose actions are under way, components, barriers (RM 9.4, 9.5.1, 9.5.2).
use Rattle.std.specs.Prelude.{ℕ, suc, ◌-◌, List, [], ◌∷◌, ◌++◌, length, map, drop, Bool, Result, Ok, Err, nat_eq, if◌then◌else◌, codes, slice_index}
use Rattle.std.specs.Fmt.{decimal}
use Rattle.aud_text.specs.declared.raise.Raise.{Raise}
use Rattle.aud_text.specs.Raise.{raise_name}
use Rattle.aud_typed.specs.Tree.{Plan, ObjectPlan, Named}
use Rattle.aud_meaning.specs.declared.state.Action.{Action}
use Rattle.aud_meaning.specs.Configuration.{Frame, Opened, Object, TaskAt, All}
use Rattle.aud_meaning.specs.Evaluation.{Sight, frame_at, image_of_truth}
use Rattle.aud_meaning.specs.Parts.{any, object_plan, entry_plan}
use Rattle.aud_meaning.specs.Tasks.{barrier_of}
use Rattle.aud_meaning.specs.Listings.Values.{spaced, numbered, frame_lines}

-- the tasks that have an action under way, in the order in which they began
abbrev pub action_words : List Action → List ℕ
action_words [] = 32 ∷ codes "idle"
action_words (a ∷ more) = numbered (map (λ (x : Action). x.task) (a ∷ more))

-- a component behind its object's name
abbrev pub within : List ℕ → Named → Named
within name v = record v { name = name ++ 46 ∷ v.name }

-- the components of an object of a declaration: its bodies see its frame at its level, and the first cell there is its own number
abbrev pub component_lines : ℕ → ObjectPlan → Object → List Frame → List (List ℕ)
component_lines n d o frames =
    frame_lines (suc n) (length d.components) (map (within d.name) d.components) (drop 1 (frame_at o.display frames d.level))

abbrev pub barrier_word : Result Bool Raise → List ℕ
barrier_word (Ok b) = image_of_truth b
barrier_word (Err raise) = raise_name raise

-- the frame of the declarative part that declares it
abbrev pub part_around : ObjectPlan → Object → ℕ
part_around d o = slice_index o.display (d.level - 1)

-- a task has the frame open
abbrev pub is_open : {C : Type 0} → ℕ → All C → Bool
is_open frame c = any (λ (t : TaskAt _). any (λ (o : Opened). nat_eq o.frame frame) t.own.opened) c.tasks

module _ {C : Type 0} (plan : Plan) (barrier : ℕ → Sight → Result Bool Raise) where
  -- what its entries' barriers come to now
  abbrev pub barrier_lines : ℕ → ObjectPlan → List ℕ → All C → List (List ℕ)
  barrier_lines n d [] c = []
  barrier_lines n d (e ∷ es) c =
      spaced (decimal (suc n)) (spaced (d.name ++ 46 ∷ (entry_plan plan e).name) (barrier_word (barrier_of plan barrier n e c))) ∷ barrier_lines n d es c

  abbrev pub lines_of_object : ℕ → ObjectPlan → Object → All C → List (List ℕ)
  lines_of_object n d o c =
      spaced (decimal (suc n)) (d.name ++ action_words o.actions) ∷ (component_lines n d o c.shared.frames ++ barrier_lines n d d.entries c)

  -- one whose declarative part is left is shown no more
  abbrev pub lines_if_open : Bool → ℕ → ObjectPlan → Object → All C → List (List ℕ)
  lines_if_open there n d o c = if there then lines_of_object n d o c else []

  abbrev pub object_lines : ℕ → List Object → All C → List (List ℕ)
  object_lines n [] c = []
  object_lines n (o ∷ os) c =
      let d = object_plan plan o.declaration in
      lines_if_open (is_open (part_around d o) c) n d o c ++ object_lines (suc n) os c

  abbrev pub objects_view : All C → List (List ℕ)
  objects_view c = object_lines 0 c.shared.objects c
