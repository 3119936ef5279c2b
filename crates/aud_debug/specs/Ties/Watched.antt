-- The lines of protected objects and of waiting tasks, one by one.
use Rattle.std.specs.Prelude.{ℕ, suc, min, ℤ, List, [], ◌∷◌, ◌++◌, map, Option, Some, None, Bool, true, false, if◌then◌else◌, codes}
use Rattle.std.specs.Fmt.{decimal}
use Rattle.aud_typed.specs.declared.program.Exception.{Exception}
use Rattle.aud_typed.specs.Tree.{Named, ObjectPlan, Plan}
use Rattle.aud_meaning.specs.declared.state.Action.{Action}
use Rattle.aud_meaning.specs.Configuration.{Waits, All}
use Rattle.aud_meaning.specs.Parts.{entry_plan, is_terminated, object_of, object_plan, own_of}
use Rattle.aud_meaning.specs.Tasks.{barrier_of}
use Rattle.aud_meaning.specs.Listings.Objects.{action_words, barrier_word, is_open, lines_if_open, part_around, within}
use Rattle.aud_meaning.specs.Listings.Values.{exception_name, spaced}
use Rattle.aud_meaning.specs.Listings.Waits.{accept_words, delay_behind, hold_reasons, raised_reasons, reason_lines, soonest, terminate_words, times}
use Rattle.aud_code.specs.Places.{Spot}
use Rattle.aud_code.specs.Flat.{Flat, barrier_at}
use Rattle.aud_machine.specs.Tasking.{hold_in}
use Rattle.aud_debug.specs.Ties.Pages.{variable_lines}

-- Objects.

abbrev pub declared_in : Plan → ℕ → All Spot → ObjectPlan
declared_in plan n c = object_plan plan (object_of n c).declaration

abbrev pub tasks_of : List Action → List ℕ
tasks_of actions = map (λ (a : Action). a.task) actions

abbrev pub object_head : Plan → ℕ → All Spot → List ℕ
object_head plan n c = spaced (decimal (suc n)) ((declared_in plan n c).name ++ action_words (object_of n c).actions)

-- a component with these cells, unless it is hidden
abbrev pub component_line : ℕ → List ℕ → Named → List ℤ → List (List ℕ)
component_line number name v cells = variable_lines number (within name v) cells

abbrev pub barrier_line : Plan → Flat → ℕ → ℕ → All Spot → List ℕ
barrier_line plan code n e c =
    spaced (decimal (suc n)) (spaced ((declared_in plan n c).name ++ 46 ∷ (entry_plan plan e).name) (barrier_word (barrier_of plan (barrier_at code) n e c)))

-- those of an object, unless its declarative part is left
abbrev pub object_lines_of : Plan → Flat → ℕ → All Spot → List (List ℕ)
object_lines_of plan code n c =
    let o = object_of n c in
    let d = declared_in plan n c in
    lines_if_open plan (barrier_at code) (is_open (part_around d o) c) n d o c

-- Waiting tasks.

abbrev pub told_of : ℕ → List (List ℕ) → All Spot → List (List ℕ)
told_of n reasons c = reason_lines n (own_of n c).name reasons

-- all reasons of a task
abbrev pub reasons_in : Plan → Flat → ℕ → All Spot → List (List ℕ)
reasons_in plan code n c =
    let own = own_of n c in
    if is_terminated own.status then []
    else raised_reasons plan own.pending ++ hold_reasons plan (hold_in plan code n c) n own c

abbrev pub raised_line : Plan → Exception → List ℕ
raised_line plan x = spaced (codes "raised") (exception_name plan x)

abbrev pub accept_line : Plan → Waits → List ℕ
accept_line plan w = codes "accept" ++ (accept_words plan w.accepts ++ (terminate_words w.terminate ++ delay_behind (times w.delays)))

-- behind a space, or nothing
abbrev pub number_if : Bool → ℕ → List ℕ
number_if true n = 32 ∷ decimal (suc n)
number_if false n = []

-- the soonest of some times, and of one that was found before them
abbrev pub first_of : List ℕ → Option ℕ
first_of [] = None
first_of (time ∷ more) = Some (soonest time more)

abbrev pub sooner : Option ℕ → ℕ → ℕ
sooner None time = time
sooner (Some found) time = min found time
