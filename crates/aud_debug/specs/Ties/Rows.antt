-- The lines of tasks and of moves, one by one.
use Rattle.std.specs.Prelude.{ℕ, suc, List, [], ◌∷◌, ◌++◌, codes}
use Rattle.std.specs.Fmt.{decimal}
use Rattle.aud_typed.specs.Tree.{Plan}
use Rattle.aud_meaning.specs.declared.state.Move.{Move}
use Rattle.aud_meaning.specs.declared.state.Owner.{Owner}
use Rattle.aud_meaning.specs.declared.state.Owner.TheVariants as owner
use Rattle.aud_meaning.specs.Configuration.{All}
use Rattle.aud_meaning.specs.Listings.{abnormal_word, alternative_word, queue_lines, spaced, word}
use Rattle.aud_meaning.specs.Parts.{call_of, entry_plan, object_of, object_plan, own_of, owner_number}
use Rattle.aud_code.specs.Places.{Spot}
use Rattle.aud_code.specs.Flat.{Flat, barrier_at}
use Rattle.aud_machine.specs.Tasking.{status_in, step_in}

-- the number of a task, which counts from 1, and its name, each followed by a space
abbrev pub task_head : ℕ → All Spot → List ℕ
task_head n c = decimal (suc n) ++ 32 ∷ ((own_of n c).name ++ 32 ∷ [])

-- its status, and whether it is abnormal
abbrev pub status_words : Plan → Flat → ℕ → All Spot → List ℕ
status_words plan code n c = status_in plan code n c ++ abnormal_word plan (barrier_at code) (own_of n c)

abbrev pub task_line : Plan → Flat → ℕ → All Spot → List ℕ
task_line plan code n c =
    spaced (decimal (suc n)) (spaced (own_of n c).name (spaced (status_words plan code n c) (decimal (step_in plan code n c).at.line)))

abbrev pub move_line : Plan → Flat → ℕ → Move → All Spot → List ℕ
move_line plan code i m c =
    spaced (decimal i) (spaced (decimal (suc m.task)) (spaced (own_of m.task c).name (spaced (decimal (step_in plan code m.task c).at.line) (word (step_in plan code m.task c).kind ++ alternative_word plan (barrier_at code) m.alternative))))

-- those of some moves, the first of which has this index
abbrev pub each_line : Plan → Flat → ℕ → List Move → All Spot → List (List ℕ)
each_line plan code i [] c = []
each_line plan code i (m ∷ ms) c = move_line plan code i m c ∷ each_line plan code (suc i) ms c

-- Queues.

abbrev pub owner_word : Owner → List ℕ
owner_word (owner.Task n) = codes "task"
owner_word (owner.Object n) = codes "object"

abbrev pub owner_name : Plan → Owner → All Spot → List ℕ
owner_name plan (owner.Task n) c = (own_of n c).name
owner_name plan (owner.Object n) c = (object_plan plan (object_of n c).declaration).name

-- the task or object, with its number, and the entry, before the callers
abbrev pub queue_head : Plan → Owner → ℕ → All Spot → List ℕ
queue_head plan o entry c =
    spaced (owner_word o) (spaced (decimal (suc (owner_number o))) (owner_name plan o c ++ 46 ∷ ((entry_plan plan entry).name ++ 58 ∷ [])))

-- the callers of these calls
abbrev pub calls_on : List ℕ → All Spot → List ℕ
calls_on [] c = []
calls_on (id ∷ ids) c = 32 ∷ (decimal (suc (call_of id c).caller) ++ calls_on ids c)

-- those of some entries of a task or an object
abbrev pub entry_lines : Plan → Owner → List ℕ → All Spot → List (List ℕ)
entry_lines plan o entries c = queue_lines plan (owner_word o) (owner_name plan o c) (owner_number o) entries c

-- the line of an entry, if a call is queued there
abbrev pub queue_line : Plan → Owner → ℕ → All Spot → List (List ℕ)
queue_line plan o entry c = entry_lines plan o (entry ∷ []) c
