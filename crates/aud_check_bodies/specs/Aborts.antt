-- Abort statements (RM 9.8).
use Rattle.std.specs.Prelude.{List, [], ◌∷◌, ◌++◌, Option, Some, None}
use Rattle.aud_text.specs.declared.place.Pos.{Pos}
use Rattle.aud_syntax.specs.Plain.{Name, Names, no_names, more_names}
use Rattle.aud_typed.specs.Tree as tree
use Rattle.aud_fault.specs.declared.fault.Fault.{Fault}
use Rattle.aud_names.specs.declared.names.Meaning.{Meaning}
use Rattle.aud_names.specs.declared.names.Meaning.TheVariants.{Task}
use Rattle.aud_names.specs.Names.{Place}
use Rattle.aud_names.specs.Rules.{wrong_kind_of_name}
use Rattle.aud_names.specs.Resolution.{value_faults}
use Rattle.aud_typing.specs.Expressions.{Entity, no_entity, entity, element_of, task_of, Denoting, denoting, checked_arguments}

abbrev pub meaning_faults : Meaning → Pos → List Fault
meaning_faults (Task t) at = []
meaning_faults m at = value_faults m at

-- what is named is a task: a single one, the one that runs the body, or one of an array, by its index (RM 9.8(3))
abbrev pub aborted_faults : Entity → Pos → List Fault
aborted_faults no_entity at = []
aborted_faults (entity m) at = meaning_faults m at
aborted_faults (element_of a index s) at = wrong_kind_of_name at
aborted_faults (task_of a index) at = []

abbrev pub aborted : Entity → Option tree.TaskName
aborted (entity (Task t)) = Some (tree.single t.variable)
aborted (task_of a index) = Some (tree.indexed a index)
aborted _ = None

abbrev pub denoted : Name → Place → Denoting
denoted n place = denoting n (checked_arguments n place).typed place

abbrev pub named_faults : Name → Place → List Fault
named_faults n place = (checked_arguments n place).faults ++ ((denoted n place).faults ++ aborted_faults (denoted n place).entity (denoted n place).at)

abbrev pub named_task : Name → Place → Option tree.TaskName
named_task n place = aborted (denoted n place).entity

-- a faulty name is none
abbrev pub listed : Option tree.TaskName → List tree.TaskName
listed None = []
listed (Some t) = t ∷ []

abbrev pub others_faults : Names → Place → List Fault
others_faults no_names place = []
others_faults (more_names n ns) place = named_faults n place ++ others_faults ns place

abbrev pub other_tasks : Names → Place → List tree.TaskName
other_tasks no_names place = []
other_tasks (more_names n ns) place = listed (named_task n place) ++ other_tasks ns place

abbrev pub abort_faults : Name → Names → Place → List Fault
abort_faults n ns place = named_faults n place ++ others_faults ns place

abbrev pub typed_abort : Pos → Name → Names → Place → tree.Statement
typed_abort at n ns place = tree.abort at (listed (named_task n place) ++ other_tasks ns place)
