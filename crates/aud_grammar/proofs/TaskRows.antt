-- Small texts with tasks and their bodies are read by computing.
use Rattle.std.proofs.Common.{refl}
use Rattle.aud_grammar.specs.Why.TaskRows.{Tasks, Bodies, Attributes, WrongTasks, WrongDefinitions, WrongBodies, LevelsOfTasks}

pub tasks : Tasks
tasks = (refl, refl, refl, refl, refl, refl)

pub bodies : Bodies
bodies = (refl, refl, refl, refl, refl)

pub attributes : Attributes
attributes = (refl, refl)

pub wrong_tasks : WrongTasks
wrong_tasks = (refl, refl, refl, refl, refl, refl, refl, refl, refl, refl, refl, refl, refl, refl, refl, refl, refl, refl)

pub wrong_definitions : WrongDefinitions
wrong_definitions = (refl, refl, refl, refl, refl, refl, refl, refl, refl, refl, refl, refl)

pub wrong_bodies : WrongBodies
wrong_bodies = (refl, refl, refl, refl, refl, refl, refl, refl, refl, refl, refl, refl, refl, refl, refl, refl, refl)

pub levels_of_tasks : LevelsOfTasks
levels_of_tasks = (refl, refl, refl, refl, refl, refl, refl, refl)
