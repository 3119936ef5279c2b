-- The plain data of what a name in memory denotes.
use Rattle.aud_typed.specs.Ties.View.{plain_integer}
use Rattle.aud_typing.specs.declared.entity.Entity as memory
use Rattle.aud_typing.specs.declared.entity.Entity.TheVariants.{Nothing, Whole, Element, Task}
use Rattle.aud_typing.specs.Expressions.{Entity, no_entity, entity, element_of, task_of}

abbrev pub plain_entity : memory.Entity → Entity
plain_entity Nothing = no_entity
plain_entity (Whole m) = entity m
plain_entity (Element e) = element_of e.array (plain_integer e.index) e.subtype
plain_entity (Task a index) = task_of a (plain_integer index)
