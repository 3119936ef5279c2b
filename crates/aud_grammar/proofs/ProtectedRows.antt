-- Small texts with protected objects and their bodies are read by computing.
use Rattle.std.proofs.Common.{refl}
use Rattle.aud_grammar.specs.Why.ProtectedRows.{ProtectedObjects, ProtectedBodies, CallsOfOperations, WrongObjects, WrongBodies, LevelsOfProtected}

pub protected_objects : ProtectedObjects
protected_objects = (refl, refl, refl, refl, refl)

pub protected_bodies : ProtectedBodies
protected_bodies = (refl, refl, refl, refl)

pub calls_of_operations : CallsOfOperations
calls_of_operations = (refl, refl, refl, refl)

pub wrong_objects : WrongObjects
wrong_objects = (refl, refl, refl, refl, refl, refl, refl, refl, refl, refl, refl, refl, refl, refl, refl, refl, refl, refl, refl, refl, refl, refl, refl, refl, refl, refl, refl)

pub wrong_bodies : WrongBodies
wrong_bodies = (refl, refl, refl, refl, refl, refl, refl, refl, refl, refl, refl, refl, refl, refl, refl, refl, refl, refl)

pub levels_of_protected : LevelsOfProtected
levels_of_protected = (refl, refl, refl, refl, refl, refl, refl, refl, refl, refl)
