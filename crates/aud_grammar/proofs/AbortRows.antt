-- Small texts with abort statements are read by computing.
use Rattle.std.proofs.Common.{refl}
use Rattle.aud_grammar.specs.Why.AbortRows.{TreesOfAbort, FaultsOfAbort, LevelsOfAbort}

pub trees_of_abort : TreesOfAbort
trees_of_abort = (refl, refl, refl, refl)

pub faults_of_abort : FaultsOfAbort
faults_of_abort = (refl, refl, refl, refl, refl, refl, refl, refl, refl, refl, refl, refl, refl, refl, refl, refl)

pub levels_of_abort : LevelsOfAbort
levels_of_abort = (refl, refl)
