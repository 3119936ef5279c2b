-- Small texts with requeue statements are read by computing.
use Rattle.std.proofs.Common.{refl}
use Rattle.aud_grammar.specs.Why.RequeueRows.{TreesOfRequeue, FaultsOfRequeue, LevelsOfRequeue}

pub trees_of_requeue : TreesOfRequeue
trees_of_requeue = (refl, refl, refl, refl)

pub faults_of_requeue : FaultsOfRequeue
faults_of_requeue = (refl, refl, refl, refl, refl, refl, refl, refl, refl, refl, refl, refl, refl, refl, refl)

pub levels_of_requeue : LevelsOfRequeue
levels_of_requeue = (refl, refl)
