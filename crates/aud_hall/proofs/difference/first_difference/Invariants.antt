use Rattle.std.proofs.Common.{◌≡◌, drop}
use Rattle.aud_hall.specs.CheckIns.{first_difference}
use Rattle.aud_hall.proofs.Parting.{on_by}
use Rattle.aud_hall.proofs.difference.first_difference.Given as goal

abbrev pub invariant-loop-place : goal.invariant-loop-place
invariant-loop-place l = first_difference l.journal l.requests ≡ on_by l.place (first_difference (drop l.place l.journal) (drop l.place l.requests))
