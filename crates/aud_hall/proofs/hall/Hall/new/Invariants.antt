use Rattle.std.proofs.Common.{◌≡◌, take}
use Rattle.aud_hall.specs.Halls.{nobodys}
use Rattle.aud_hall.proofs.hall.Hall.new.Given as goal

abbrev pub invariant-loop-each : goal.invariant-loop-each
invariant-loop-each l = l.places.items ≡ nobodys (take l.each-index l.fn.limits.items)
