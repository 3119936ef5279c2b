use Rattle.std.proofs.Common.{◌≡◌, ◌++◌, take}
use Rattle.aud_connection.specs.Greeting.{seat_lines}
use Rattle.aud_connection.proofs.greeting.push_seats.Given as goal

abbrev pub invariant-loop-index : goal.invariant-loop-index
invariant-loop-index l = l.out.items ≡ l.fn.out.items ++ seat_lines 1 (take l.index l.seats)
