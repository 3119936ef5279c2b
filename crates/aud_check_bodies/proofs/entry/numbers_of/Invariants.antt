use Rattle.std.proofs.Common.{◌≡◌, ◌++◌, drop}
use Rattle.aud_check_bodies.specs.Entries.{entry_numbers}
use Rattle.aud_check_bodies.proofs.entry.numbers_of.Given as goal

abbrev pub invariant-loop-entry : goal.invariant-loop-entry
invariant-loop-entry l = l.numbers.items ++ entry_numbers (drop l.entry-index l.names) ≡ entry_numbers l.names
