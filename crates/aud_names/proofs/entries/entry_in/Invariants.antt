use Rattle.std.proofs.Common.{◌≡◌, length}
use Rattle.aud_names.specs.Names.{entry_in}
use Rattle.aud_names.proofs.entries.entry_in.Given as goal

abbrev pub invariant-loop-entry : goal.invariant-loop-entry
invariant-loop-entry l = entry_in l.name l.task_type l.rest ≡ entry_in l.name l.task_type l.entries

abbrev pub decreases-loop-entry : goal.decreases-loop-entry
decreases-loop-entry l = length l.rest
