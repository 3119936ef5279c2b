use Rattle.std.proofs.Common.{◌≡◌, ◌++◌, drop}
use Rattle.aud_check_bodies.specs.Handlers.{exceptions_of}
use Rattle.aud_names.specs.Ties.Regions.{names_in}
use Rattle.aud_check_bodies.proofs.handler.exceptions_of.Given as goal

abbrev pub invariant-loop-other : goal.invariant-loop-other
invariant-loop-other l = l.all.items ++ exceptions_of (drop l.other-index l.names.others.items) l.scope ≡ exceptions_of (names_in l.names) l.scope
