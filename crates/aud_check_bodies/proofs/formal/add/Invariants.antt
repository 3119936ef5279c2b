use Rattle.std.proofs.Common.{◌≡◌, ◌++◌, drop}
use Rattle.aud_check_bodies.specs.Formals.{parameters_of}
use Rattle.aud_names.specs.Ties.Regions.{names_in}
use Rattle.aud_check_bodies.proofs.formal.add.Given as goal

abbrev pub invariant-loop-other : goal.invariant-loop-other
invariant-loop-other l = l.profile.items ++ parameters_of (drop l.other-index l.names.others.items) l.fn.parameter ≡ l.fn.profile.items ++ parameters_of (names_in l.fn.names) l.fn.parameter
