use Rattle.std.proofs.Common.{drop, map}
use Rattle.aud_syntax.specs.Ties.View.{plain_formal}
use Rattle.aud_check_bodies.specs.Formals.{checked_formals}
use Rattle.aud_names.specs.Ties.Regions.{plain_region, plain_regions}
use Rattle.aud_check_bodies.proofs.Passing.{FormalsAhead}
use Rattle.aud_check_bodies.proofs.formal.formals.Given as goal

abbrev pub invariant-loop-next : goal.invariant-loop-next
invariant-loop-next l = FormalsAhead l.faults (plain_region l.region) l.profile.items (map plain_formal (drop l.next-index l.formals)) (plain_regions l.outer) l.fn.faults (checked_formals (map plain_formal l.fn.formals) (plain_region l.fn.region) (plain_regions l.fn.outer))
