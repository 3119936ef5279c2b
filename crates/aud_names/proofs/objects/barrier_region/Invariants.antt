use Rattle.std.proofs.Common.{◌≡◌}
use Rattle.aud_names.specs.Names.{innermost}
use Rattle.aud_names.specs.Objects.{with_barred, barrier_place}
use Rattle.aud_names.specs.Ties.Regions.{plain_region, plain_place}
use Rattle.aud_names.proofs.objects.barrier_region.Given as goal

abbrev pub invariant-loop-name : goal.invariant-loop-name
invariant-loop-name l = with_barred l.name-iterator (plain_region l.region) ≡ innermost (barrier_place (plain_region l.formals) (plain_place l.object l.outer))
