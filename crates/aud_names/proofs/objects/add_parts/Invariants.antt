use Rattle.std.proofs.Common.{◌≡◌, drop}
use Rattle.aud_names.specs.Objects.{with_parts}
use Rattle.aud_names.specs.Ties.Regions.{plain_region}
use Rattle.aud_names.proofs.objects.add_parts.Given as goal

abbrev pub invariant-loop-part : goal.invariant-loop-part
invariant-loop-part l = with_parts l.instance (drop l.part-index l.parts) (plain_region l.region) ≡ with_parts l.instance l.parts (plain_region l.fn.region)
