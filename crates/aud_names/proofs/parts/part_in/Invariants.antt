use Rattle.std.proofs.Common.{◌≡◌, length}
use Rattle.aud_names.specs.Objects.{part_in}
use Rattle.aud_names.proofs.parts.part_in.Given as goal

abbrev pub invariant-loop-part : goal.invariant-loop-part
invariant-loop-part l = part_in l.name l.object l.rest ≡ part_in l.name l.object l.parts

abbrev pub decreases-loop-part : goal.decreases-loop-part
decreases-loop-part l = length l.rest
