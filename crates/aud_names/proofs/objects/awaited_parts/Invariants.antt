use Rattle.std.proofs.Common.{◌≡◌, ◌++◌, drop}
use Rattle.aud_names.specs.Objects.{awaited_parts}
use Rattle.aud_names.proofs.objects.awaited_parts.Given as goal

abbrev pub invariant-loop-part : goal.invariant-loop-part
invariant-loop-part l = l.awaited.items ++ awaited_parts l.object (drop l.part-index l.parts) ≡ awaited_parts l.object l.parts
