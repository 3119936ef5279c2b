use Rattle.std.proofs.Common.{◌≡◌, false, drop}
use Rattle.aud_layout.specs.Layout.{units_code_by, starts_from_by, spare_from_by}
use Rattle.aud_layout.specs.Written.{flat_step, written}
use Rattle.aud_gen.specs.Writes.{bodies_in}
use Rattle.aud_gen.proofs.Units.{with_units, with_starts, with_spare}
use Rattle.aud_gen.proofs.program.write_code.Given as goal

abbrev pub invariant-loop-unit : goal.invariant-loop-unit
invariant-loop-unit l =
    let rest = bodies_in (drop l.unit-index l.units) in
    let all = bodies_in l.units in
    l.writer.refused ≡ false →
    (with_units l.writer.lines rest ≡ written (units_code_by flat_step all 0))
    × ((with_starts l.starts.items l.writer.lines rest ≡ starts_from_by flat_step all 0) × (with_spare l.writer.lines rest ≡ spare_from_by flat_step all 0))
