use Rattle.std.proofs.Common.{◌≡◌, length, length-append, ◌∷◌, ◌++◌, ◌+◌, [], drop, map, ap, sym, ◌∙◌, arith}
use Rattle.std.proofs.lemmas.List.{drop_all, length-map}
use Rattle.aud_typed.specs.Ties.View.{body_in}
use Rattle.aud_code.specs.View.{plain_barrier, plain_line}
use Rattle.aud_gen.specs.Writes.{barriers_in, bodies_in}
use Rattle.aud_gen.proofs.Loops.{dropped}
use Rattle.aud_gen.proofs.Openings.{written_long, written_ordered}
use Rattle.aud_gen.proofs.Units.{with_units, with_starts, with_spare, one_unit, one_start, one_spare, units_written}
use Rattle.aud_gen.proofs.program.write_code.Goals as goal

pub loop-unit-preserved : goal.loop-unit-preserved
loop-unit-preserved c =
    let units = c.args.units.now in
    let u = c.unit-item.result in
    let b = body_in u.body in
    let rest = bodies_in (drop (c.loop-unit.unit-index + 1) units) in
    let first : bodies_in (drop c.loop-unit.unit-index units) ≡ b ∷ rest = ap bodies_in (dropped units c.loop-unit.unit-index u (omega arith) c.unit-item.is) in
    let now = c.loop-unit.writer.lines in
    let new = c.write_unit.new.self.lines in
    let starts = c.loop-unit.starts.items in
    λ e.
    let unit = c.write_unit.ensures.unless_refused e in
    let h = unit.1 in
    let inv = c.loop-unit.invariant unit.0 in (
      one_unit b rest now new _ h (ap (with_units now) (sym first) ∙ inv.0),
      (one_start b rest starts c.push.new.self.items _ now new h (c.in_ok-push.ensures.items ∙ ap (λ n. starts ++ n ∷ []) c.place.ensures) (ap (with_starts starts now) (sym first) ∙ inv.1.0), one_spare b rest _ now new h (ap (with_spare now) (sym first) ∙ inv.1.1)),
    )

pub returns-clause-code : goal.returns-clause-code
returns-clause-code c =
    let units = c.args.units.now in
    let none : bodies_in (drop c.loop-unit.unit-index units) ≡ [] = ap bodies_in (drop_all c.loop-unit.unit-index units (omega (arith, c.loop-unit-test.false))) in
    let whole = c.in_ok-lines.ensures in
    let idle = c.write_idle.ensures.unless_refused whole.0 in
    let inv = rw none at c.loop-unit.invariant idle.0 in
    units_written (bodies_in units) (barriers_in c.args.entries.now) c.loop-unit.writer.lines (map plain_line c.in_ok-lines.lines.items) c.loop-unit.starts.items c.place-spare.result (map plain_barrier c.in_ok-barriers.barriers.items) inv.0 inv.1.0 inv.1.1 c.place-spare.ensures (whole.1 ∙ idle.1) c.in_ok-barriers.ensures.plain

pub frames-requires-clause-long : goal.frames-requires-clause-long
frames-requires-clause-long c =
    let units = c.args.units.now in
    let none : bodies_in (drop c.loop-unit.unit-index units) ≡ [] = ap bodies_in (drop_all c.loop-unit.unit-index units (omega (arith, c.loop-unit-test.false))) in
    let idle = c.write_idle.ensures.unless_refused c.in_ok-lines.ensures.0 in
    let inv = rw none at c.loop-unit.invariant idle.0 in
    rw c.deref-3.ensures.value (written_long units c.loop-unit.writer.lines c.loop-unit.starts.items inv.1.0)

pub frames-requires-clause-order : goal.frames-requires-clause-order
frames-requires-clause-order c =
    let units = c.args.units.now in
    let none : bodies_in (drop c.loop-unit.unit-index units) ≡ [] = ap bodies_in (drop_all c.loop-unit.unit-index units (omega (arith, c.loop-unit-test.false))) in
    let whole = c.in_ok-lines.ensures in
    let idle = c.write_idle.ensures.unless_refused whole.0 in
    let inv = rw none at c.loop-unit.invariant idle.0 in
    let lines = c.in_ok-lines.lines.items in
    let grown = ap length (whole.1 ∙ idle.1) ∙ length-append c.loop-unit.writer.lines _ in
    let long : length (map plain_line lines) ≡ length lines = length-map lines plain_line in
    rw (c.deref-2.ensures.value, c.deref-3.ensures.value) (written_ordered (bodies_in units) c.loop-unit.writer.lines c.loop-unit.starts.items c.place-spare.result (length lines) inv.1.0 inv.1.1 c.place-spare.ensures (omega (arith, grown, long)))
