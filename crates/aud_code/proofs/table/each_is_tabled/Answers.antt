use Rattle.std.proofs.Common.{◌≡◌, ◌+◌, ◌-◌, ◌<◌, drop, length, map, refl, ap, arith}
use Rattle.std.proofs.lemmas.Bool.{false≢true}
use Rattle.std.proofs.lemmas.List.{drop_all, length-map}
use Rattle.std.proofs.lemmas.Option.{slice_get_read}
use Rattle.aud_code.specs.Flat.{instructions_from}
use Rattle.aud_code.specs.Tabled.{counts}
use Rattle.aud_code.specs.View.{plain_line}
use Rattle.aud_code.proofs.Tables.{before_first, first_there, none_before, one_before, one_more}
use Rattle.aud_code.proofs.Tabling.{first_of, nothing_left, tabled_behind}
use Rattle.aud_code.proofs.table.each_is_tabled.Goals as goal

pub loop-place-init : goal.loop-place-init
loop-place-init c = record {
  tabled = nothing_left c.args.lines.now c.args.table.now c.requires;
  before = ap (λ ls. length (instructions_from ls)) (drop_all (length c.args.lines.now) (map plain_line c.args.lines.now) (simp length-map (omega arith)));
  few = omega arith;
}

pub first_is_tabled-requires : goal.first_is_tabled-requires
first_is_tabled-requires c =
    before_first c.args.lines.now (c.loop-place.place - 1) c.loop-place.place c.loop-place.count (omega (arith, c.loop-place-test.true)) c.loop-place.invariant.before

pub returns-then-not-first_is_tabled : goal.returns-then-not-first_is_tabled
returns-then-not-first_is_tabled c =
    let place = c.loop-place.place - 1 in
    let lines = map plain_line c.args.lines.now in
    let table = map counts c.args.table.now in (
      λ e. absurd (false≢true e),
      λ h. c.if-not-first_is_tabled.ensures.1 (first_there c.args.lines.now c.args.table.now place (first_of (drop place lines) (drop place table) (tabled_behind lines table place h))),
    )

pub loop-place-preserved-in-Instruction : goal.loop-place-preserved-in-Instruction
loop-place-preserved-in-Instruction c =
    let lines = c.args.lines.now in
    let place = c.loop-place.place - 1 in
    let next : place + 1 ≡ c.loop-place.place = omega (arith, c.loop-place-test.true) in
    let within : place < length lines = omega (arith, c.loop-place-test.true, c.loop-place.auto.place) in
    let here = slice_get_read lines (length lines) place c.index-lines-place.result refl within c.index-lines-place.is in
    record {
      tabled = one_more lines c.args.table.now place c.loop-place.place next c.requires within (c.if-not-first_is_tabled.ensures.0 refl) c.loop-place.invariant.tabled;
      before = one_before lines place c.loop-place.place c.loop-place.count next c.loop-place.invariant.before c.in-Instruction.field-0 (rw c.in-Instruction.is at here);
      few = omega (arith, next, c.loop-place.invariant.few);
    }

pub loop-place-preserved : goal.loop-place-preserved
loop-place-preserved c =
    let lines = c.args.lines.now in
    let place = c.loop-place.place - 1 in
    let next : place + 1 ≡ c.loop-place.place = omega (arith, c.loop-place-test.true) in
    let within : place < length lines = omega (arith, c.loop-place-test.true, c.loop-place.auto.place) in
    let here = slice_get_read lines (length lines) place c.index-lines-place.result refl within c.index-lines-place.is in
    record {
      tabled = one_more lines c.args.table.now place c.loop-place.place next c.requires within (c.if-not-first_is_tabled.ensures.0 refl) c.loop-place.invariant.tabled;
      before = none_before lines place c.in-End.field-0 (rw c.in-End.is at here);
      few = omega (arith, c.loop-place.auto.place);
    }
