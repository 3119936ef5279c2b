use Rattle.std.proofs.Common.{◌<◌, ◌≤◌, ◌∙◌, sym, refl, length, arith}
use Rattle.std.proofs.lemmas.Option.{slice_get_read}
use Rattle.aud_code.proofs.Plainly.{found_there, found_later, found_behind}
use Rattle.aud_gen.proofs.Openings.{same_within}
use Rattle.aud_gen.proofs.frames.step_within.Goals as goal

pub returns-in-End : goal.returns-in-End
returns-in-End c =
    let lines = c.args.lines.now in
    let within : c.loop-place.place < length lines = omega arith in
    let here = slice_get_read lines (length lines) c.loop-place.place c.index-lines-place.result refl within c.index-lines-place.is in
    same_within _ _ (sym c.loop-place.invariant ∙ found_there lines c.loop-place.place c.in-End.end (rw c.in-End.is at here))

pub returns : goal.returns
returns c =
    let lines = c.args.lines.now in
    let behind : length lines ≤ c.loop-place.place = omega arith in
    λ l is. let none = sym is ∙ (sym c.loop-place.invariant ∙ found_behind lines c.loop-place.place behind) in cc

pub loop-place-preserved : goal.loop-place-preserved
loop-place-preserved c =
    let lines = c.args.lines.now in
    let within : c.loop-place.place < length lines = omega arith in
    let here = slice_get_read lines (length lines) c.loop-place.place c.index-lines-place.result refl within c.index-lines-place.is in
    sym (found_later lines c.loop-place.place c.in-Instruction.field-0 (rw c.in-Instruction.is at here)) ∙ c.loop-place.invariant
