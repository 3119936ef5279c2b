use Rattle.std.proofs.Common.{◌<◌, ◌≤◌, ◌∙◌, sym, refl, length, arith}
use Rattle.std.proofs.lemmas.Option.{slice_get_read}
use Rattle.aud_code.proofs.Plainly.{found_there, found_later, found_behind}
use Rattle.aud_code.proofs.frames.found.Goals as goal

pub returns-in-End-clause-some : goal.returns-in-End-clause-some
returns-in-End-clause-some c =
    let lines = c.args.lines.now in
    let within : c.loop-place.place < length lines = omega arith in
    let here = slice_get_read lines (length lines) c.loop-place.place c.index-lines-place.result refl within c.index-lines-place.is in
    sym c.loop-place.invariant ∙ found_there lines c.loop-place.place c.in-End.end (rw c.in-End.is at here)

pub returns-clause-none : goal.returns-clause-none
returns-clause-none c =
    let lines = c.args.lines.now in
    let behind : length lines ≤ c.loop-place.place = omega arith in
    sym c.loop-place.invariant ∙ found_behind lines c.loop-place.place behind

pub loop-place-preserved : goal.loop-place-preserved
loop-place-preserved c =
    let lines = c.args.lines.now in
    let within : c.loop-place.place < length lines = omega arith in
    let here = slice_get_read lines (length lines) c.loop-place.place c.index-lines-place.result refl within c.index-lines-place.is in
    sym (found_later lines c.loop-place.place c.in-Instruction.field-0 (rw c.in-Instruction.is at here)) ∙ c.loop-place.invariant
