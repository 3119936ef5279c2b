use Rattle.std.proofs.Common.{◌≡◌, ◌<◌, ◌+◌, ◌∙◌, length, length-append, map, refl, ap, arith}
use Rattle.std.proofs.lemmas.Option.{slice_get_read}
use Rattle.aud_code.specs.View.{plain_line}
use Rattle.aud_code.proofs.Plainly.{found_later}
use Rattle.aud_layout.specs.Opened.{opened_in}
use Rattle.aud_gen.specs.Opening.{StepWithin}
use Rattle.aud_gen.proofs.Openings.{grows_on, one_counted}
use Rattle.aud_gen.proofs.frames.count_body.Goals as goal
use Rattle.aud_gen.proofs.frames.count_body.Goals.{in-Instruction, in-End}

pub loop-place-preserved : goal.loop-place-preserved
loop-place-preserved c =
    let lines = c.args.lines.now in
    let first = c.args.seen.now.items in
    let seen = c.loop-place.seen.items in
    let new = c.push.new.self.items in
    let place = c.loop-place.place in
    let inv = c.loop-place.invariant in
    let grown = c.in_ok-push.ensures.items in
    let longer = ap length grown ∙ length-append seen _ in
    let long : length new ≡ place + 1 = omega (arith, longer, inv.0) in
    let within : place < length lines = omega arith in
    let here = slice_get_read lines (length lines) place c.index-lines-place.result refl within c.index-lines-place.is in
    let step : StepWithin (map plain_line lines) (place + 1) c.match-lines-place.opened =
    elim c.match-lines-place.branch [
      | in-Instruction w ↦ rw w.opened-is (λ l is. inv.1.0 l (found_later lines place w.in-Instruction.field-0 (rw w.in-Instruction.is at here) ∙ is))
      | in-End w ↦ rw w.opened-is w.step_within-opened-in-End.ensures
    ] in
    let count : c.in_ok-count.count ≡ opened_in seen c.args.own c.loop-place.opened = c.in_ok-count.ensures ∙ ap (λ ns. opened_in ns c.args.own c.loop-place.opened) c.deref.ensures.value in
    (long, (step, (grows_on first seen new inv.1.1.0 (_, grown), one_counted (map plain_line lines) c.args.own (length first) seen new c.in_ok-count.count c.loop-place.opened place (place + 1) grown count inv.0 refl inv.1.0 inv.1.1.1)))
