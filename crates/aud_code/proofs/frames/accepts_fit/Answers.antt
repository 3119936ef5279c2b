use Rattle.std.proofs.Common.{◌≡◌, ◌<◌, ◌∷◌, length, map, refl, arith, Some}
use Rattle.std.specs.Prelude.{slice_get}
use Rattle.std.proofs.lemmas.Bool.{false≢true}
use Rattle.std.proofs.lemmas.Option.{slice_get_read}
use Rattle.aud_meaning.specs.declared.state.OpenAccept.{OpenAccept}
use Rattle.aud_code.specs.declared.line.Line.TheVariants as line
use Rattle.aud_code.specs.Frames.{BodyAt, IsWritten}
use Rattle.aud_code.specs.View.{bodies_offered, plain_line}
use Rattle.aud_code.proofs.Plainly.{opens_there, opens_later}
use Rattle.aud_code.proofs.frames.accepts_fit.Goals as goal
use Rattle.aud_code.proofs.frames.accepts_fit.Goals.{After-opened_fits}

abbrev Fits : After-opened_fits → OpenAccept → Type 0
Fits c accept = IsWritten (slice_get (c.args.own ∷ bodies_offered c.args.offers.now) accept.alternative) (BodyAt (map plain_line c.args.lines.now) accept.region c.args.within c.args.place)

there : (c : After-opened_fits) → slice_get c.args.lines.now c.loop-here.here ≡ Some (line.Instruction c.in-Instruction.instruction)
there c =
    let lines = c.args.lines.now in
    let within : c.loop-here.here < length lines = omega arith in
    let read = slice_get_read lines (length lines) c.loop-here.here c.index-lines-here.result refl within c.index-lines-here.is in
    rw c.in-Instruction.is at read

pub returns-then-not-opened_fits : goal.returns-then-not-opened_fits
returns-then-not-opened_fits c =
    let after = (goal.at.returns-then-not-opened_fits c).After-opened_fits in
    let later = opens_later c.args.lines.now (Fits after) c.loop-here.here c.in-Instruction.instruction (there after) in
    (λ e. absurd (false≢true e), λ h. c.if-not-opened_fits.ensures.1 (later.0 (c.loop-here.invariant.1 h)).0)

pub loop-here-preserved : goal.loop-here-preserved
loop-here-preserved c =
    let after = (goal.at.loop-here-preserved c).After-opened_fits in
    let later = opens_later c.args.lines.now (Fits after) c.loop-here.here c.in-Instruction.instruction (there after) in
    (λ h. c.loop-here.invariant.0 (later.1 (c.if-not-opened_fits.ensures.0 refl, h)), λ h. (later.0 (c.loop-here.invariant.1 h)).1)

pub returns-in-End : goal.returns-in-End
returns-in-End c =
    let lines = c.args.lines.now in
    let within : c.loop-here.here < length lines = omega arith in
    let read = slice_get_read lines (length lines) c.loop-here.here c.index-lines-here.result refl within c.index-lines-here.is in
    let opened = opens_there lines (λ accept. IsWritten (slice_get (c.args.own ∷ bodies_offered c.args.offers.now) accept.alternative) (BodyAt (map plain_line lines) accept.region c.args.within c.args.place)) c.loop-here.here c.in-End.field-0 (rw c.in-End.is at read) in
    (λ e. c.loop-here.invariant.0 opened, λ h. refl)
