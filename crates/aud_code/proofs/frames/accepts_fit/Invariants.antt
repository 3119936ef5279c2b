use Rattle.std.proofs.Common.{◌↔◌, ◌∷◌, map}
use Rattle.std.specs.Prelude.{slice_get}
use Rattle.aud_code.specs.Frames.{BodyAt, IsWritten}
use Rattle.aud_code.specs.View.{bodies_offered, plain_line}
use Rattle.aud_code.proofs.Plainly.{OpensFrom}
use Rattle.aud_code.proofs.frames.accepts_fit.Given as goal

abbrev pub invariant-loop-here : goal.invariant-loop-here
invariant-loop-here l =
    let Fits = OpensFrom l.lines (λ accept. IsWritten (slice_get (l.own ∷ bodies_offered l.offers) accept.alternative) (BodyAt (map plain_line l.lines) accept.region l.within l.place)) in
    Fits l.here ↔ Fits l.place
