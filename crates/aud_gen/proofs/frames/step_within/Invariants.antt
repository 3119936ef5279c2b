use Rattle.std.proofs.Common.{◌≡◌, map}
use Rattle.aud_code.specs.Frames.{found}
use Rattle.aud_code.specs.View.{plain_line}
use Rattle.aud_gen.proofs.frames.step_within.Given as goal

abbrev pub invariant-loop-place : goal.invariant-loop-place
invariant-loop-place l = found (map plain_line l.lines) l.place ≡ found (map plain_line l.lines) l.fn.first
