use Rattle.std.proofs.Common.{◌≡◌, length, map}
use Rattle.aud_code.specs.View.{plain_line}
use Rattle.aud_gen.specs.Opening.{AreCounted, Grows, StepWithin}
use Rattle.aud_gen.proofs.frames.count_body.Given as goal

abbrev pub invariant-loop-place : goal.invariant-loop-place
invariant-loop-place l =
    (length l.seen.items ≡ l.place)
    × (StepWithin (map plain_line l.lines) l.place l.opened
    × (Grows l.fn.seen.items l.seen.items × AreCounted (map plain_line l.lines) l.own (length l.fn.seen.items) l.place l.seen.items))
