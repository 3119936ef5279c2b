use Rattle.std.proofs.Common.{◌↔◌, drop}
use Rattle.aud_code.proofs.Framing.{LinesOpen}
use Rattle.aud_code.proofs.seen.all_open.Given as goal

abbrev pub invariant-loop-line : goal.invariant-loop-line
invariant-loop-line l = LinesOpen (drop l.line-index l.lines) l.frames ↔ LinesOpen l.lines l.frames
