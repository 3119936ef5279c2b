use Rattle.std.proofs.Common.{◌↔◌, ◌-◌, map}
use Rattle.aud_code.specs.Frames.{At, OutOfLoops}
use Rattle.aud_code.specs.View.{plain_line}
use Rattle.aud_code.proofs.frames.leaves_loops.Given as goal

abbrev pub invariant-loop : goal.invariant-loop
invariant-loop l =
    let lines = map plain_line l.lines in
    OutOfLoops lines l.loops l.fn.within (At lines l.to) ↔ OutOfLoops lines (l.loops - l.counter) l.around (At lines l.to)
