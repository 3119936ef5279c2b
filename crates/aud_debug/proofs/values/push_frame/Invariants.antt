use Rattle.std.proofs.Common.{drop}
use Rattle.aud_debug.proofs.Pages.{Comes}
use Rattle.aud_debug.proofs.Cells.{names_lines}
use Rattle.aud_debug.proofs.values.push_frame.Given as goal

abbrev pub invariant-loop-named : goal.invariant-loop-named
invariant-loop-named l =
    Comes l.page l.initial.page (names_lines l.depth (drop l.named-index l.names) l.left) (names_lines l.depth l.names l.cells)
