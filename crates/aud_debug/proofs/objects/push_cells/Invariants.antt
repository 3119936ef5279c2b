use Rattle.std.proofs.Common.{drop}
use Rattle.aud_debug.proofs.Pages.{Comes}
use Rattle.aud_debug.proofs.Watched.{cells_lines}
use Rattle.aud_debug.proofs.objects.push_cells.Given as goal

abbrev pub invariant-loop-component : goal.invariant-loop-component
invariant-loop-component l =
    Comes l.page l.initial.page (cells_lines l.number l.name (drop l.component-index l.components) l.left) (cells_lines l.number l.name l.components l.cells)
