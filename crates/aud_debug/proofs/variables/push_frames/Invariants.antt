use Rattle.std.proofs.Common.{◌+◌, map, drop}
use Rattle.aud_typed.specs.Ties.View.{plain_region}
use Rattle.aud_store.specs.Ties.Extents.{extent_in}
use Rattle.aud_debug.specs.Ties.Extents.{extent_lines}
use Rattle.aud_debug.proofs.Pages.{Comes}
use Rattle.aud_debug.proofs.variables.push_frames.Given as goal

abbrev pub invariant-loop-further_out : goal.invariant-loop-further_out
invariant-loop-further_out l =
    let regions = map plain_region l.regions in
    Comes l.page l.initial.page (extent_lines regions (l.further_out + 1) (map extent_in (drop l.further_out l.opened)) l.state.shared.frames) (extent_lines regions 1 (map extent_in l.opened) l.state.shared.frames)
