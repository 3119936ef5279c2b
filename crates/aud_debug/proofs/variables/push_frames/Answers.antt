use Rattle.std.proofs.Common.{◌+◌, map, drop, ap, subst, arith}
use Rattle.std.proofs.lemmas.List.{drop_all}
use Rattle.aud_typed.specs.Ties.View.{plain_region}
use Rattle.aud_store.specs.Ties.Extents.{extent_in}
use Rattle.aud_debug.specs.Ties.Extents.{extent_lines}
use Rattle.aud_debug.proofs.Pages.{Comes, comes_more, comes_all}
use Rattle.aud_debug.proofs.Cells.{names_lines}
use Rattle.aud_debug.proofs.Frames.{next_frame}
use Rattle.aud_debug.proofs.variables.push_frames.Goals as goal

pub loop-further_out-preserved : goal.loop-further_out-preserved
loop-further_out-preserved c =
    let regions = map plain_region c.args.regions.now in
    let frames = c.args.state.now.shared.frames in
    let os = c.args.opened.now in
    let i = c.loop-further_out.further_out in
    let names = c.elaborated-names.result.now in
    let cells = c.frame.result.now in
    comes_more c.loop-further_out.page c.push_frame.new.page c.args.page.now (names_lines (i + 1) names cells)
    (extent_lines regions (i + 1 + 1) (map extent_in (drop (i + 1) os)) frames)
    (extent_lines regions (i + 1) (map extent_in (drop i os)) frames)
    (extent_lines regions 1 (map extent_in os) frames)
    c.in_ok-push_frame.ensures
    (next_frame regions frames os i c.index-opened-further_out.result names cells (omega arith) c.index-opened-further_out.is c.elaborated-names.ensures c.frame.ensures)
    c.loop-further_out.invariant

pub returns : goal.returns
returns c =
    let regions = map plain_region c.args.regions.now in
    let frames = c.args.state.now.shared.frames in
    let os = c.args.opened.now in
    let i = c.loop-further_out.further_out in
    let all = extent_lines regions 1 (map extent_in os) frames in
    comes_all c.loop-further_out.page c.args.page.now all
    (subst (λ l. Comes c.loop-further_out.page c.args.page.now l all) (ap (λ l. extent_lines regions (i + 1) (map extent_in l) frames) (drop_all i os c.loop-further_out-test.false)) c.loop-further_out.invariant)
