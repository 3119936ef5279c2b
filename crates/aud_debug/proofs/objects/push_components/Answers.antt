use Rattle.std.proofs.Common.{◌∙◌, ap, drop, length, map}
use Rattle.aud_typed.specs.Ties.View.{plain_program}
use Rattle.aud_meaning.specs.Evaluation.{frame_at}
use Rattle.aud_meaning.specs.Listings.Objects.{within}
use Rattle.aud_meaning.specs.Listings.Values.{frame_lines}
use Rattle.aud_meaning.specs.Parts.{object_of, object_plan}
use Rattle.std.proofs.Common.{suc}
use Rattle.aud_debug.specs.Ties.Watched.{declared_in}
use Rattle.aud_debug.proofs.Watched.{added_as, components_shown}
use Rattle.aud_debug.proofs.objects.push_components.Goals as goal

pub returns : goal.returns
returns c =
    let plan = (plain_program c.args.compiled.program.now).plan in
    let s = c.args.state.now in
    let n = c.args.object in
    let d = declared_in plan n s in
    let cells = c.object_cells.result.now in
    let named = c.object_name-name.ensures ∙ ap (λ k. (object_plan plan k).name) c.declaration-declaration.ensures in
    let are = c.components_of-components.ensures ∙ ap (λ k. (object_plan plan k).components) c.declaration-declaration.ensures in
    added_as c.args.page.now c.push_cells.new.page _ _
    (components_shown _ n c.object_name-name.result.now c.components_of-components.result.now d.components cells c.in_ok-number.ensures are
    ∙ ap (λ name. frame_lines (suc n) (length d.components) (map (within name) d.components) cells) named
    ∙ ap (frame_lines (suc n) (length d.components) (map (within d.name) d.components)) c.object_cells.ensures)
    c.in_ok-push_cells.ensures
