use Rattle.std.proofs.Common.{◌∙◌, ap, drop, slice_index_or}
use Rattle.std.specs.Prelude.{[], slice_index}
use Rattle.std.proofs.lemmas.List.{drop_min}
use Rattle.aud_typed.specs.Ties.View.{plain_program}
use Rattle.aud_meaning.specs.Parts.{object_of, object_plan}
use Rattle.aud_debug.specs.Ties.Watched.{declared_in}
use Rattle.aud_debug.proofs.objects.object_cells.Goals as goal

pub returns : goal.returns
returns c =
    let plan = (plain_program c.args.compiled.program.now).plan in
    let s = c.args.state.now in
    let n = c.args.object in
    let cells = c.frame-cells.result.now in
    let level = c.object_level-level.ensures ∙ ap (λ k. (object_plan plan k).level) c.declaration.ensures in
    let at = c.number_at.ensures ∙ ap (λ ds. slice_index ds c.object_level-level.result) c.object_display.ensures ∙ ap (slice_index (object_of n s).display) level in
    c.split_at.ensures.back
    ∙ ap (λ m. drop m cells) c.min.ensures
    ∙ drop_min 1 cells
    ∙ ap (drop 1) (c.frame-cells.ensures ∙ ap (λ k. slice_index_or s.shared.frames k []) at)
