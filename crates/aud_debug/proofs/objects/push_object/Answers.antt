use Rattle.std.proofs.Common.{◌≡◌, true, false, ap, sym, subst, ◌∙◌}
use Rattle.aud_typed.specs.Ties.View.{plain_program}
use Rattle.aud_meaning.specs.Listings.Objects.{is_open, lines_if_open, part_around}
use Rattle.aud_meaning.specs.Parts.{object_of}
use Rattle.aud_code.specs.Flat.{barrier_at}
use Rattle.aud_debug.specs.Ties.Pages.{AddsLines}
use Rattle.aud_debug.specs.Ties.Watched.{declared_in}
use Rattle.aud_debug.proofs.Watched.{added_as, none_added}
use Rattle.aud_debug.proofs.objects.push_object.Goals as goal

pub returns-then-is_open : goal.returns-then-is_open
returns-then-is_open c =
    let plan = (plain_program c.args.compiled.program.now).plan in
    let code = c.args.compiled.code.now in
    let s = c.args.state.now in
    let n = c.args.object in
    let o = object_of n s in
    let d = declared_in plan n s in
    let there : true ≡ is_open (part_around d o) s = sym c.if-is_open.true ∙ c.is_open.ensures ∙ ap (λ f. is_open f s) c.part_around.ensures in
    subst (λ b. AddsLines c.push_shown.result c.args.page.now c.push_shown.new.page (lines_if_open plan (barrier_at code) b n d o s)) there c.push_shown.ensures

pub returns-else-is_open : goal.returns-else-is_open
returns-else-is_open c =
    let plan = (plain_program c.args.compiled.program.now).plan in
    let code = c.args.compiled.code.now in
    let s = c.args.state.now in
    let n = c.args.object in
    let o = object_of n s in
    let d = declared_in plan n s in
    let closed : false ≡ is_open (part_around d o) s = sym c.if-is_open.false ∙ c.is_open.ensures ∙ ap (λ f. is_open f s) c.part_around.ensures in
    added_as c.args.page.now c.args.page.now _ _ (ap (λ b. lines_if_open plan (barrier_at code) b n d o s) closed) (none_added c.args.page.now)
