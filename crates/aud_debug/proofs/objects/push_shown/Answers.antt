use Rattle.std.proofs.Common.{◌∷◌, [], ◌++◌}
use Rattle.aud_typed.specs.Ties.View.{plain_program}
use Rattle.aud_meaning.specs.Listings.Objects.{barrier_lines, component_lines}
use Rattle.aud_meaning.specs.Parts.{object_of}
use Rattle.aud_code.specs.Flat.{barrier_at}
use Rattle.aud_debug.specs.Ties.Watched.{declared_in, object_head}
use Rattle.aud_debug.proofs.Pages.{both_added}
use Rattle.aud_debug.proofs.objects.push_shown.Goals as goal

pub returns : goal.returns
returns c =
    let plan = (plain_program c.args.compiled.program.now).plan in
    let code = c.args.compiled.code.now in
    let s = c.args.state.now in
    let n = c.args.object in
    let d = declared_in plan n s in
    let components = component_lines n d (object_of n s) s.shared.frames in
    let barriers = barrier_lines plan (barrier_at code) n d d.entries s in
    both_added c.args.page.now c.push_first.new.page c.push_barriers.new.page (object_head plan n s ∷ []) (components ++ barriers) c.in_ok-push_first.ensures
    (both_added c.push_first.new.page c.push_components.new.page c.push_barriers.new.page components barriers c.in_ok-push_components.ensures c.in_ok-push_barriers.ensures)
