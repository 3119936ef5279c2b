use Rattle.std.proofs.Common.{◌≡◌, ◌<◌, ◌≤◌, ◌∙◌, suc, length, reverse, map, Some, ap, sym, arith}
use Rattle.aud_typed.specs.declared.program.Program.{Program}
use Rattle.aud_typed.specs.Ties.View.{plain_region}
use Rattle.aud_meaning.specs.Listings.{vars, view}
use Rattle.aud_meaning.specs.Parts.{own_of}
use Rattle.aud_code.specs.Flat.{flat_controls}
use Rattle.aud_store.specs.Ties.Extents.{extent_in}
use Rattle.aud_machine.specs.Shown.{program_in}
use Rattle.aud_debug.specs.Ties.Extents.{extent_lines}
use Rattle.aud_debug.specs.Listed.{variables_of}
use Rattle.aud_debug.proofs.Counted.{no_variables, page_shown, variables_there}
use Rattle.aud_debug.proofs.Frames.{extents_opened}
use Rattle.aud_debug.proofs.variables.variables.Goals as goal

pub returns-then-len-task : goal.returns-then-len-task
returns-then-len-task c = λ shown h.
    let program = program_in c.args.machine.now in
    let k = flat_controls program.plan c.args.machine.now.code in
    let n = c.in-Some.task in
    let state = c.parts-state.result.now in
    let counted : c.args.task ≡ suc n = omega (arith, c.in-Some.ensures) in
    let past : length state.tasks ≤ n = omega (arith, c.if-len-task.true, c.len.ensures) in
    sym (
    ap (λ number. variables_of number (view program shown)) counted
    ∙ sym (ap (variables_of (suc n)) (c.parts-state.ensures.view shown h))
    ∙ no_variables program.plan k n state past)

pub returns : goal.returns
returns c = λ shown h.
    let program = program_in c.args.machine.now in
    let k = flat_controls program.plan c.args.machine.now.code in
    let n = c.in-Some.task in
    let state = c.parts-state.result.now in
    let frames = state.shared.frames in
    let counted : c.args.task ≡ suc n = omega (arith, c.in-Some.ensures) in
    let within : n < length state.tasks = omega (arith, c.if-len-task.false, c.len.ensures) in
    let told : extent_lines (map plain_region c.deref.result.now) 1 (map extent_in c.opened.result.now) frames ≡ vars program.plan n state =
    ap (λ regions. extent_lines (map plain_region regions) 1 (map extent_in c.opened.result.now) frames) (c.deref.ensures.value ∙ ap (λ (p : Program). p.regions.items) c.program.ensures)
    ∙ ap (λ extents. extent_lines program.plan.regions 1 extents frames) c.opened.ensures
    ∙ extents_opened program.plan 1 (reverse (own_of n state).opened) frames in
    ap Some (c.into_lines.ensures ∙ page_shown c.push_frames.new.page c.new-page.result _ _ c.new-page.ensures.bytes c.new-page.ensures.count c.in_ok-push_frames.ensures told)
    ∙ sym (
    ap (λ number. variables_of number (view program shown)) counted
    ∙ sym (ap (variables_of (suc n)) (c.parts-state.ensures.view shown h))
    ∙ variables_there program.plan k n state within)
