use Rattle.std.proofs.Common.{◌≡◌, List, refl, sym, ap, subst, ◌∙◌}
use Rattle.aud_typed.specs.declared.program.Program.{Program}
use Rattle.aud_typed.specs.Ties.View.{plain_program}
use Rattle.aud_typed.specs.Why.Scoped.{IsScoped}
use Rattle.aud_scoped.specs.Declares.{DeclaresInParts}
use Rattle.aud_meaning.specs.Configuration.{Item}
use Rattle.aud_meaning.specs.Run.{opening, opening_with}
use Rattle.aud_meaning.specs.Why.Agree.{ShowsAll}
use Rattle.aud_code.specs.Places.{Spot}
use Rattle.aud_code.specs.Flat.{flat_controls}
use Rattle.aud_layout.specs.Assembly.{flat_program}
use Rattle.aud_layout.specs.Law.{ShowsFlat}
use Rattle.aud_machine.specs.Frames.{HasTable}
use Rattle.aud_machine.proofs.Bridges.{opening_shown}
use Rattle.aud_machine.proofs.Framed.{frames_tabled, opening_comes}
use Rattle.aud_machine.proofs.Missed.{opening_misses}
use Rattle.aud_machine.proofs.machine.Machine.new.Goals as goal

pub invariant_of-result : goal.invariant_of-result
invariant_of-result c =
    let whole = sym c.into_program.ensures in
    let scoped = subst (λ (p : Program). IsScoped (plain_program p)) (c.program.ensures.value ∙ whole) c.program.ensures.scoped in
    let declares = subst (λ (p : Program). DeclaresInParts (plain_program p)) (c.program.ensures.value ∙ whole) c.program.ensures.declares in
    let flat = c.in_ok-code.ensures ∙ ap (λ p. flat_program (plain_program p)) whole in
    let begun = subst (λ (p : Program). c.in_ok-state.state ≡ opening_with (plain_program p).plan p.name ((flat_controls (plain_program p).plan c.in_ok-code.code).begins 0)) (c.program.ensures.value ∙ whole) c.in_ok-state.ensures.opening in
    let table = subst (HasTable (plain_program c.into_program.result).plan) (sym flat) (frames_tabled (plain_program c.into_program.result) scoped declares) in
    (flat, scoped.objects, λ alive. c.in_ok-state.ensures.spots, λ alive. c.in_ok-state.ensures.within, λ alive. opening_misses c.into_program.result c.in_ok-code.code flat c.args.limits c.in_ok-state.state begun, table, λ alive. opening_comes c.into_program.result c.in_ok-code.code c.args.limits c.in_ok-state.state begun)

pub returns-clause-shows : goal.returns-clause-shows
returns-clause-shows c =
    let whole = c.into_program.ensures in
    let program = c.into_program.result in
    let flat = c.in_ok-code.ensures ∙ ap (λ p. flat_program (plain_program p)) (sym whole) in
    let begun = subst (λ (p : Program). c.in_ok-state.state ≡ opening_with (plain_program p).plan p.name ((flat_controls (plain_program p).plan c.in_ok-code.code).begins 0)) (c.program.ensures.value ∙ sym whole) c.in_ok-state.ensures.opening in
    let opened = opening_shown program c.in_ok-code.code flat c.in_ok-state.state begun in
    record {
      alive = refl;
      through = c.in_ok-state.state;
      all = subst (λ p. ShowsAll Spot (List Item) (ShowsFlat (plain_program program)) c.in_ok-state.state (opening (plain_program p))) whole opened;
      left = refl;
    }
