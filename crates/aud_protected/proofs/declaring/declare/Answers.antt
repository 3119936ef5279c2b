use Rattle.std.proofs.Common.{◌∷◌, [], Bool, if◌then◌else◌, length, ap, sym, ◌∙◌}
use Rattle.std.specs.Prelude.{pos}
use Rattle.aud_text.specs.declared.raise.Raise.TheVariants.{Storage}
use Rattle.aud_meaning.specs.Configuration.{All}
use Rattle.aud_meaning.specs.Effects.{declares}
use Rattle.aud_meaning.specs.Parts.{alone, on_control, on_shared, own_of}
use Rattle.aud_meaning.specs.Step as step
use Rattle.aud_meaning.specs.Tasks as effect
use Rattle.aud_code.specs.Control.{going}
use Rattle.aud_code.specs.Places.{Spot}
use Rattle.aud_state.specs.View.{with_object}
use Rattle.aud_protected.proofs.GoingOn.{goes_behind}
use Rattle.aud_protected.proofs.declaring.declare.Goals as goal

pub returns : goal.returns
returns c = λ plan barrier.
    let go = going c.args.code.now in
    let n = c.args.n in
    let old = c.args.state.now in
    let many = length old.shared.objects in
    let made : All Spot = on_shared (with_object c.args.declaration c.args.cells.now (own_of n old).display) old in
    c.take.ensures
    ∙ ap (λ (s : All Spot). on_control n (go.takes 0) s) c.in_ok-declare_tasks.ensures
    ∙ ap (λ (s : All Spot). on_control n (go.takes 0) (alone (declares (pos c.objects-number.result ∷ [])) n s)) c.in_ok-create_object.ensures.created
    ∙ ap (λ k. on_control n (go.takes 0) (alone (declares (pos k ∷ [])) n made)) c.objects-number.ensures
    ∙ goes_behind (go.takes 0) (declares (pos many ∷ [])) n made
    ∙ ap (λ (b : Bool). if b then alone (λ t. step.moves_on go plan barrier 0 (declares (pos many ∷ []) t)) n made else effect.raises_in_part go plan barrier Storage c.args.at n old) (sym c.if-not-is_allowed.false ∙ c.is_allowed.ensures)
