use Rattle.std.proofs.Common.{[], ◌∷◌, Some, refl, ap, sym, ◌∙◌}
use Rattle.std.specs.Prelude.{pos}
use Rattle.aud_meaning.specs.declared.state.Status.TheVariants.{Running}
use Rattle.aud_meaning.specs.Configuration.{for_body, Own}
use Rattle.aud_meaning.specs.Effects.{opens}
use Rattle.aud_meaning.specs.Parts.{alone, own_of}
use Rattle.aud_sequential.specs.Shown.{plans_of, unit_in}
use Rattle.aud_masters.proofs.Beginning.{alone_seeing}
use Rattle.aud_masters.proofs.activation.begin.Goals as goal

pub returns : goal.returns
returns c = λ go plan has barrier.
    let n = c.args.task in
    let old = c.args.state.now in
    let begins : Own → Own = λ o. record o { status = Running; activator = Some c.args.activator } in
    c.in_ok-open_body.ensures
    ∙ ap (λ u. alone (λ t. opens for_body (unit_in (plans_of c.args.units.now) u).region (unit_in (plans_of c.args.units.now) u).at t.own.display (pos n ∷ []) 1 t) n c.begin.new.self) c.unit-unit.ensures
    ∙ ap (λ us. alone (λ t. opens for_body (unit_in us (own_of n old).unit).region (unit_in us (own_of n old).unit).at t.own.display (pos n ∷ []) 1 t) n c.begin.new.self) (sym has)
    ∙ ap (λ s. alone (λ t. opens for_body (unit_in plan.units (own_of n old).unit).region (unit_in plan.units (own_of n old).unit).at t.own.display (pos n ∷ []) 1 t) n s) c.begin.ensures
    ∙ alone_seeing begins (λ o. refl) (λ d t. opens for_body (unit_in plan.units (own_of n old).unit).region (unit_in plan.units (own_of n old).unit).at d (pos n ∷ []) 1 t) n old
