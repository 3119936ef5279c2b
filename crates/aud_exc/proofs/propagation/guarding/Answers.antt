use Rattle.std.proofs.Common.{rules, tests, ◌≡◌, ◌∙◌, sym, ap}
use Rattle.std.specs.Option.{option_map}
use Rattle.std.specs.List.{find}
use Rattle.std.proofs.lemmas.Iterator.{YieldsList-from_slice}
use Rattle.std.proofs.lemmas.Iterator.Search.{find_from_yields_List}
use Rattle.aud_code.specs.declared.line.Guard.{Guard}
use Rattle.aud_exc.proofs.Handling.{handles, first_handling, place_of}
use Rattle.aud_exc.proofs.propagation.guarding.Goals as goal

pub returns : goal.returns
returns c =
    let guards = c.args.guards.now in
    let found : option_map (λ y. y.now) c.find.result ≡ find (handles c.args.exception) guards =
    find_from_yields_List (handles c.args.exception) _ _ c.find.result c.find.ensures.ran (YieldsList-from_slice guards cc) (λ x b q k. search (rules, tests)) in
    sym (first_handling c.args.exception guards ∙ ap (option_map (λ (g : Guard). g.to)) (sym found) ∙ place_of _ (λ g n l. search (rules, tests)) c.find.result c.map.result c.map.ensures.cases)
