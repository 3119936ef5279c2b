use Rattle.std.proofs.Common.{◌≡◌, rules, tests, reverse, ap, sym, ◌∙◌}
use Rattle.std.specs.Option.{is_some, option_map, option_and_then}
use Rattle.std.specs.List.{find}
use Rattle.std.proofs.lemmas.Iterator.Adapters.{YieldsList-from_rev_slice}
use Rattle.std.proofs.lemmas.Iterator.Search.{find_from_yields_List}
use Rattle.aud_store.specs.declared.stack.Open.{Open}
use Rattle.aud_store.proofs.Opened.{first_handled}
use Rattle.aud_store.proofs.stack.Stack.handled.Goals as goal

pub returns-in_err-open : goal.returns-in_err-open
returns-in_err-open c = rw (c.from_residual.ensures, ← c.self.view_is) (
    let found : option_map (λ y. y.now) c.find.result ≡ find (λ (o : Open). is_some o.handling) (reverse c.self.inside.opened.items) =
    find_from_yields_List (λ (o : Open). is_some o.handling) _ _ c.find.result c.find.ensures.ran (YieldsList-from_rev_slice c.self.inside.opened.items cc) (λ x b q k. search (rules, tests)) in
    sym (first_handled c.self.inside.display (reverse c.self.inside.opened.items) c.self.inside.backs.items ∙ ap (option_and_then (λ o. o.handling)) (sym found ∙ ap (option_map (λ y. y.now)) c.in_err-open.was)))

pub returns : goal.returns
returns c = rw (← c.self.view_is) (
    let found : option_map (λ y. y.now) c.find.result ≡ find (λ (o : Open). is_some o.handling) (reverse c.self.inside.opened.items) =
    find_from_yields_List (λ (o : Open). is_some o.handling) _ _ c.find.result c.find.ensures.ran (YieldsList-from_rev_slice c.self.inside.opened.items cc) (λ x b q k. search (rules, tests)) in
    sym (first_handled c.self.inside.display (reverse c.self.inside.opened.items) c.self.inside.backs.items ∙ ap (option_and_then (λ o. o.handling)) (sym found ∙ ap (option_map (λ y. y.now)) c.in_ok-open.was)))
