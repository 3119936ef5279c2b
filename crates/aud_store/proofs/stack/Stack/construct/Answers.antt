use Rattle.std.proofs.Common.{◌≡◌, rules, tests, not, [], reverse}
use Rattle.std.specs.Option.{option_map}
use Rattle.std.specs.List.{find}
use Rattle.std.proofs.lemmas.Iterator.Adapters.{YieldsList-from_rev_slice}
use Rattle.std.proofs.lemmas.Iterator.Search.{find_from_yields_List}
use Rattle.aud_meaning.specs.Effects.{is_loop}
use Rattle.aud_store.specs.declared.stack.Open.{Open}
use Rattle.aud_store.specs.Ties.Display.{seen}
use Rattle.aud_store.specs.Ties.Stored.{plain_purpose}
use Rattle.aud_store.proofs.Opened.{first_construct}
use Rattle.aud_store.proofs.stack.Stack.construct.Goals as goal

pub returns : goal.returns
returns c = rw (← c.self.view_is) (
    let found : option_map (λ y. y.now) c.find.result ≡ find (λ (o : Open). not (is_loop (plain_purpose o.purpose []))) (reverse c.self.inside.opened.items) =
    find_from_yields_List (λ (o : Open). not (is_loop (plain_purpose o.purpose []))) _ _ c.find.result c.find.ensures.ran (YieldsList-from_rev_slice c.self.inside.opened.items cc) (λ x b q k. search (rules, tests)) in
    rw (c.copied.ensures, found) (first_construct c.self.inside.display (reverse c.self.inside.opened.items) c.self.inside.backs.items (seen c.self.inside.display)))
