use Rattle.std.proofs.Common.{rules, tests}
use Rattle.std.proofs.lemmas.Iterator.Adapters.{YieldsList-from_rev_slice}
use Rattle.std.proofs.lemmas.Iterator.Search.{any_from_yields_List}
use Rattle.aud_store.specs.declared.stack.Open.{Open}
use Rattle.aud_store.specs.Ties.Stored.{is_served_for}
use Rattle.aud_store.proofs.stack.is_any_served.Goals as goal

pub returns : goal.returns
returns c = any_from_yields_List (λ (o : Open). is_served_for o.purpose) _ _ c.any.result c.any.ensures.ran (YieldsList-from_rev_slice c.args.opened.now cc) (λ x b q k. search (rules, tests))
