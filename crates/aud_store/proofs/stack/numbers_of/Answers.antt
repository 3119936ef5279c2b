use Rattle.std.proofs.Common.{rules, tests}
use Rattle.std.proofs.lemmas.Iterator.{YieldsList-from_map, items_from_collect}
use Rattle.std.proofs.lemmas.Iterator.Adapters.{YieldsList-from_rev_slice}
use Rattle.aud_store.specs.declared.stack.Open.{Open}
use Rattle.aud_store.proofs.stack.numbers_of.Goals as goal

pub returns : goal.returns
returns c =
    items_from_collect _ c.collect.ensures.ran
    (YieldsList-from_map _ (λ (o : Open). o.frame) (YieldsList-from_rev_slice c.args.opened.now cc) c.map.ensures.closure (λ x r q k. search (rules, tests)))
