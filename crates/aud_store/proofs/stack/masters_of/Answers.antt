use Rattle.std.proofs.Common.{rules, tests, []}
use Rattle.std.proofs.lemmas.Iterator.{YieldsList-from_map, items_from_collect}
use Rattle.std.proofs.lemmas.Iterator.Adapters.{YieldsList-from_rev_slice}
use Rattle.std.proofs.lemmas.Iterator.Consumers.{YieldsList-at, YieldsList-from_filter}
use Rattle.aud_meaning.specs.Parts.{is_master}
use Rattle.aud_store.specs.declared.stack.Open.{Open}
use Rattle.aud_store.specs.Ties.Stored.{plain_open}
use Rattle.aud_store.proofs.stack.masters_of.Goals as goal

pub returns : goal.returns
returns c =
    items_from_collect _ c.collect.ensures.ran
    (YieldsList-from_map _ (λ (o : Open). o.frame)
    (YieldsList-at c.map.ensures.source
    (YieldsList-from_filter _ (λ (o : Open). is_master (plain_open o [] [])) (YieldsList-from_rev_slice c.args.opened.now cc) c.filter.ensures.closure (λ x r q k. search (rules, tests))))
    c.map.ensures.closure (λ x r q k. search (rules, tests)))
