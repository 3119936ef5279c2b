use Rattle.std.proofs.Common.{rules, tests, []}
use Rattle.std.proofs.lemmas.Iterator.Adapters.{YieldsList-from_rev_slice}
use Rattle.std.proofs.lemmas.Iterator.Consumers.{YieldsList-from_filter, count_from_yields_List}
use Rattle.aud_meaning.specs.Effects.{is_counted}
use Rattle.aud_store.specs.declared.stack.Open.{Open}
use Rattle.aud_store.specs.Ties.Stored.{plain_purpose}
use Rattle.aud_store.proofs.stack.count_live.Goals as goal

pub returns : goal.returns
returns c =
    count_from_yields_List c.filter.result c.count.result c.count.ensures.ran
    (YieldsList-from_filter _ (λ (o : Open). is_counted (plain_purpose o.purpose [])) (YieldsList-from_rev_slice c.args.opened.now cc) c.filter.ensures.closure (λ x r q k. search (rules, tests)))
