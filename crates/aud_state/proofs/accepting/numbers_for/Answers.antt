use Rattle.std.proofs.Common.{rules, tests}
use Rattle.std.specs.Prelude.{nat_eq}
use Rattle.std.proofs.lemmas.Iterator.{YieldsList-from_map, YieldsList-from_slice, items_from_collect}
use Rattle.std.proofs.lemmas.Iterator.Consumers.{YieldsList-at, YieldsList-from_filter}
use Rattle.aud_meaning.specs.declared.state.OpenAccept.{OpenAccept}
use Rattle.aud_state.proofs.accepting.numbers_for.Goals as goal

pub returns : goal.returns
returns c =
    items_from_collect _ c.collect.ensures.ran
    (YieldsList-from_map _ (λ (a : OpenAccept). a.alternative)
    (YieldsList-at c.map.ensures.source
    (YieldsList-from_filter _ (λ (a : OpenAccept). nat_eq a.entry c.args.entry) (YieldsList-from_slice c.args.accepts.now cc) c.filter.ensures.closure (λ x r q k. search (rules, tests))))
    c.map.ensures.closure (λ x r q k. search (rules, tests)))
