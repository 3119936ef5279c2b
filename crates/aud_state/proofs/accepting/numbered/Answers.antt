use Rattle.std.proofs.Common.{rules, tests, ◌&&◌, ◌∙◌}
use Rattle.std.specs.Prelude.{nat_eq}
use Rattle.std.proofs.lemmas.Iterator.{YieldsList-from_slice}
use Rattle.std.proofs.lemmas.Iterator.Search.{find_from_yields_List}
use Rattle.aud_meaning.specs.declared.state.OpenAccept.{OpenAccept}
use Rattle.aud_state.proofs.accepting.numbered.Goals as goal

pub returns : goal.returns
returns c =
    c.copied.ensures
    ∙ find_from_yields_List (λ (a : OpenAccept). nat_eq a.entry c.args.entry && nat_eq a.alternative c.args.number) _ _ c.find.result c.find.ensures.ran (YieldsList-from_slice c.args.accepts.now cc) (λ x b q k. search (rules, tests))
