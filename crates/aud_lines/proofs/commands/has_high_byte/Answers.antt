use Rattle.std.proofs.Common.{nat_lt, rules, tests, ◌∙◌}
use Rattle.std.proofs.lemmas.Iterator.{YieldsList-from_slice}
use Rattle.std.proofs.lemmas.Iterator.Search.{any_from_yields_List}
use Rattle.aud_lines.proofs.CommandLaws.{any_high}
use Rattle.aud_lines.proofs.commands.has_high_byte.Goals as goal

pub returns : goal.returns
returns c =
    any_from_yields_List (λ x. nat_lt 127 x) _ _ _ c.any.ensures.ran (YieldsList-from_slice c.args.line.now cc) (λ x b q k. search (rules, tests))
    ∙ any_high c.args.line.now
