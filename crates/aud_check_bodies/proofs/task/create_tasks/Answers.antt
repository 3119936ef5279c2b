use Rattle.std.proofs.Common.{List, [], ◌∷◌, map, ◌≡◌, refl, ap, ◌||◌, rules, tests, ◌∙◌}
use Rattle.std.specs.List.{list_any}
use Rattle.std.proofs.lemmas.Iterator.{YieldsList-from_slice}
use Rattle.std.proofs.lemmas.Iterator.Search.{any_from_yields_List}
use Rattle.aud_typed.specs.declared.program.Statement.{Statement}
use Rattle.aud_typed.specs.Ties.View.{plain_statement}
use Rattle.aud_check_bodies.specs.Tasks.{creates}
use Rattle.aud_check_bodies.proofs.task.create_tasks.Goals as goal

any_plain : (xs : List Statement) → list_any (λ x. creates (plain_statement x)) xs ≡ list_any creates (map plain_statement xs)
any_plain [] = refl
any_plain (x ∷ xs) = ap (λ b. creates (plain_statement x) || b) (any_plain xs)

pub returns : goal.returns
returns c =
    any_from_yields_List (λ x. creates (plain_statement x)) _ _ c.any.result c.any.ensures.ran (YieldsList-from_slice c.args.elaborations.now cc) (λ x b q k. search (rules, tests))
    ∙ any_plain c.args.elaborations.now
