use Rattle.std.specs.Prelude.{◌∷◌, List}
use Rattle.std.proofs.Common.{ap, ◌∙◌}
use Rattle.aud_typed.specs.declared.program.Alternative.{Alternative}
use Rattle.aud_typed.specs.declared.program.Statement.TheVariants.{Select}
use Rattle.aud_typed.specs.Tree as tree
use Rattle.aud_typed.specs.Ties.View.{plain_statement, select_in, alternatives_in}
use Rattle.aud_typed.proofs.Opened.{select_open}
use Rattle.aud_check_bodies.specs.Ties.Arms.{plain_items}
use Rattle.aud_typing.proofs.Notes.{boxes}
use Rattle.aud_check_bodies.proofs.Parts.{alternatives_parts}
use Rattle.aud_check_bodies.proofs.select.select_of.Goals as goal

pub returns : goal.returns
returns c =
    let behind = tree.part_of (plain_items c.args.otherwise) in
    let made : List Alternative → tree.Statement = λ xs. tree.select c.args.at (alternatives_in xs) behind in
    let others = c.args.offered.1.items in
    boxes plain_statement c.boxed-2.result (Select c.in_ok-statement.statement) _ c.boxed-2.ensures (select_open c.in_ok-statement.statement ∙ ap select_in c.in_ok-statement.ensures ∙ ap made c.in_ok-add_first.ensures
    ∙ ap (λ z. tree.select c.args.at z behind) (alternatives_parts (c.args.offered.0.value ∷ others)))
