use Rattle.std.proofs.Common.{ap, ◌∙◌}
use Rattle.aud_typed.specs.Tree as tree
use Rattle.aud_typed.specs.declared.program.Statement.TheVariants.{If}
use Rattle.aud_typed.specs.Ties.View.{plain_statement, if_in}
use Rattle.aud_typed.proofs.Opened.{if_open}
use Rattle.aud_check_bodies.specs.Statements.{arm_then, arms_then}
use Rattle.aud_check_bodies.specs.Ties.Arms.{plain_arm, plain_arms, plain_items}
use Rattle.aud_typing.proofs.Notes.{boxes}
use Rattle.aud_check_bodies.proofs.Parts.{if_parts}
use Rattle.aud_check_bodies.proofs.made.if_of.Goals as goal

pub returns : goal.returns
returns c =
    let others = arms_then (plain_arms c.args.arms.1) (tree.part_of (plain_items c.args.otherwise)) in
    boxes plain_statement c.boxed-2.result (If c.in_ok-statement.statement) _ c.boxed-2.ensures (if_open c.in_ok-statement.statement.value ∙ ap if_in c.in_ok-statement.ensures ∙ if_parts c.into_inner-first.result c.args.arms.1 c.args.otherwise ∙ ap (λ z. arm_then (plain_arm z) others) c.into_inner-first.ensures)
