use Rattle.std.proofs.Common.{arith}
use Rattle.aud_grammar.specs.Grammar as g
use Rattle.aud_grammar.specs.Ties.Outcome.{o_rule}
use Rattle.aud_cursor.proofs.Passing.{exit}
use Rattle.aud_parse_expr.proofs.Joined.{joined, not_joined, ends}
use Rattle.aud_cursor.proofs.Valued.{typed}
use Rattle.aud_parse.proofs.Rolls.{task_items}
use Rattle.aud_parse.proofs.task.parts.Goals as goal

pub returns-in_err-name : goal.returns-in_err-name
returns-in_err-name c = exit _ _ _ c.from_residual.ensures.1 (c.in_err-name.ensures.reads c.args.room) (λ k ds v o. o_rule ((c.mark-is_type.ensures g.TaskType typed).reads _ _ _ _ o))

pub returns-in_err-name-2 : goal.returns-in_err-name-2
returns-in_err-name-2 c = exit _ _ _ c.from_residual-in_err-name-2.ensures.1 (not_joined _ _ c.in_err-name-2.ensures c.opt_definition.ensures) (λ k ds v o. o_rule ((c.mark-is_type.ensures g.TaskType typed).reads _ _ _ _ (c.in_ok-name.ensures.reads _ _ _ _ o)))

pub returns : goal.returns
returns c =
    let j = joined _ c.in_ok-name-2.ensures c.opt_definition.ensures in
    ends c.args.start c.in_ok-name-2.rest _ _ c.ended.ensures (omega (arith, (c.mark-is_type.ensures g.TaskType typed).shorter, c.in_ok-name.ensures.shorter, j.shorter))
    (λ k ds v o. o_rule ((c.mark-is_type.ensures g.TaskType typed).reads _ _ _ _ (c.in_ok-name.ensures.reads _ _ _ _ (j.reads _ _ _ o))))
    (λ ds. rw j.first (task_items _ c.in_ok-name.name c.in_ok-name-2.definition ds))
