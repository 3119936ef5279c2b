use Rattle.std.proofs.Common.{arith}
use Rattle.aud_grammar.specs.Actions.{token}
use Rattle.aud_parse.proofs.Completing.{exit_in}
use Rattle.aud_parse.proofs.Rolls.{declared_task_items}
use Rattle.aud_parse.proofs.task.task_declaration.Goals as goal

pub returns-in_err-is_type : goal.returns-in_err-is_type
returns-in_err-is_type c = exit_in _ _ _ c.from_residual.ensures.1 c.in_err-is_type.ensures.reads (λ k ds v o. o)

pub returns : goal.returns
returns c = record {
  reads = λ k ds v o. (
    _,
    c.in_ok-is_type.ensures.reads _ _ _ o,
    declared_task_items c.in_ok-boxed.boxed (token c.args.begin.now) c.at.result c.in_ok-is_type.is_type c.in_ok-is_type.name c.in_ok-is_type.definition ds c.in_ok-boxed.ensures c.at.ensures,
  );
  shorter = omega (arith, c.in_ok-is_type.ensures.shorter);
}
