use Rattle.std.proofs.Common.{arith}
use Rattle.aud_grammar.specs.Actions.{token}
use Rattle.aud_parse.proofs.Completing.{exit_in}
use Rattle.aud_parse.proofs.Objects.{declared_object_items}
use Rattle.aud_parse.proofs.protected.protected_declaration.Goals as goal

pub returns-in_err-name : goal.returns-in_err-name
returns-in_err-name c = exit_in _ _ _ c.from_residual.ensures.1 c.in_err-name.ensures.reads (λ k ds v o. o)

pub returns : goal.returns
returns c = record {
  reads = λ k ds v o. (
    _,
    c.in_ok-name.ensures.reads _ _ _ o,
    declared_object_items c.in_ok-boxed.boxed (token c.args.begin.now) c.at.result c.in_ok-name.name c.in_ok-name.operations c.in_ok-name.private_items c.in_ok-name.end_name ds c.in_ok-boxed.ensures c.at.ensures,
  );
  shorter = omega (arith, c.in_ok-name.ensures.shorter);
}
