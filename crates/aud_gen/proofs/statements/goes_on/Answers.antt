use Rattle.std.proofs.Common.{sym, ◌∙◌, arith}
use Rattle.std.proofs.lemmas.Bool.{lt-ltb}
use Rattle.aud_typed.specs.Tree.{part_of}
use Rattle.aud_typed.specs.Ties.View.{plain_statements}
use Rattle.aud_gen.proofs.Lines.{some_arm}
use Rattle.aud_gen.proofs.statements.goes_on.Goals as goal

pub returns-then-arms-gt0 : goal.returns-then-arms-gt0
returns-then-arms-gt0 c rest many = lt-ltb 0 c.args.arms c.if-arms-gt0.true ∙ sym (some_arm rest (part_of (plain_statements c.args.otherwise.now)) (omega (arith, many, c.if-arms-gt0.true)))
