use Rattle.std.proofs.Common.{◌≡◌, suc, ◌+◌, ◌++◌, length, map, ap, ◌∙◌, arith}
use Rattle.aud_typed.specs.Ties.View.{plain_boolean}
use Rattle.aud_code.specs.Flat.{instructs}
use Rattle.aud_layout.specs.Instructions.{condition_code}
use Rattle.aud_gen.proofs.Lines.{whole_test}
use Rattle.aud_gen.proofs.writer.Writer.write_while.Goals as goal

pub returns : goal.returns
returns c = record {
  unless_refused = λ e.
      let old = c.args.self.now.lines in
      let code = condition_code (plain_boolean c.args.condition.now) in
      let ended = c.end_statement.ensures.unless_refused e in
      let test = c.write_boolean.ensures.writes.unless_refused ended.0 in
      let found = c.behind-inside.ensures.unless_refused test.0 in
      let inside_is : c.behind-inside.result ≡ suc (length old + length code) = omega (arith, found.1.0, found.1.1, c.place.ensures, c.boolean_length.ensures) in
      (found.0, whole_test c.args.at (plain_boolean c.args.condition.now) old c.write_boolean.new.self.lines c.end_statement.new.self.lines c.args.next c.args.out c.behind-inside.result c.args.within inside_is (test.1 ∙ ap (λ ls. ls ++ map instructs code) c.behind-inside.ensures.same) ended.1);
}
