use Rattle.std.proofs.Common.{◌≡◌, suc, ◌+◌, ◌++◌, length, map, ap, sym, ◌∙◌, arith}
use Rattle.std.specs.Prelude.{if◌then◌else◌}
use Rattle.aud_typed.specs.Ties.View.{plain_boolean, statements_in}
use Rattle.aud_code.specs.Flat.{instructs}
use Rattle.aud_layout.specs.Instructions.{condition_code}
use Rattle.aud_layout.specs.Layout.{statement_size_by, ways_count}
use Rattle.aud_layout.specs.Leading.{around}
use Rattle.aud_layout.specs.Written.{flat_step}
use Rattle.aud_gen.proofs.Lines.{chosen, passed_over, whole_arm_step}
use Rattle.aud_gen.proofs.writer.Writer.write_test.Goals as goal
use Rattle.aud_gen.proofs.writer.Writer.write_test.Goals.{then-more, else-more}

pub returns : goal.returns
returns c = record {
  unless_refused = λ e.
      let old = c.args.self.now.lines in
      let a = around c.args.out c.args.ways.now in
      let code = condition_code (plain_boolean c.args.arm.now.condition) in
      let size = statement_size_by flat_step (statements_in c.args.arm.now.statements) (ways_count a) in
      let ended = c.end_statement.ensures.unless_refused e in
      let test = c.write_boolean.ensures.writes.unless_refused ended.0 in
      let behind = c.behind_statements-behind.ensures.unless_refused test.0 in
      let found = c.behind-inside.ensures.unless_refused behind.0 in
      let inside = c.behind-inside.result in
      let inside_is : inside ≡ suc (length old + length code) = omega (arith, found.1.0, found.1.1, c.place.ensures, c.boolean_length.ensures) in
      let leads : c.if-more.otherwise ≡ (if c.args.more then inside + size else c.args.next) =
      elim c.if-more.branch [
        | then-more w ↦ w.otherwise-is ∙ behind.1 ∙ sym (chosen c.args.more (inside + size) c.args.next w.if-more.true)
        | else-more w ↦ w.otherwise-is ∙ sym (passed_over c.args.more (inside + size) c.args.next w.if-more.false)
      ] in
      (found.0, whole_arm_step c.args.arm.now c.args.more old c.write_boolean.new.self.lines c.end_statement.new.self.lines c.args.next inside c.if-more.otherwise a inside_is leads (test.1 ∙ ap (λ ls. ls ++ map instructs code) (c.behind_statements-behind.ensures.same ∙ c.behind-inside.ensures.same)) ended.1);
}
