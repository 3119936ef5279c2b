use Rattle.std.proofs.Common.{◌++◌, length, ap, ◌∙◌}
use Rattle.aud_typed.specs.Ties.View.{body_in}
use Rattle.aud_layout.specs.Leading.{around}
use Rattle.aud_meaning.specs.declared.state.Construct.TheVariants as construct
use Rattle.aud_gen.specs.Writes.{body_lines}
use Rattle.aud_gen.proofs.Units.{whole_unit}
use Rattle.aud_gen.proofs.writer.Writer.write_unit.Goals as goal

pub returns : goal.returns
returns c = record {
  unless_refused = λ e.
      let b = body_in c.args.body.now in
      let last = c.end_of_unit-last.result in
      let a = around last c.of_body-ways.result in
      let body = c.write_body.ensures.unless_refused e in
      let found = c.end_of_unit-last.ensures.unless_refused body.0 in
      (found.0, whole_unit b last c.args.self.now.lines c.write_body.new.self.lines a found.1 (c.of_body-ways.ensures last) (body.1 ∙ ap (λ ls. ls ++ body_lines construct.Unit b last (length ls) 0 last a) c.end_of_unit-last.ensures.same));
}
