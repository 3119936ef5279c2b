use Rattle.std.proofs.Common.{◌≡◌, ℕ, suc, Some, ◌++◌, map, ap, ◌∙◌, arith}
use Rattle.aud_typed.specs.declared.program.ForStatement.{out-ForStatement}
use Rattle.aud_typed.specs.Ties.View.{plain_integer}
use Rattle.aud_code.specs.declared.line.ForLoop.{ForLoop}
use Rattle.aud_code.specs.declared.line.Last.TheVariants.{Does, Continues}
use Rattle.aud_code.specs.declared.line.Ending.TheVariants.{Loop}
use Rattle.aud_code.specs.Flat.{instructs}
use Rattle.aud_layout.specs.Instructions.{integer_code}
use Rattle.aud_gen.specs.Writes.{ended}
use Rattle.aud_gen.proofs.Constructs.{whole_control}
use Rattle.aud_gen.proofs.writer.Writer.write_control.Goals as goal

pub returns : goal.returns
returns c = record {
  unless_refused = λ e.
      let o = out-ForStatement c.args.s.now in
      let control : ForLoop = record { at = o.at; next_at = o.next_at; region = o.region; backward = o.backward } in
      let x = integer_code (plain_integer o.first) in
      let y = integer_code (plain_integer o.last) in
      let one = λ (inside : ℕ). ended (Does (Loop control inside) c.args.next) o.at c.args.out c.args.within in
      let two = λ (inside : ℕ). ended (Continues control c.args.next inside) o.next_at c.args.out (Some c.args.place) in
      let again = c.end.ensures.unless_refused e in
      let begun = c.end_statement.ensures.unless_refused again.0 in
      let last = c.write_integer-2.ensures.writes.unless_refused begun.0 in
      let first = c.write_integer.ensures.writes.unless_refused last.0 in
      let found = c.behind-inside.ensures.unless_refused first.0 in
      let inside_is : c.behind-inside.result ≡ suc c.args.again = omega (arith, found.1.0) in
      (found.0, whole_control c.args.self.now.lines c.write_integer.new.self.lines c.write_integer-2.new.self.lines c.end_statement.new.self.lines c.end.new.self.lines x y one two c.behind-inside.result (suc c.args.again) inside_is (first.1 ∙ ap (λ ls. ls ++ map instructs x) c.behind-inside.ensures.same) last.1 begun.1 again.1);
}
