use Rattle.std.proofs.Common.{◌≡◌, ℕ, suc, ◌+◌, ◌++◌, length, ap, ◌∙◌, arith}
use Rattle.aud_typed.specs.declared.program.EntryCallStatement.{out-EntryCallStatement}
use Rattle.aud_typed.specs.Tree.{part_of}
use Rattle.aud_typed.specs.Ties.View.{entry_call_in, plain_statements}
use Rattle.aud_layout.specs.Instructions.{instructions_of}
use Rattle.aud_layout.specs.Layout.{part_place, part_size_by, ways_count}
use Rattle.aud_layout.specs.Leading.{around}
use Rattle.aud_layout.specs.Written.{flat_step}
use Rattle.aud_gen.specs.Writes.{call_lines}
use Rattle.aud_gen.proofs.writer.Writer.write_call_step.Goals as goal

pub returns : goal.returns
returns c = record {
  unless_refused = λ e.
      let s = out-EntryCallStatement c.args.call.now in
      let a = around c.args.out c.args.ways.now in
      let old = c.args.self.now.lines in
      let next = c.args.next in
      let p = part_of (plain_statements s.after.items) in
      let q = part_of (plain_statements s.otherwise.items) in
      let call = c.write_call.ensures.unless_refused e in
      let behind = c.behind_list-second.ensures.unless_refused call.0 in
      let first = c.behind-inside.ensures.unless_refused behind.0 in
      let inside = suc (length old + length (instructions_of (entry_call_in c.args.call.now))) in
      let inside_is : c.behind-inside.result ≡ inside = omega (arith, first.1.0, first.1.1, c.place.ensures, c.call_length.ensures) in
      let after = behind.1 ∙ ap (λ xs. c.behind-inside.result + part_size_by flat_step (part_of (plain_statements xs)) (ways_count a)) c.deref.ensures.value in
      let second_is : c.behind_list-second.result ≡ inside + part_size_by flat_step p (ways_count a) = omega (arith, after, inside_is) in
      let then = c.part_place-then.ensures ∙ ap (λ xs. part_place (part_of (plain_statements xs)) c.behind-inside.result next) c.deref-2.ensures.value ∙ ap (λ (n : ℕ). part_place p n next) inside_is in
      let otherwise = c.part_place-otherwise.ensures ∙ ap (λ xs. part_place (part_of (plain_statements xs)) c.behind_list-second.result next) c.deref-3.ensures.value ∙ ap (λ (n : ℕ). part_place q n next) second_is in
      let lines = λ (n m : ℕ). call_lines c.args.call.now n m a.out a.within in (
        first.0,
        call.1
            ∙ ap (λ ls. ls ++ lines c.part_place-then.result c.part_place-otherwise.result) (c.behind_list-second.ensures.same ∙ c.behind-inside.ensures.same)
            ∙ ap (λ (n : ℕ). old ++ lines n c.part_place-otherwise.result) then
            ∙ ap (λ (n : ℕ). old ++ lines (part_place p inside next) n) otherwise,
      );
}
