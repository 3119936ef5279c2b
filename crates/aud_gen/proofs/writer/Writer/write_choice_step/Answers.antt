use Rattle.std.proofs.Common.{◌≡◌, ℕ, List, suc, ◌+◌, ◌++◌, length, ap, ◌∙◌, arith}
use Rattle.aud_typed.specs.declared.program.SelectStatement.{out-SelectStatement}
use Rattle.aud_typed.specs.Tree.{part_of}
use Rattle.aud_typed.specs.Ties.View.{alternatives_in, plain_statements}
use Rattle.aud_code.specs.View.{behind_offers, bodies_offered}
use Rattle.aud_layout.specs.Layout.{part_place, offered_size_by, parts_from_by, bodies_from_by, ways_count}
use Rattle.aud_layout.specs.Leading.{around}
use Rattle.aud_layout.specs.Written.{flat_step}
use Rattle.aud_gen.specs.Writes.{choice_code, counted, select_lines}
use Rattle.aud_gen.proofs.writer.Writer.write_choice_step.Goals as goal

pub returns-in-Ok : goal.returns-in-Ok
returns-in-Ok c = record {
  unless_refused = λ e.
      let s = out-SelectStatement c.args.select.now in
      let a = around c.args.out c.args.ways.now in
      let old = c.args.self.now.lines in
      let next = c.args.next in
      let many = ways_count a in
      let offered = alternatives_in s.alternatives.items in
      let p = part_of (plain_statements s.otherwise.items) in
      let chosen = c.write_choice.ensures.unless_refused e in
      let behind = c.behind_offered-otherwise.ensures.unless_refused chosen.0 in
      let first = c.behind-inside.ensures.unless_refused behind.0 in
      let inside = suc (length old + length (choice_code offered)) in
      let choice = c.choice_length.ensures ∙ ap (λ xs. counted (length (choice_code (alternatives_in xs)))) c.deref.ensures.value in
      let inside_is : c.behind-inside.result ≡ inside = omega (arith, first.1.0, first.1.1, c.place-own.ensures, choice) in
      let otherwise = behind.1 ∙ ap (λ (n : ℕ). part_place p (n + offered_size_by flat_step offered many) next) inside_is in
      let ways = c.in-Ok.ensures.0 ∙ ap (λ xs. parts_from_by flat_step (alternatives_in xs) c.behind-inside.result next many) c.deref-2.ensures.value ∙ ap (λ (n : ℕ). parts_from_by flat_step offered n next many) inside_is in
      let bodies = c.in-Ok.ensures.1 ∙ ap (λ xs. bodies_from_by flat_step (alternatives_in xs) c.behind-inside.result next many) c.deref-2.ensures.value ∙ ap (λ (n : ℕ). bodies_from_by flat_step offered n next many) inside_is in
      let leads = part_place p (inside + offered_size_by flat_step offered many) next in
      let parts = parts_from_by flat_step offered inside next many in
      let there = behind_offers c.in-Ok.offers.items in
      let given = bodies_offered c.in-Ok.offers.items in (
        first.0,
        chosen.1
            ∙ ap (λ ls. ls ++ select_lines c.args.select.now c.place-own.result c.behind_offered-otherwise.result there given a.out a.within) (c.behind_offered-otherwise.ensures.same ∙ c.behind-inside.ensures.same)
            ∙ ap (λ (n : ℕ). old ++ select_lines c.args.select.now n c.behind_offered-otherwise.result there given a.out a.within) c.place-own.ensures
            ∙ ap (λ (n : ℕ). old ++ select_lines c.args.select.now (length old) n there given a.out a.within) otherwise
            ∙ ap (λ (ns : List ℕ). old ++ select_lines c.args.select.now (length old) leads ns given a.out a.within) ways
            ∙ ap (λ (ns : List ℕ). old ++ select_lines c.args.select.now (length old) leads parts ns a.out a.within) bodies,
      );
}

pub returns-in-Err : goal.returns-in-Err
returns-in-Err c = c.refuse.ensures _ _
