use Rattle.std.proofs.Common.{◌≡◌, ℕ, ◌+◌, List, [], ◌∷◌, ◌++◌, length, map, ap, ◌∙◌, arith}
use Rattle.std.specs.Prelude.{None}
use Rattle.aud_typed.specs.Tree.{nothing, null}
use Rattle.aud_meaning.specs.declared.state.Construct.TheVariants as construct
use Rattle.aud_meaning.specs.Items.{no_body, nowhere}
use Rattle.aud_code.specs.Flat.{FlatLine, Guards, end}
use Rattle.aud_code.specs.Places.{Guard}
use Rattle.aud_code.specs.View.{plain_guard}
use Rattle.aud_code.specs.declared.line.Ending.TheVariants.{Null}
use Rattle.aud_code.specs.declared.line.Last.TheVariants.{Does, Ends}
use Rattle.aud_layout.specs.Layout.{end_place_by, part_size_by, statement_size_by}
use Rattle.aud_layout.specs.Written.{flat_step}
use Rattle.aud_gen.specs.Writes.{ended}
use Rattle.aud_gen.proofs.Writing.{written_more}
use Rattle.aud_gen.proofs.writer.Writer.write_idle.Goals as goal

abbrev does : ℕ → ℕ → List FlatLine
does guard last = ended (Does Null last) nowhere guard None

abbrev guards : List Guard → ℕ → List FlatLine
guards gs last = end (record { last = Guards gs; at = nowhere; out = last; within = None; ways = []; bodies = []; exit = None }) ∷ []

abbrev ends : ℕ → List FlatLine
ends last = ended (Ends construct.Unit 0) nowhere last None

pub returns : goal.returns
returns c = record {
  unless_refused = λ e.
      let old = c.args.self.now.lines in
      let n1 = c.end_statement.new.self.lines in
      let n2 = c.end.new.self.lines in
      let n3 = c.end-2.new.self.lines in
      let k3 = c.end-2.ensures.unless_refused e in
      let k2 = c.end.ensures.unless_refused k3.0 in
      let k1 = c.end_statement.ensures.unless_refused k2.0 in
      let k = c.behind-last.ensures.unless_refused k1.0 in
      let h = c.behind-guard.ensures.unless_refused k.0 in
      let g = c.behind-guard.result in
      let l = c.behind-last.result in
      let guard = length old + part_size_by flat_step nothing 1 + statement_size_by flat_step (null nowhere) 1 in
      let last = end_place_by flat_step no_body (length old) 1 in
      let guard_is : g ≡ guard = omega (arith, h.1.0, c.place.ensures) in
      let last_is : l ≡ last = omega (arith, k.1.0, guard_is) in
      let first = k1.1 ∙ ap (λ ls. ls ++ does g l) (c.behind-last.ensures.same ∙ c.behind-guard.ensures.same) in
      let second = k2.1 ∙ ap (λ gs. n1 ++ guards (map plain_guard gs) l) c.new.ensures.items in (
        h.0,
        written_more old n1 n3 (does g l) (guards [] l ++ ends l) first (written_more n1 n2 n3 (guards [] l) (ends l) second k3.1)
            ∙ ap (λ n. old ++ (does n l ++ (guards [] l ++ ends l))) guard_is
            ∙ ap (λ n. old ++ (does guard n ++ (guards [] n ++ ends n))) last_is,
      );
}
