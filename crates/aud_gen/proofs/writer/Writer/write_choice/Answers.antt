use Rattle.std.proofs.Common.{ℕ, Bool, List, ◌∷◌, map, ap, ◌∙◌}
use Rattle.std.specs.Prelude.{None}
use Rattle.aud_typed.specs.declared.program.SelectStatement.{out-SelectStatement}
use Rattle.aud_typed.specs.Tree.{part_of}
use Rattle.aud_typed.specs.Ties.View.{alternatives_in, plain_statements}
use Rattle.aud_meaning.specs.Statements.{has_else}
use Rattle.aud_code.specs.Flat.{Does, EndLine}
use Rattle.aud_code.specs.Instruction.{Select}
use Rattle.aud_code.specs.View.{behind_offers, bodies_offered}
use Rattle.aud_layout.specs.Assembly.{within_moved}
use Rattle.aud_gen.specs.Writes.{choice_code}
use Rattle.aud_gen.proofs.Entering.{one_step, places_moved}
use Rattle.aud_gen.proofs.writer.Writer.write_choice.Goals as goal

pub returns : goal.returns
returns c =
    let s = out-SelectStatement c.args.select.now in
    let ways = behind_offers c.args.offers.items in
    let bodies = bodies_offered c.args.offers.items in
    let line : Bool → List ℕ → List ℕ → EndLine = λ b ws bs. record { last = Does (Select b); at = s.at; out = c.args.out; within = within_moved (λ n. n) c.args.within; ways = c.args.otherwise ∷ ws; bodies = c.args.own ∷ bs; exit = None } in
    let is_else = c.has_else.ensures ∙ ap (λ xs. has_else (part_of (plain_statements xs))) c.deref-2.ensures.value in
    let same = ap (λ b. line b ways bodies) is_else ∙ ap (λ ws. line (has_else (part_of (plain_statements s.otherwise.items))) ws bodies) (places_moved ways) ∙ ap (line (has_else (part_of (plain_statements s.otherwise.items))) (map (λ (n : ℕ). n) ways)) (places_moved bodies) in
    one_step (choice_code (alternatives_in s.alternatives.items)) _ _ same (rw c.deref.ensures.value at c.write_choice_code.ensures) c.concern.ensures
