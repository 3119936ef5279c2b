use Rattle.std.proofs.Common.{◌≡◌, ◌+◌, drop, false, refl, ◌∙◌, arith}
use Rattle.aud_code.specs.declared.counts.Counts.{Counts}
use Rattle.aud_code.specs.Tabled.{behind_line, counts}
use Rattle.aud_code.specs.View.{plain_line}
use Rattle.aud_gen.proofs.Tables.{Whole, one_more, all_there}
use Rattle.aud_gen.proofs.operands.operands.Goals.{in-Instruction+in_ok-before-in-Instruction, in-End}
use Rattle.aud_gen.proofs.operands.operands.Goals as goal

abbrev NOTHING : Counts
NOTHING = record { integers = 0; booleans = 0; targets = 0; names = 0; cells = false }

pub loop-line-preserved : goal.loop-line-preserved
loop-line-preserved c =
    let lines = c.args.lines.now in
    let i = c.loop-line.line-index in
    let before = c.loop-line.before in
    let on : (next : Counts) → counts next ≡ behind_line (plain_line c.line-item.result) (counts before) → Whole c.push.new.self.items (counts next) (drop (i + 1) lines) lines =
    λ next goes. one_more lines i c.line-item.result c.loop-line.table.items c.push.new.self.items before next (omega arith) c.line-item.is c.in_ok-push.ensures.items goes c.loop-line.invariant in
    elim c.match-line.branch [
      | in-Instruction+in_ok-before-in-Instruction w ↦ rw w.before-is (on w.in_ok-before-in-Instruction.before (rw w.in-Instruction.is (w.in_ok-before-in-Instruction.ensures ∙ w.effect_of.ensures.next (counts before))))
      | in-End w ↦ rw w.before-is (on NOTHING (rw w.in-End.is refl))
    ]

pub returns : goal.returns
returns c = all_there c.args.lines.now c.loop-line.line-index c.loop-line.table.items (counts c.loop-line.before) (omega (arith, c.loop-line-test.false)) c.loop-line.invariant
