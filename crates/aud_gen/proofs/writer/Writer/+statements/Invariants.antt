use Rattle.std.proofs.Common.{◌≡◌, ◌+◌, length, drop}
use Rattle.aud_typed.specs.declared.program.IfStatement.{out-IfStatement}
use Rattle.aud_typed.specs.Tree.{part_of, some}
use Rattle.aud_typed.specs.Ties.View.{plain_statements, part_of_arms, if_in}
use Rattle.aud_gen.proofs.Entering.{with_offered}
use Rattle.aud_layout.specs.Leading.{around}
use Rattle.aud_gen.proofs.Lines.{with_part}
use Rattle.aud_gen.proofs.Constructs.{with_handlers}
use Rattle.aud_gen.proofs.Writing.{Kept}
use Rattle.aud_gen.proofs.writer.Writer.+statements.Given as goal

abbrev pub invariant-write_if-loop-arm : goal.invariant-write_if-loop-arm
invariant-write_if-loop-arm l =
    (l.left + l.arm-index ≡ length l.arm-items) × Kept l.fn.self l.self (with_part l.self.lines (part_of_arms (drop l.arm-index l.arm-items) (part_of (plain_statements (out-IfStatement l.s).otherwise.items))) l.next (around l.out l.ways) ≡ with_part l.fn.self.lines (some (if_in l.s)) l.next (around l.out l.ways))

abbrev pub invariant-write_list-loop-s : goal.invariant-write_list-loop-s
invariant-write_list-loop-s l =
    (l.left + l.s-index ≡ length l.ss) × Kept l.fn.self l.self (with_part l.self.lines (part_of (plain_statements (drop l.s-index l.ss))) l.next (around l.out l.ways) ≡ with_part l.fn.self.lines (part_of (plain_statements l.ss)) l.next (around l.out l.ways))

abbrev pub invariant-write_handlers-loop-handler : goal.invariant-write_handlers-loop-handler
invariant-write_handlers-loop-handler l =
    Kept l.fn.self l.self (with_handlers l.self.lines (drop l.handler-index l.handlers) l.last (around l.last l.ways) ≡ with_handlers l.fn.self.lines l.handlers l.last (around l.last l.ways))

abbrev pub invariant-write_alternatives-loop-alternative : goal.invariant-write_alternatives-loop-alternative
invariant-write_alternatives-loop-alternative l =
    Kept l.fn.self l.self (with_offered l.self.lines (drop l.alternative-index l.alternatives) l.opener l.next (around l.out l.ways) ≡ with_offered l.fn.self.lines l.alternatives l.opener l.next (around l.out l.ways))
