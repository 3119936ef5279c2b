use Rattle.std.proofs.Common.{refl, sym, ◌+◌, ◌∙◌, length}
use Rattle.aud_typed.specs.Ties.View.{plain_statement}
use Rattle.aud_layout.specs.Layout.{statement_size_by, ways_count}
use Rattle.aud_layout.specs.Leading.{around}
use Rattle.aud_layout.specs.Written.{flat_step}
use Rattle.aud_gen.proofs.Lines.{chosen, passed_over}
use Rattle.aud_gen.proofs.Writing.{found_as}
use Rattle.aud_gen.proofs.writer.Writer.behind_listed.Goals as goal

pub returns-then-is_last : goal.returns-then-is_last
returns-then-is_last c =
    let behind = length c.args.self.now.lines + statement_size_by flat_step (plain_statement c.args.s.now) (ways_count (around 0 c.args.ways.now)) in
    record { same = refl; unless_refused = λ e. (e, sym (chosen c.args.is_last c.args.next behind c.if-is_last.true)) }

pub returns-else-is_last : goal.returns-else-is_last
returns-else-is_last c =
    let behind = length c.args.self.now.lines + statement_size_by flat_step (plain_statement c.args.s.now) (ways_count (around 0 c.args.ways.now)) in
    found_as (λ it. it ∙ sym (passed_over c.args.is_last c.args.next behind c.if-is_last.false)) c.behind_statement.ensures
