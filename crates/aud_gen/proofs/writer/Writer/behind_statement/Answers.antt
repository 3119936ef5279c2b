use Rattle.std.proofs.Common.{◌+◌, ap, ◌∙◌, arith}
use Rattle.aud_typed.specs.Ties.View.{plain_statement}
use Rattle.aud_layout.specs.Layout.{statement_size_by, ways_count}
use Rattle.aud_layout.specs.Leading.{around}
use Rattle.aud_layout.specs.Written.{flat_step}
use Rattle.aud_gen.proofs.Counted.{found_behind, of_statement}
use Rattle.aud_gen.proofs.Writing.{found_as}
use Rattle.aud_gen.proofs.writer.Writer.behind_statement.Goals as goal

pub returns : goal.returns
returns c =
    let many = ways_count (around 0 c.args.ways.now) in
    found_as (λ it. it ∙ ap (λ n. n + statement_size_by flat_step (plain_statement c.args.s.now) many) c.place.ensures)
    (found_behind c.place.result c.behind.result c.statement_length-length.result (statement_size_by flat_step (plain_statement c.args.s.now) many) (c.statement_length-length.ensures ∙ of_statement (plain_statement c.args.s.now) c.count.result many (omega (arith, c.count.ensures))) c.behind.ensures)
