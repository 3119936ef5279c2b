use Rattle.std.proofs.Common.{◌∙◌, arith}
use Rattle.aud_typed.specs.Ties.View.{statements_in}
use Rattle.aud_layout.specs.Layout.{statement_size_by, ways_count}
use Rattle.aud_layout.specs.Leading.{around}
use Rattle.aud_layout.specs.Written.{flat_step}
use Rattle.aud_gen.proofs.Counted.{found_behind, of_statement}
use Rattle.aud_gen.proofs.writer.Writer.behind_statements.Goals as goal

pub returns : goal.returns
returns c =
    let many = ways_count (around 0 c.args.ways.now) in
    found_behind c.args.place c.behind.result c.statements_length-length.result (statement_size_by flat_step (statements_in c.args.ss.now) many) (c.statements_length-length.ensures ∙ of_statement (statements_in c.args.ss.now) c.count.result many (omega (arith, c.count.ensures))) c.behind.ensures
