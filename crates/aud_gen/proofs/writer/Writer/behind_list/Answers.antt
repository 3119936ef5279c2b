use Rattle.std.proofs.Common.{◌∙◌, arith}
use Rattle.aud_typed.specs.Tree.{part_of}
use Rattle.aud_typed.specs.Ties.View.{plain_statements}
use Rattle.aud_layout.specs.Layout.{part_size_by, ways_count}
use Rattle.aud_layout.specs.Leading.{around}
use Rattle.aud_layout.specs.Written.{flat_step}
use Rattle.aud_gen.proofs.Counted.{found_behind, of_part}
use Rattle.aud_gen.proofs.writer.Writer.behind_list.Goals as goal

pub returns : goal.returns
returns c =
    let many = ways_count (around 0 c.args.ways.now) in
    found_behind c.args.place c.behind.result c.list_length-length.result (part_size_by flat_step (part_of (plain_statements c.args.ss.now)) many) (c.list_length-length.ensures ∙ of_part (part_of (plain_statements c.args.ss.now)) c.count.result many (omega (arith, c.count.ensures))) c.behind.ensures
