use Rattle.std.proofs.Common.{◌+◌, ap, ◌∙◌, arith}
use Rattle.aud_typed.specs.Tree.{part_of}
use Rattle.aud_typed.specs.Ties.View.{elaborations_in}
use Rattle.aud_layout.specs.Layout.{part_size_by, ways_count}
use Rattle.aud_layout.specs.Leading.{around}
use Rattle.aud_layout.specs.Written.{flat_step}
use Rattle.aud_gen.proofs.Counted.{found_behind, of_part}
use Rattle.aud_gen.proofs.Writing.{found_as}
use Rattle.aud_gen.proofs.writer.Writer.behind_elaborations.Goals as goal

pub returns : goal.returns
returns c =
    let many = ways_count (around 0 c.args.ways.now) in
    found_as (λ it. it ∙ ap (λ n. n + part_size_by flat_step (part_of (elaborations_in c.args.body.now)) many) c.place.ensures)
    (found_behind c.place.result c.behind.result c.elaborations_length-length.result (part_size_by flat_step (part_of (elaborations_in c.args.body.now)) many) (c.elaborations_length-length.ensures ∙ of_part (part_of (elaborations_in c.args.body.now)) c.count.result many (omega (arith, c.count.ensures))) c.behind.ensures)
