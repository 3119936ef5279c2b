use Rattle.std.proofs.Common.{◌∙◌, arith}
use Rattle.aud_typed.specs.Ties.View.{body_in}
use Rattle.aud_layout.specs.Layout.{ways_count}
use Rattle.aud_layout.specs.Leading.{around}
use Rattle.aud_gen.proofs.Counted.{of_end}
use Rattle.aud_gen.proofs.Writing.{found_as}
use Rattle.aud_gen.proofs.writer.Writer.end_of.Goals as goal

pub returns : goal.returns
returns c =
    let many = ways_count (around 0 c.args.ways.now) in
    let last = c.place_of_end-last.ensures ∙ of_end (body_in c.args.body.now) c.args.place c.count.result many (omega (arith, c.count.ensures)) in
    found_as (λ it. omega (arith, it.0, it.1, last)) c.behind.ensures
