use Rattle.std.proofs.Common.{ℕ, ap, ◌∙◌, arith}
use Rattle.aud_typed.specs.declared.program.SelectStatement.{out-SelectStatement}
use Rattle.aud_typed.specs.Tree.{part_of}
use Rattle.aud_typed.specs.Ties.View.{alternatives_in, plain_statements}
use Rattle.aud_layout.specs.Layout.{offered_size_by, part_place, ways_count}
use Rattle.aud_layout.specs.Leading.{around}
use Rattle.aud_layout.specs.Written.{flat_step}
use Rattle.aud_gen.specs.Writes.{counted}
use Rattle.aud_gen.proofs.Counted.{found_behind, of_offered}
use Rattle.aud_gen.proofs.Writing.{found_as}
use Rattle.aud_gen.proofs.writer.Writer.behind_offered.Goals as goal

pub returns : goal.returns
returns c =
    let s = out-SelectStatement c.args.select.now in
    let many = ways_count (around 0 c.args.ways.now) in
    let offered = alternatives_in s.alternatives.items in
    let size = c.alternatives_length-offered.ensures ∙ ap (λ xs. counted (offered_size_by flat_step (alternatives_in xs) c.count.result)) c.deref.ensures.value ∙ of_offered offered c.count.result many (omega (arith, c.count.ensures)) in
    let otherwise = c.part_place.ensures ∙ ap (λ xs. part_place (part_of (plain_statements xs)) c.behind-second.result c.args.next) c.deref-2.ensures.value in
    found_as (λ it. otherwise ∙ ap (λ (n : ℕ). part_place (part_of (plain_statements s.otherwise.items)) n c.args.next) it)
    (found_behind c.args.place c.behind-second.result c.alternatives_length-offered.result (offered_size_by flat_step offered many) size c.behind-second.ensures)
