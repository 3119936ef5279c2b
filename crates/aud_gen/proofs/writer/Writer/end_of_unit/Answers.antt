use Rattle.std.proofs.Common.{ℕ, ap, ◌∙◌, arith}
use Rattle.aud_typed.specs.Ties.View.{body_in}
use Rattle.aud_layout.specs.Layout.{end_place_by}
use Rattle.aud_layout.specs.Written.{flat_step}
use Rattle.aud_gen.specs.Writes.{counted}
use Rattle.aud_gen.proofs.Writing.{found_as}
use Rattle.aud_gen.proofs.writer.Writer.end_of_unit.Goals as goal

pub returns : goal.returns
returns c =
    let last = c.place_of_end-last.ensures ∙ ap (λ (n : ℕ). counted (end_place_by flat_step (body_in c.args.body.now) n 1)) c.place.ensures in
    found_as (λ it. omega (arith, it.0, it.1, last)) c.behind.ensures
