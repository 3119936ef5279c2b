use Rattle.std.proofs.Common.{◌≡◌, ◌+◌, ◌-◌, ◌++◌, ◌∷◌, [], pos, ap, arith, ◌∙◌}
use Rattle.std.proofs.lemmas.Grind.{common_steps}
use Rattle.aud_sequential.specs.Parked.{numbers_from}
use Rattle.aud_sequential.proofs.Numbers.{numbers_more}
use Rattle.aud_sequential.proofs.progress.tasks.cells_of.Goals as goal

pub loop-index-preserved : goal.loop-index-preserved
loop-index-preserved c =
    let first = c.args.first in
    let i = c.loop-index.index in
    let count = c.args.count in
    let number : c.in_ok-number.number ≡ first + i = grind (arith, common_steps, c.checked_add.ensures, c.ok_or.ensures, c.in_ok-number.ensures) in
    let cell : c.in_ok-cell_of.field-0 ≡ pos (first + i) = c.in_ok-cell_of.ensures ∙ ap pos number in
    let items = c.in_ok-push.ensures.items ∙ ap (λ z. c.loop-index.cells.items ++ z ∷ []) cell in
    ap (λ xs. xs ++ numbers_from (first + (i + 1)) (count - (i + 1))) items
    ∙ numbers_more c.loop-index.cells.items first i count (omega (arith, c.loop-index-test.true))
    ∙ c.loop-index.invariant
