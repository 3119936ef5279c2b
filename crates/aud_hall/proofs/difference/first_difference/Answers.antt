use Rattle.std.proofs.Common.{Some, sym, ap, ◌∙◌, arith, add-zero}
use Rattle.aud_hall.proofs.Parting.{on_by, ends_there}
use Rattle.aud_hall.proofs.difference.first_difference.Goals as goal

pub returns-then-requests-place : goal.returns-then-requests-place
returns-then-requests-place c =
    sym
    (c.loop-place.invariant
    ∙ ap (on_by c.loop-place.place) (ends_there c.args.journal.now c.args.requests.now c.loop-place.place (omega arith) (omega arith))
    ∙ ap (λ n. Some n) (add-zero c.loop-place.place))
