use Rattle.std.proofs.Common.{Some, None, ap, sym, ◌∙◌}
use Rattle.std.specs.Prelude.{nat_le}
use Rattle.aud_meaning.specs.Parts.{call_of, own_of}
use Rattle.aud_tasks.specs.Moving.{alone_if}
use Rattle.aud_tasks.proofs.MoveLaws.Moving.{cancels_at, cancels_by}
use Rattle.aud_tasks.proofs.moves.can_be_cancelled.Goals as goal

pub returns-in-Some : goal.returns-in-Some
returns-in-Some c = λ plan code.
    let s = c.args.state.now in
    let n = c.args.task in
    ap (λ k. alone_if (nat_le c.in-Some.time k) n) c.clock.ensures.value
    ∙ cancels_at plan code s n c.in-Some.time
    ∙ cancels_by plan code s (call_of (own_of n s).call s) n (Some c.in-Some.time) (sym c.in-Some.is ∙ c.cancelled_from.ensures)

pub returns-in-None : goal.returns-in-None
returns-in-None c = λ plan code.
    let s = c.args.state.now in
    let n = c.args.task in
    cancels_by plan code s (call_of (own_of n s).call s) n None (sym c.in-None.is ∙ c.cancelled_from.ensures)
