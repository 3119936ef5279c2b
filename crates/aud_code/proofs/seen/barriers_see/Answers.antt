use Rattle.std.proofs.Common.{◌≡◌, ◌∷◌, ◌+◌, drop, length, refl}
use Rattle.std.proofs.lemmas.Bool.{false≢true}
use Rattle.std.proofs.lemmas.Option.{slice_get_read}
use Rattle.aud_code.proofs.Counting.{item_first}
use Rattle.aud_code.proofs.Framing.{barriers_see_behind}
use Rattle.aud_code.proofs.seen.barriers_see.Goals as goal
use Rattle.aud_code.proofs.seen.barriers_see.Goals.{After-all_open}

first : (c : After-all_open) → drop c.loop-barrier.barrier-index c.args.barriers.now ≡ c.barrier-item.result ∷ drop (c.loop-barrier.barrier-index + 1) c.args.barriers.now
first c =
    let barriers = c.args.barriers.now in
    item_first barriers c.loop-barrier.barrier-index c.barrier-item.result (slice_get_read barriers (length barriers) c.loop-barrier.barrier-index c.barrier-item.result refl c.loop-barrier-test.true c.barrier-item.is)

pub returns-then-not-all_open : goal.returns-then-not-all_open
returns-then-not-all_open c =
    let open_here = rw c.deref.ensures.value at c.if-not-all_open.ensures in
    let left = barriers_see_behind c.args.barriers.now c.loop-barrier.barrier-index in
    (λ e. absurd (false≢true e), λ h. open_here.1 ((rw (first (goal.at.returns-then-not-all_open c).After-all_open) at (left h)).0))

pub loop-barrier-preserved : goal.loop-barrier-preserved
loop-barrier-preserved c =
    let open_here = rw c.deref.ensures.value at c.if-not-all_open.ensures in
    λ h. c.loop-barrier.invariant (rw (first (goal.at.loop-barrier-preserved c).After-all_open) (open_here.0 refl, h))
