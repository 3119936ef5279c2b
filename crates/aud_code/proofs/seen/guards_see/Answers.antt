use Rattle.std.proofs.Common.{◌≡◌, ◌∷◌, ◌+◌, drop, length, map, refl}
use Rattle.std.proofs.lemmas.Bool.{false≢true}
use Rattle.std.proofs.lemmas.Option.{slice_get_read}
use Rattle.aud_code.specs.View.{plain_guard}
use Rattle.aud_code.proofs.Counting.{guard_first}
use Rattle.aud_code.proofs.Framing.{guards_see_behind}
use Rattle.aud_code.proofs.seen.guards_see.Goals as goal
use Rattle.aud_code.proofs.seen.guards_see.Goals.{After-is_fewer}

first : (c : After-is_fewer) → drop c.loop-guard.guard-index (map plain_guard c.args.guards.now) ≡ plain_guard c.guard-item.result ∷ drop (c.loop-guard.guard-index + 1) (map plain_guard c.args.guards.now)
first c =
    let guards = c.args.guards.now in
    guard_first guards c.loop-guard.guard-index c.guard-item.result (slice_get_read guards (length guards) c.loop-guard.guard-index c.guard-item.result refl c.loop-guard-test.true c.guard-item.is)

pub returns-then-not-is_fewer : goal.returns-then-not-is_fewer
returns-then-not-is_fewer c =
    let left = guards_see_behind c.args.seen.now c.args.frames (map plain_guard c.args.guards.now) c.loop-guard.guard-index in
    (λ e. absurd (false≢true e), λ h. c.if-not-is_fewer.ensures.1 ((rw (first (goal.at.returns-then-not-is_fewer c).After-is_fewer) at (left h)).0))

pub loop-guard-preserved : goal.loop-guard-preserved
loop-guard-preserved c = λ h. c.loop-guard.invariant (rw (first (goal.at.loop-guard-preserved c).After-is_fewer) (c.if-not-is_fewer.ensures.0 refl, h))
