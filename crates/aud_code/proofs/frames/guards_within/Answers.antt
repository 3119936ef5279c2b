use Rattle.std.proofs.Common.{◌≡◌, ◌∷◌, ◌+◌, drop, length, map, refl}
use Rattle.std.proofs.lemmas.Bool.{false≢true}
use Rattle.std.proofs.lemmas.Option.{slice_get_read}
use Rattle.aud_code.specs.View.{plain_guard, plain_line}
use Rattle.aud_code.proofs.Counting.{guard_first}
use Rattle.aud_code.proofs.Framing.{guards_at_behind}
use Rattle.aud_code.proofs.frames.guards_within.Goals as goal
use Rattle.aud_code.proofs.frames.guards_within.Goals.{After-is_within}

first : (c : After-is_within) → drop c.loop-guard.guard-index (map plain_guard c.args.guards.now) ≡ plain_guard c.guard-item.result ∷ drop (c.loop-guard.guard-index + 1) (map plain_guard c.args.guards.now)
first c =
    let guards = c.args.guards.now in
    guard_first guards c.loop-guard.guard-index c.guard-item.result (slice_get_read guards (length guards) c.loop-guard.guard-index c.guard-item.result refl c.loop-guard-test.true c.guard-item.is)

pub returns-then-not-is_within : goal.returns-then-not-is_within
returns-then-not-is_within c =
    let left = guards_at_behind (map plain_line c.args.lines.now) c.args.within (map plain_guard c.args.guards.now) c.loop-guard.guard-index in
    (λ e. absurd (false≢true e), λ h. c.if-not-is_within.ensures.1 ((rw (first (goal.at.returns-then-not-is_within c).After-is_within) at (left h)).0))

pub loop-guard-preserved : goal.loop-guard-preserved
loop-guard-preserved c = λ h. c.loop-guard.invariant (rw (first (goal.at.loop-guard-preserved c).After-is_within) (c.if-not-is_within.ensures.0 refl, h))
