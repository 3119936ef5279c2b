use Rattle.std.proofs.Common.{ℕ, ◌<◌, map}
use Rattle.aud_code.specs.Seen.{PlaceSees}
use Rattle.aud_code.specs.Tabled.{counts}
use Rattle.aud_code.specs.View.{frames_in, plain_code}
use Rattle.aud_code.proofs.seen.places_see.Given as goal

abbrev pub invariant-loop-place : goal.invariant-loop-place
invariant-loop-place l = (k : ℕ) → k < l.place → PlaceSees (plain_code l.code) (map counts l.code.operands.items) l.code.tasks.items (frames_in l.code.barriers.items) l.code.seen.items k
