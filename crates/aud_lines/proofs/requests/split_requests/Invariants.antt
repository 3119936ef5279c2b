use Rattle.std.proofs.Common.{◌≡◌, ℕ, List, ◌++◌, length}
use Rattle.aud_lines.specs.Requests.{requests}
use Rattle.aud_lines.proofs.requests.split_requests.Given as goal

abbrev pub invariant-loop-read : goal.invariant-loop-read
invariant-loop-read l = (more : List ℕ) → l.fn.first.items ++ requests (l.bytes ++ more) ≡ l.read.items ++ requests (l.rest ++ more)

abbrev pub decreases-loop-read : goal.decreases-loop-read
decreases-loop-read l = length l.rest
