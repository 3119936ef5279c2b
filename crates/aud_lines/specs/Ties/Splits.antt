-- The requests of a stream that comes in pieces.
use Rattle.std.specs.Prelude.{◌≡◌, ℕ, List, [], ◌++◌}
use Rattle.aud_bench.specs.declared.request.Request.{Request}
use Rattle.aud_lines.specs.Ties.Begun.{Begun, requests_behind}

-- Behind what a stream has begun, its bytes are these requests, and then the beginning of another one, or nothing.
pub record Splits (begun : Begun) (bytes : List ℕ) (given : List Request) (rest : Begun) : Type 0 where
  -- whatever follows
  pub whole : (more : List ℕ) → requests_behind begun (bytes ++ more) ≡ given ++ requests_behind rest more
  -- and no request is kept back
  pub none : requests_behind rest [] ≡ []
