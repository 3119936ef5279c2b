-- A stream whose pieces come one after another.
use Rattle.std.specs.Prelude.{◌≡◌, ℕ, List, [], ◌∷◌, ◌++◌}
use Rattle.aud_bench.specs.declared.request.Request.{Request}
use Rattle.aud_lines.specs.Ties.Begun.{Begun, nothing}
use Rattle.aud_lines.specs.Ties.Splits.{Splits}
use Rattle.aud_lines.specs.Requests.{requests}

-- a piece, and the requests that are given for it
pub record Piece : Type 0 where
  pub bytes : List ℕ
  pub given : List Request

abbrev pub all_bytes : List Piece → List ℕ
all_bytes [] = []
all_bytes (piece ∷ pieces) = piece.bytes ++ all_bytes pieces

abbrev pub all_given : List Piece → List Request
all_given [] = []
all_given (piece ∷ pieces) = piece.given ++ all_given pieces

-- the pieces come to a feed of a stream that has begun something, each as `Feed::feed` takes it, and then it has begun something else
abbrev pub Feeds : Begun → List Piece → Begun → Type 0
Feeds begun [] rest = rest ≡ begun
Feeds begun (piece ∷ pieces) rest = (next : Begun) × Splits begun piece.bytes piece.given next × Feeds next pieces rest

-- the pieces of a stream of which nothing had come
abbrev pub PiecesLaw : Type 0
PiecesLaw =
    (pieces : List Piece) (rest : Begun) → Feeds nothing pieces rest
    → (all_given pieces ≡ requests (all_bytes pieces)) × Splits nothing (all_bytes pieces) (all_given pieces) rest
