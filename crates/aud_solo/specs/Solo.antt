-- What the server on one stream tells, and where it stops to read.
use Rattle.std.specs.Prelude.{◌≡◌, ℕ, false, List, Option}
use Rattle.std.specs.List.{concat, list_any}
use Rattle.aud_text.specs.declared.limits.TheConstants.{STANDARD}
use Rattle.aud_bench.specs.declared.request.Request.{Request}
use Rattle.aud_bench.specs.Alone.{is_quit, alone}
use Rattle.aud_lines.specs.Requests.{requests}
use Rattle.aud_lines.specs.Text.{text}
use Rattle.aud_solo.specs.Serving.{ReadsOneMore}

-- the answers of a private server to these requests; nothing behind a QUIT has one
abbrev pub TellsAlone : List Request → List ℕ → Type 0
TellsAlone asked said = said ≡ text (alone STANDARD asked)

-- What is read, however the call ends: pieces that together have no QUIT, and then at most one more. So behind the read that brings a QUIT
-- there is no other.
pub record StopsAtQuit (left remaining : Option (List ℕ)) (old new : List (List ℕ)) : Type 0 where
  pub before : List (List ℕ)
  pub read : ReadsOneMore left remaining old new before
  pub goes_on : list_any is_quit (requests (concat before)) ≡ false
