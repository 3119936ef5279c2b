-- What was sent by a pass, of what a private server would be asked: the requests that it keeps.
use Rattle.std.specs.Prelude.{◌≡◌, List, [], ◌++◌, length, None, if◌then◌else◌}
use Rattle.aud_text.specs.declared.limits.Limits.{Limits}
use Rattle.aud_bench.specs.declared.request.Request.{Request}
use Rattle.aud_bench.specs.declared.request.Answer.{Answer}
use Rattle.aud_bench.specs.Alone.{Server, answers_from, alone}
use Rattle.aud_bench.specs.Seen.{has_quit}
use Rattle.aud_bench.specs.Size.{bytes_of}
use Rattle.aud_bench.specs.Ties.Standing.{loaded_after}

-- the private server behind requests that it kept
abbrev pub server_behind : Limits → List Request → Server
server_behind limits sent = record { requests = length sent; bytes = bytes_of sent; loaded = loaded_after limits None sent }

-- what it answers to more; nothing behind a QUIT
abbrev pub answers_behind : Limits → (sent more : List Request) → List Answer
answers_behind limits sent more = if has_quit sent then [] else answers_from limits (server_behind limits sent) more

-- these are the ones that it keeps of what was asked
abbrev pub Keeps : Limits → (asked sent : List Request) → Type 0
Keeps limits asked sent = (more : List Request) → alone limits (asked ++ more) ≡ alone limits asked ++ answers_behind limits sent more

pub record Follows (limits : Limits) (asked sent : List Request) : Type 0 where
  pub all : Keeps limits asked sent
  pub own : Keeps limits sent sent
