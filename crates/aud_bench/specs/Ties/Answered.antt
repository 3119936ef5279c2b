-- What a session with a private server has answered.
use Rattle.std.specs.Prelude.{◌≡◌, ◌*◌, ◌≤◌, List, [], ◌++◌, Option, false, if◌then◌else◌}
use Rattle.aud_text.specs.declared.limits.TheConstants.{REQUESTS, WAIT}
use Rattle.aud_bench.specs.declared.request.Request.{Request}
use Rattle.aud_bench.specs.declared.request.Answer.{Answer}
use Rattle.aud_bench.specs.declared.session.Session.{Session}
use Rattle.aud_bench.specs.Alone.{Loaded, Server, answers_from, alone}
use Rattle.aud_bench.specs.Ties.Serving.{IsLoaded}
use Rattle.aud_bench.specs.Ties.Times.{clock_of}

-- the server of the definition, behind what is kept
abbrev pub server : Session → Option Loaded → Server
server s loaded = record { requests = s.requests; bytes = s.bytes; loaded = loaded }

-- the answers to further requests; none where a QUIT was answered
abbrev pub answers_behind : Session → Option Loaded → List Request → List Answer
answers_behind s loaded more = if s.over then [] else answers_from s.limits (server s loaded) more

-- the session has answered these requests: whatever is asked then, it is answered as behind them
pub record HasAnswered (asked : List Request) (s : Session) : Type 0 where
  pub loaded : Option Loaded
  pub is_loaded : IsLoaded s.limits s.machine loaded
  pub few : s.requests ≤ REQUESTS
  pub time : s.over ≡ false → clock_of loaded ≤ s.requests * WAIT
  pub goes_on : (more : List Request) → alone s.limits (asked ++ more) ≡ alone s.limits asked ++ answers_behind s loaded more
