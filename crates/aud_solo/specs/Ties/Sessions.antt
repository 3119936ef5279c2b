-- What a session with a private server has answered and told.
use Rattle.std.specs.Prelude.{◌≡◌, ℕ, List, [], false}
use Rattle.std.specs.List.{list_any}
use Rattle.aud_text.specs.declared.limits.TheConstants.{STANDARD}
use Rattle.aud_bench.specs.declared.request.Request.{Request}
use Rattle.aud_bench.specs.declared.session.Session.{Session}
use Rattle.aud_bench.specs.Alone.{is_quit}
use Rattle.aud_bench.specs.Ties.Answered.{HasAnswered}
use Rattle.aud_solo.specs.Solo.{TellsAlone}
use Rattle.aud_solo.specs.Ties.Serving.{Words}

pub record HasSaid (asked : List Request) (said : List ℕ) (session : Session) : Type 0 where
  pub limits_are : session.limits ≡ STANDARD
  pub answered : HasAnswered asked session
  pub says : TellsAlone asked said
  pub quit : session.over ≡ list_any is_quit asked

abbrev pub IsNew : Session → Type 0
IsNew session = (session.limits ≡ STANDARD) × HasAnswered [] session × (session.over ≡ false)

abbrev pub session_words : Words Session
session_words = record { tells = TellsAlone; has_told = HasSaid; over = λ session. session.over; fresh = IsNew }
