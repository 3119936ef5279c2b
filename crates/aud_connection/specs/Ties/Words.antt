-- How far a connection is that was told a text for what it asked.
use Rattle.std.specs.Prelude.{◌≡◌, ℕ, Bool, true, false, List, Option, Some, None}
use Rattle.std.specs.List.{list_any}
use Rattle.aud_text.specs.declared.limits.Limits.{Limits}
use Rattle.aud_bench.specs.declared.request.Request.{Request}
use Rattle.aud_bench.specs.Alone.{is_quit}
use Rattle.aud_bench.specs.Seen.{has_quit}
use Rattle.aud_pass.specs.Passed.{Passed}
use Rattle.aud_solo.specs.Ties.Serving.{Words}
use Rattle.aud_connection.specs.declared.visit.Visit.{Visit}
use Rattle.aud_connection.specs.Told.{are_answers}
use Rattle.aud_connection.specs.Served.{Waits, Talks, Greets, Tells}
use Rattle.aud_connection.specs.Ties.Following.{Follows}

-- what was sent by the pass is what a private server keeps of what was asked from the SEAT on; behind a QUIT nothing is told
pub record Goes (limits : Limits) (after sent : List Request) (over : Bool) : Type 0 where
  pub follows : Follows limits after sent
  pub quit : over ≡ true → has_quit sent ≡ true

pub record Seated (seats : List Limits) (asked : List Request) (text : List ℕ) (p : Passed) (over : Bool) : Type 0 where
  pub talks : Talks seats asked text
  pub limits : talks.limits ≡ p.limits
  pub sent : talks.stored ≡ p.sent
  pub goes : are_answers talks.told ≡ true → Goes talks.limits talks.after talks.stored over
  pub ends : over ≡ list_any is_quit talks.after

abbrev pub IsBy : List Limits → List Request → List ℕ → Option Passed → Bool → Type 0
IsBy seats asked text None over = Waits seats asked text × (over ≡ false)
IsBy seats asked text (Some p) over = Seated seats asked text p over

-- nobody has asked anything
abbrev pub IsNew : Visit → Type 0
IsNew visit = (visit.pass ≡ None) × (visit.over ≡ false)

-- of one who has such a visit, at a desk whose seats have these limits
abbrev pub visit_words : {S : Type 0} → List Limits → (S → Visit) → Words S
visit_words seats visit = record {
  tells = Tells seats;
  has_told = λ asked text s. Greets seats text (λ rest. IsBy seats asked rest (visit s).pass (visit s).over);
  over = λ s. (visit s).over;
  fresh = λ s. IsNew (visit s);
}
