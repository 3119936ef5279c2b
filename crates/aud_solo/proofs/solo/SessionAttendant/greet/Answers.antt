use Rattle.std.proofs.Common.{List, ℕ, sym, subst}
use Rattle.aud_solo.specs.Ties.Serving.{HasGreeted}
use Rattle.aud_solo.specs.Ties.Sessions.{session_words}
use Rattle.aud_solo.proofs.SessionLaws.{greeted}
use Rattle.aud_solo.proofs.solo.SessionAttendant.greet.Goals as goal

pub returns : goal.returns
returns c = subst (λ (text : List ℕ). HasGreeted session_words text c.args.self.now) (sym c.new.ensures.items) (greeted c.args.self.now c.requires)
