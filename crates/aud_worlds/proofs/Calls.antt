-- One call more of a run.
use Rattle.std.specs.Prelude.{map}
use Rattle.std.proofs.Common.{◌≡◌, List, [], ◌∷◌, ◌++◌, refl, ap, ◌∙◌, subst}
use Rattle.aud_text.specs.declared.limits.Limits.{Limits}
use Rattle.aud_hall.specs.Replies.{Reply, Then}
use Rattle.aud_worlds.specs.declared.event.Event.{Event as Call}
use Rattle.aud_worlds.specs.World.{World, Event, happens, after_all, replies_to, beginning}
use Rattle.aud_worlds.specs.Headline.{AnswersAlone, now_is}
use Rattle.aud_worlds.specs.Ties.Calls.{Told, call_of, told_by, IsRun}
use Rattle.aud_worlds.specs.Why.Laws.{OfEachSeat}
use Rattle.aud_worlds.specs.Why.Runs.{KeepsApart, RunLaw}
use Rattle.aud_worlds.proofs.Isolation.{isolation_law, headline_law, slice_law, session_law, two_worlds_law}
use Rattle.aud_worlds.proofs.Users.{every_seat_law}

pub none_run : (limits : List Limits) → IsRun limits [] (beginning limits) []
none_run limits = record { events = []; calls_are = refl; world_is = refl; replies_are = refl }

after_more : (w : World) (es : List Event) (e : Event) → after_all w (es ++ e ∷ []) ≡ (happens e (after_all w es)).now
after_more w [] e = refl
after_more w (x ∷ es) e = after_more (happens x w).now es e

replies_more : (w : World) (es : List Event) (e : Event) → map told_by (replies_to w (es ++ e ∷ [])) ≡ map told_by (replies_to w es) ++ told_by (happens e (after_all w es)).reply ∷ []
replies_more w [] e = refl
replies_more w (x ∷ es) e = ap (λ ts. told_by (happens x w).reply ∷ ts) (replies_more (happens x w).now es e)

calls_more : (es : List Event) (e : Event) → map call_of (es ++ e ∷ []) ≡ map call_of es ++ call_of e ∷ []
calls_more [] e = refl
calls_more (x ∷ es) e = ap (λ cs. call_of x ∷ cs) (calls_more es e)

pub one_call : (limits : List Limits) (calls : List Call) (w : World) (replies : List Told) (e : Event) (after : World) (reply : Reply) → IsRun limits calls w replies → happens e w ≡ record { now = after; reply = reply } → IsRun limits (calls ++ call_of e ∷ []) after (replies ++ told_by reply ∷ [])
one_call limits calls w replies e after reply run is = record {
  events = run.events ++ e ∷ [];
  calls_are = calls_more run.events e ∙ ap (λ cs. cs ++ call_of e ∷ []) run.calls_are;
  world_is = after_more (beginning limits) run.events e ∙ ap (λ v. (happens e v).now) run.world_is ∙ ap (λ (t : Then World). t.now) is;
  replies_are =
      replies_more (beginning limits) run.events e
      ∙ ap (λ ts. ts ++ told_by (happens e (after_all (beginning limits) run.events)).reply ∷ []) run.replies_are
      ∙ ap (λ v. replies ++ told_by (happens e v).reply ∷ []) run.world_is
      ∙ ap (λ (t : Then World). replies ++ told_by t.reply ∷ []) is;
}

-- the answers at each seat are those of a private server
pub run_answers : (limits : List Limits) (calls : List Call) (w : World) (replies : List Told) → IsRun limits calls w replies → OfEachSeat (λ l s. AnswersAlone l s.requests s) w.hall
run_answers limits calls w replies run = subst (λ v. OfEachSeat (λ l s. AnswersAlone l s.requests s) v.hall) run.world_is (isolation_law limits run.events)

keeps_apart : (limits : List Limits) (events : List Event) → KeepsApart limits events (now_is limits events)
keeps_apart limits events = record {
  headline = headline_law limits events;
  every_seat = every_seat_law limits events;
  slices = slice_law (now_is limits events);
  session_is = session_law limits events;
  two_worlds = λ limits' events'. two_worlds_law limits limits' events events';
}

-- no user is felt by another
pub run_law : RunLaw
run_law limits calls w replies run = subst (KeepsApart limits run.events) run.world_is (keeps_apart limits run.events)
