-- A session with a private server, as one who answers the requests of a stream.
use Rattle.std.specs.Prelude.{if◌then◌else◌}
use Rattle.std.proofs.Common.{◌≡◌, inl, inr, arith, ◌||◌, ℕ, List, [], ◌∷◌, ◌++◌, Option, Bool, true, false, refl, sym, ◌∙◌, ap, append_assoc, append-nil, subst}
use Rattle.std.specs.List.{list_any}
use Rattle.std.proofs.lemmas.List.Folds.{list_any-append}
use Rattle.aud_text.specs.declared.limits.TheConstants.{STANDARD}
use Rattle.aud_bench.specs.declared.request.Request.{Request}
use Rattle.aud_bench.specs.declared.request.Answer.{Answer}
use Rattle.aud_bench.specs.declared.session.Session.{Session}
use Rattle.aud_bench.specs.Alone.{is_quit, answers_from, alone}
use Rattle.aud_bench.specs.Ties.Answered.{server, HasAnswered}
use Rattle.aud_lines.specs.Text.{answer_text, text_from, text}
use Rattle.aud_lines.specs.Ties.Begun.{nothing}
use Rattle.aud_lines.proofs.FeedLaws.{none_whole, of_nothing}
use Rattle.aud_solo.specs.Solo.{TellsAlone, StopsAtQuit}
use Rattle.aud_solo.specs.Ties.Serving.{HasGreeted, TellsNext, TellsNoMore, Stops}
use Rattle.aud_solo.specs.Ties.Sessions.{IsNew, session_words}

text_from-append : (some more : List Answer) → text_from (some ++ more) ≡ text_from some ++ text_from more
text_from-append [] more = refl
text_from-append (a ∷ some) more =
    ap (λ t. answer_text a ++ t) (text_from-append some more) ∙ sym (append_assoc (answer_text a) (text_from some) (text_from more))

-- the text of answers that stand behind others
text_behind : (some more : List Answer) → text (some ++ more) ≡ text some ++ text more
unfolding text
text_behind some more = text_from-append some more

pub text_one : (a : Answer) → text (a ∷ []) ≡ answer_text a
unfolding text
text_one a = append-nil (answer_text a)

pub text_none : text [] ≡ []
unfolding text
text_none = refl

pub greeted : (session : Session) → IsNew session → HasGreeted session_words [] session
unfolding alone text
greeted session (same, none, going) = record {
  is = record { limits_are = same; answered = none; says = refl; quit = going };
  tells = refl;
  going = going;
}

-- one request more is answered
module _ (session next : Session) (r : Request) (given : List Answer) where
  pub said_next : next.limits ≡ session.limits → next.over ≡ (session.over || is_quit r)
      → ((asked : List Request) → HasAnswered asked session → (alone session.limits (asked ++ r ∷ []) ≡ alone session.limits asked ++ given) × HasAnswered (asked ++ r ∷ []) next)
      → TellsNext session_words r session (text given) next
  said_next same over answers asked told h =
      let more = answers asked h.answered in
      let are : alone STANDARD (asked ++ r ∷ []) ≡ alone STANDARD asked ++ given =
      subst (λ limits. alone limits (asked ++ r ∷ []) ≡ alone limits asked ++ given) h.limits_are more.0 in
      let says : TellsAlone (asked ++ r ∷ []) (told ++ text given) =
      ap (λ t. t ++ text given) h.says ∙ sym (ap text are ∙ text_behind (alone STANDARD asked) given) in (
        record {
          limits_are = same ∙ h.limits_are;
          answered = more.1;
          says = says;
          quit = over ∙ ap (λ b. b || is_quit r) h.quit ∙ sym (list_any-append is_quit asked (r ∷ []) ∙ ap (λ b. list_any is_quit asked || b) (or_false (is_quit r)));
        },
        says,
      )
    where
      or_false : (b : Bool) → (b || false) ≡ b
      or_false true = refl
      or_false false = refl

-- behind a QUIT nothing is
pub over_says : (session : Session) → session.over ≡ true → TellsNoMore session_words session
over_says session over asked more told h = (
  record {
    limits_are = h.limits_are;
    answered = record {
      loaded = h.answered.loaded;
      is_loaded = h.answered.is_loaded;
      few = h.answered.few;
      time = h.answered.time;
      goes_on =
          λ others.
          ap (alone session.limits) (append_assoc asked more others)
          ∙ still (more ++ others)
          ∙ sym (still more)
          ∙ sym (behind (asked ++ more) others);
    };
    says = says;
    quit = over ∙ sym (list_any-append is_quit asked more ∙ ap (λ b. b || list_any is_quit more) (sym h.quit ∙ over));
  },
  says,
)
  where
    behind : (all others : List Request) → alone session.limits all ++ (if session.over then [] else answers_from session.limits (server session h.answered.loaded) others) ≡ alone session.limits all
    behind all others =
        ap (λ b. alone session.limits all ++ (if b then [] else answers_from session.limits (server session h.answered.loaded) others)) over
        ∙ append-nil (alone session.limits all)

    still : (others : List Request) → alone session.limits (asked ++ others) ≡ alone session.limits asked
    still others = h.answered.goes_on others ∙ behind asked others

    says : TellsAlone (asked ++ more) told
    says = h.says ∙ ap text (sym (subst (λ limits. alone limits (asked ++ more) ≡ alone limits asked) h.limits_are (still more)))

-- so it stops at a QUIT
pub stops_at : (left remaining before now : Option (List ℕ)) (old new : List (List ℕ)) → Stops session_words left remaining before now old new → StopsAtQuit left remaining old new
stops_at left remaining before now old new (inl none) = record {
  before = [];
  read = record { last = []; one = omega arith; reads = none.1 ∙ sym (append-nil old); taken = none.0; short = omega arith };
  goes_on = ap (list_any is_quit) (sym (of_nothing []) ∙ none_whole nothing refl);
}
stops_at left remaining before now old new (inr s) = record {
  before = s.pieces;
  read = s.read;
  goes_on = sym s.is.quit ∙ s.going;
}
