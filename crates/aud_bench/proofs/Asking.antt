-- A session answers one request more.
use Rattle.std.specs.Prelude.{if◌then◌else◌}
use Rattle.std.proofs.Common.{◌≡◌, ◌+◌, ◌≤◌, List, [], ◌∷◌, ◌++◌, Option, Bool, true, false, refl, sym, ap, ◌∙◌, arith, append_assoc}
use Rattle.aud_text.specs.declared.refusal.Refusal.TheVariants as refusal
use Rattle.aud_text.specs.declared.limits.TheConstants.{REQUESTS}
use Rattle.aud_machine.specs.Shown.{Shown}
use Rattle.aud_bench.specs.declared.request.Request.{Request}
use Rattle.aud_bench.specs.declared.request.Answer.{Answer}
use Rattle.aud_bench.specs.declared.request.Answer.TheVariants as answer
use Rattle.aud_bench.specs.declared.session.Session.{Session}
use Rattle.aud_bench.specs.Size.{size}
use Rattle.aud_bench.specs.Alone.{Server, is_quit, fits, kept, replied, answers_from, alone}
use Rattle.aud_bench.specs.Ties.Answered.{server, HasAnswered}
use Rattle.aud_bench.specs.Ties.Serving.{Replies}
use Rattle.aud_bench.specs.Ties.Times.{HasRoom, is_brief}
use Rattle.aud_bench.proofs.Sessions.{not_kept, last_one, goes_on}
use Rattle.aud_bench.proofs.Times.{reply_time, room_of}

module _ (asked : List Request) (s : Session) (r : Request) (has : HasAnswered asked s) (going : s.over ≡ false) where
  abbrev now : Server
  now = server s has.loaded

  behind : (more : List Request) → alone s.limits (asked ++ more) ≡ alone s.limits asked ++ answers_from s.limits now more
  behind more = has.goes_on more ∙ ap (λ (b : Bool). alone s.limits asked ++ (if b then [] else answers_from s.limits now more)) going

  pub with_room : HasRoom r has.loaded
  with_room = room_of r has.loaded (omega (arith, has.few, has.time going))

  -- the answer to it, and those behind it
  module _ (one : Answer) (rest : List Request → List Answer) (is : (more : List Request) → answers_from s.limits now (r ∷ more) ≡ one ∷ rest more) (none : rest [] ≡ []) where
    first : alone s.limits (asked ++ r ∷ []) ≡ alone s.limits asked ++ one ∷ []
    first = behind (r ∷ []) ∙ ap (λ xs. alone s.limits asked ++ xs) (is [] ∙ ap (λ xs. one ∷ xs) none)

    others : (more : List Request) → alone s.limits ((asked ++ r ∷ []) ++ more) ≡ alone s.limits (asked ++ r ∷ []) ++ rest more
    others more =
        ap (alone s.limits) (append_assoc asked (r ∷ []) more)
        ∙ behind (r ∷ more)
        ∙ ap (λ xs. alone s.limits asked ++ xs) (is more)
        ∙ sym (append_assoc (alone s.limits asked) (one ∷ []) (rest more))
        ∙ ap (λ xs. xs ++ rest more) (sym first)

  -- it does not fit
  pub unfit : fits s.requests s.bytes r ≡ false → (alone s.limits (asked ++ r ∷ []) ≡ alone s.limits asked ++ answer.Refused refusal.JournalFull ∷ []) × HasAnswered (asked ++ r ∷ []) s
  unfit none =
      let is : (more : List Request) → answers_from s.limits now (r ∷ more) ≡ answer.Refused refusal.JournalFull ∷ answers_from s.limits now more = λ more. not_kept s.limits now r more none in (
        first (answer.Refused refusal.JournalFull) (answers_from s.limits now) is refl,
        record {
          loaded = has.loaded;
          is_loaded = has.is_loaded;
          few = has.few;
          time = has.time;
          goes_on = λ more.
              others (answer.Refused refusal.JournalFull) (answers_from s.limits now) is refl more
              ∙ ap (λ xs. alone s.limits (asked ++ r ∷ []) ++ xs) (sym (ap (λ (b : Bool). if b then [] else answers_from s.limits now more) going));
        },
      )

  module _ (fitting : fits s.requests s.bytes r ≡ true) (machine : Option Shown) (a : Answer) (replies : Replies s.limits a machine (replied s.limits has.loaded r)) where
    -- it ends the session
    pub last : is_quit r ≡ true → (alone s.limits (asked ++ r ∷ []) ≡ alone s.limits asked ++ a ∷ []) × HasAnswered (asked ++ r ∷ []) (record s { machine = machine; over = true })
    last quits =
        let is : (more : List Request) → answers_from s.limits now (r ∷ more) ≡ a ∷ [] = λ more. last_one s.limits now r more fitting quits ∙ ap (λ x. x ∷ []) (sym replies.answer_is) in (
          first a (λ more. []) is refl,
          record {
            loaded = (replied s.limits has.loaded r).loaded;
            is_loaded = replies.loaded;
            few = has.few;
            time = λ closed. absurd (cc);
            goes_on = others a (λ more. []) is refl;
          },
        )

    -- it is kept
    pub next : is_quit r ≡ false → s.requests + 1 ≤ REQUESTS → is_brief r ≡ true
        → (alone s.limits (asked ++ r ∷ []) ≡ alone s.limits asked ++ a ∷ []) × HasAnswered (asked ++ r ∷ []) (record s { machine = machine; requests = s.requests + 1; bytes = s.bytes + size r })
    next stays few brief =
        let reply = replied s.limits has.loaded r in
        let is : (more : List Request) → answers_from s.limits now (r ∷ more) ≡ a ∷ answers_from s.limits (kept now r reply.loaded) more =
        λ more. goes_on s.limits now r more fitting stays ∙ ap (λ x. x ∷ answers_from s.limits (kept now r reply.loaded) more) (sym replies.answer_is) in (
          first a (answers_from s.limits (kept now r reply.loaded)) is refl,
          record {
            loaded = reply.loaded;
            is_loaded = replies.loaded;
            few = few;
            time = λ still. omega (arith, has.time going, reply_time s.limits r has.loaded brief);
            goes_on = λ more.
                others a (answers_from s.limits (kept now r reply.loaded)) is refl more
                ∙ ap (λ xs. alone s.limits (asked ++ r ∷ []) ++ xs) (sym (ap (λ (b : Bool). if b then [] else answers_from s.limits (kept now r reply.loaded) more) going));
          },
        )
