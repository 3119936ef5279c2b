-- What is told for one request more.
use Rattle.std.proofs.Common.{◌≡◌, ◌⊎◌, inl, inr, ◌||◌, ℕ, List, [], ◌∷◌, ◌++◌, length, Option, Some, None, Bool, true, false, refl, sym, ap, ◌∙◌, subst, append-nil, append_assoc}
use Rattle.std.specs.List.{concat, list_any}
use Rattle.std.proofs.lemmas.List.Folds.{list_any-append}
use Rattle.aud_text.specs.declared.limits.Limits.{Limits}
use Rattle.aud_bench.specs.declared.request.Request.{Request}
use Rattle.aud_bench.specs.declared.request.Request.TheVariants.{Seat}
use Rattle.aud_bench.specs.declared.request.Answer.{Answer}
use Rattle.aud_bench.specs.declared.request.Answer.TheVariants.{Done}
use Rattle.aud_bench.specs.Alone.{is_quit, alone}
use Rattle.aud_bench.specs.Seen.{has_quit}
use Rattle.aud_bench.proofs.Journals.{last_quits}
use Rattle.aud_bench.proofs.Sessions.{unfit_goes_on}
use Rattle.aud_bench.specs.Size.{bytes_of}
use Rattle.aud_lines.specs.Requests.{requests}
use Rattle.aud_lines.specs.Text.{answer_text}
use Rattle.aud_pass.specs.Passed.{Passed}
use Rattle.aud_solo.specs.Ties.Serving.{HasGreeted, Stops}
use Rattle.aud_connection.specs.declared.visit.Visit.{Visit}
use Rattle.aud_connection.specs.Greeting.{greeting}
use Rattle.aud_connection.specs.Told.{Told, Answered, Faulted, told_text, told_texts, all_answered, are_answers, Takes, HasNoRoom, IsTold}
use Rattle.aud_connection.specs.Served.{Waits, Talks, Greets, Tells, StopsAtQuit}
use Rattle.aud_connection.specs.Ties.Following.{Keeps}
use Rattle.aud_connection.specs.Ties.Visits.{Converses, Admits, RepliesBy, Replies}
use Rattle.aud_connection.specs.Ties.Words.{Goes, Seated, IsBy, IsNew, visit_words}
use Rattle.aud_connection.proofs.Following.{last_same, reply, keeps_none, over_still, keeps_over, taken_one, keeps_taken, full_one, keeps_full}
use Rattle.aud_connection.proofs.Fronts.{begins_none, begins_more, begins_on}
use Rattle.aud_connection.proofs.Texts.{texts_more, answered_more, answer_more, fault_more, refused_more, told_more, told_behind}

-- ---- a connection without a seat

module _ (seats : List Limits) where
  admitted : (asked : List Request) (text : List ℕ) (r : Request) (said : List ℕ) (after : Option Passed) (over : Bool) → Waits seats asked text → over ≡ false → Admits seats r said after → IsBy seats (asked ++ r ∷ []) (text ++ said) after over
  unfolding alone
  admitted asked text r said None over w none (t, refused, is) = (
    record {
      told = w.told ++ t ∷ [];
      refused = refused_more seats asked w.told r t w.refused refused;
      text_is = ap (λ x. x ++ said) w.text_is ∙ ap (λ x. told_texts w.told ++ x) is ∙ sym (texts_more w.told t);
    },
    none,
  )
  admitted asked text r said (Some p) over w none (number, r_is, is, new, seat_is) = record {
    talks = record {
      before = asked;
      number = number;
      limits = p.limits;
      after = [];
      refused = w.told;
      told = [];
      stored = [];
      asked_is = ap (λ x. asked ++ x ∷ []) r_is;
      seat_is = seat_is;
      refused_are = w.refused;
      text_is = ap (λ x. x ++ said) w.text_is ∙ ap (λ x. told_texts w.told ++ x) is ∙ sym (append-nil (told_texts w.told ++ answer_text Done));
      alone_is = λ _. refl;
      begins = begins_none p.limits [];
      each = refl;
    };
    limits = refl;
    sent = sym (ap (λ (x : Passed). x.sent) new);
    goes = λ _. record {
      follows = record { all = keeps_none p.limits; own = keeps_none p.limits };
      quit = λ e. never over none e;
    };
    ends = none;
  }
    where
      never : (b : Bool) → b ≡ false → b ≡ true → has_quit [] ≡ true
      never true h e = absurd (cc)
      never false h e = absurd (cc)

-- ---- a connection with one

-- what is known of what is stored, and the answer
pub record Next (limits : Limits) (after : List Request) (r : Request) (a : Answer) (next : List Request) : Type 0 where
  pub goes : Goes limits (after ++ r ∷ []) next (is_quit r)
  pub answer : alone limits (after ++ r ∷ []) ≡ alone limits after ++ a ∷ []

module _ (limits : Limits) (after sent : List Request) (over : Bool) (g : Goes limits after sent over) (r : Request) (next : List Request) (a : Answer) where
  next_taken : Takes limits sent r a next → Next limits after r a next
  next_taken t =
      let going = t.open_there in
      let own = taken_one limits sent sent g.follows.own r going t.room in
      let last : alone limits (sent ++ r ∷ []) ≡ t.front ++ a ∷ [] = ap (λ rs. alone limits rs) (sym t.stored) ∙ t.last in
      let same : (reply limits sent sent g.follows.own r going).answer ≡ a = last_same (alone limits sent) t.front (reply limits sent sent g.follows.own r going).answer a (sym own ∙ last) in
      record {
        goes = record {
          follows = record {
            all = subst (λ rs. Keeps limits (after ++ r ∷ []) rs) (sym t.stored) (keeps_taken limits after sent g.follows.all r going t.room);
            own = subst (λ rs. Keeps limits rs rs) (sym t.stored) (keeps_taken limits sent sent g.follows.own r going t.room);
          };
          quit = λ e. ap has_quit t.stored ∙ last_quits sent r going ∙ e;
        };
        answer = taken_one limits after sent g.follows.all r going t.room ∙ ap (λ x. alone limits after ++ x ∷ []) same;
      }

  next_refused : HasNoRoom sent r a next → Next limits after r a next
  next_refused t =
      let going = t.open_there in
      let stays : is_quit r ≡ false = unfit_goes_on (length sent) (bytes_of sent) r t.none in
      record {
        goes = record {
          follows = record {
            all = subst (λ rs. Keeps limits (after ++ r ∷ []) rs) (sym t.stored) (keeps_full limits after sent g.follows.all r going t.none);
            own = subst (λ rs. Keeps limits rs rs) (sym t.stored) g.follows.own;
          };
          quit = λ e. never (is_quit r) stays e;
        };
        answer = full_one limits after sent g.follows.all r going t.none ∙ ap (λ x. alone limits after ++ x ∷ []) (sym t.answer);
      }
    where
      never : (b : Bool) → b ≡ false → b ≡ true → has_quit next ≡ true
      never true h e = absurd (cc)
      never false h e = absurd (cc)

  next_answer : (Takes limits sent r a next ⊎ HasNoRoom sent r a next) → Next limits after r a next
  next_answer (inl t) = next_taken t
  next_answer (inr t) = next_refused t

module _ (seats : List Limits) (asked : List Request) (text : List ℕ) (r : Request) (said : List ℕ) (p : Passed) (over : Bool) (s : Seated seats asked text p over) (going : over ≡ false) where
  abbrev talks : Talks seats asked text
  talks = s.talks

  more_asked : asked ++ r ∷ [] ≡ talks.before ++ Seat talks.number ∷ (talks.after ++ r ∷ [])
  more_asked = ap (λ rs. rs ++ r ∷ []) talks.asked_is ∙ append_assoc talks.before (Seat talks.number ∷ talks.after) (r ∷ [])

  more_ends : is_quit r ≡ list_any is_quit (talks.after ++ r ∷ [])
  more_ends = sym (list_any-append is_quit talks.after (r ∷ []) ∙ ap (λ b. b || (is_quit r || false)) (sym s.ends ∙ going) ∙ or_false (is_quit r))
    where
      or_false : (b : Bool) → (b || false) ≡ b
      or_false true = refl
      or_false false = refl

  more_text : (t : Told) → said ≡ told_text t → text ++ said ≡ told_texts talks.refused ++ answer_text Done ++ told_texts (talks.told ++ t ∷ [])
  more_text t is =
      ap (λ x. x ++ said) talks.text_is
      ∙ append_assoc (told_texts talks.refused ++ answer_text Done) (told_texts talks.told) said
      ∙ ap (λ x. told_texts talks.refused ++ answer_text Done ++ (told_texts talks.told ++ x)) is
      ∙ ap (λ x. told_texts talks.refused ++ answer_text Done ++ x) (sym (texts_more talks.told t))

  module _ (q : Passed) (t : Told) (is : said ≡ told_text t) (limits_are : q.limits ≡ p.limits) (answer : IsTold talks.limits talks.stored r t q.sent) where
    -- one thing more is told; it is the answer of a private server where all is
    on_by : (alone_is : are_answers (talks.told ++ t ∷ []) ≡ true → talks.told ++ t ∷ [] ≡ all_answered (alone talks.limits (talks.after ++ r ∷ [])))
        → (are_answers (talks.told ++ t ∷ []) ≡ true → Goes talks.limits (talks.after ++ r ∷ []) q.sent (is_quit r)) → Seated seats (asked ++ r ∷ []) (text ++ said) q (is_quit r)
    on_by alone_is goes = record {
      talks = record {
        before = talks.before;
        number = talks.number;
        limits = talks.limits;
        after = talks.after ++ r ∷ [];
        refused = talks.refused;
        told = talks.told ++ t ∷ [];
        stored = q.sent;
        asked_is = more_asked;
        seat_is = talks.seat_is;
        refused_are = talks.refused_are;
        text_is = more_text t is;
        alone_is = alone_is;
        begins = begins_on talks.limits talks.after r talks.told t talks.begins alone_is;
        each = told_more talks.limits [] talks.after talks.told talks.stored r t q.sent (sym s.ends ∙ going) talks.each answer;
      };
      limits = s.limits ∙ sym limits_are;
      sent = refl;
      goes = goes;
      ends = more_ends;
    }

  -- what is stored there is what the pass has sent
  by_stored : (q : Passed) (t : Told) → Converses r p t q → IsTold talks.limits talks.stored r t q.sent
  by_stored q t (limits_are, answer) = subst (λ sent. IsTold talks.limits sent r t q.sent) (sym s.sent) (subst (λ l. IsTold l p.sent r t q.sent) (sym s.limits) answer)

  talked : (q : Passed) (t : Told) → said ≡ told_text t → Converses r p t q → Seated seats (asked ++ r ∷ []) (text ++ said) q (is_quit r)
  talked q (Faulted f) is c =
      on_by q (Faulted f) is c.0 (by_stored q (Faulted f) c)
      (λ e. absurd (unlike (are_answers (talks.told ++ Faulted f ∷ [])) (fault_more talks.told f) e))
      (λ e. absurd (unlike (are_answers (talks.told ++ Faulted f ∷ [])) (fault_more talks.told f) e))
    where
      unlike : (b : Bool) → b ≡ false → b ≡ true → ⊥
      unlike true h e = absurd (cc)
      unlike false h e = absurd (cc)
  talked q (Answered a) is c =
      let next : are_answers (talks.told ++ Answered a ∷ []) ≡ true → Next talks.limits talks.after r a q.sent =
      λ e. next_answer talks.limits talks.after talks.stored over (s.goes (sym (answer_more talks.told a) ∙ e)) r q.sent a (by_stored q (Answered a) c) in
      on_by q (Answered a) is c.0 (by_stored q (Answered a) c)
      (λ e. ap (λ told. told ++ Answered a ∷ []) (talks.alone_is (sym (answer_more talks.told a) ∙ e)) ∙ sym (answered_more (alone talks.limits talks.after) a) ∙ ap all_answered (sym (next e).answer))
      (λ e. (next e).goes)

module _ (seats : List Limits) (asked : List Request) (text : List ℕ) (p : Passed) (over : Bool) (s : Seated seats asked text p over) where
  abbrev talks' : Talks seats asked text
  talks' = s.talks

  -- behind its QUIT nothing is told
  pub talked_over : over ≡ true → (some : List Request) → Seated seats (asked ++ some) text p over
  talked_over is_over some = record {
    talks = record {
      before = talks'.before;
      number = talks'.number;
      limits = talks'.limits;
      after = talks'.after ++ some;
      refused = talks'.refused;
      told = talks'.told;
      stored = talks'.stored;
      asked_is = ap (λ rs. rs ++ some) talks'.asked_is ∙ append_assoc talks'.before (Seat talks'.number ∷ talks'.after) some;
      seat_is = talks'.seat_is;
      refused_are = talks'.refused_are;
      text_is = talks'.text_is;
      alone_is =
          λ e.
          let g = s.goes e in
          talks'.alone_is e ∙ ap all_answered (sym (over_still talks'.limits talks'.after talks'.stored g.follows.all (g.quit is_over) some));
      begins = begins_more talks'.limits talks'.after some talks'.told talks'.begins;
      each = told_behind talks'.limits [] talks'.after some talks'.told talks'.stored (sym s.ends ∙ is_over) talks'.each;
    };
    limits = s.limits;
    sent = s.sent;
    goes =
        λ e.
        let g = s.goes e in
        record {
          follows = record {
            all = keeps_over talks'.limits talks'.after talks'.stored g.follows.all (g.quit is_over) some;
            own = g.follows.own;
          };
          quit = g.quit;
        };
    ends = is_over ∙ sym (list_any-append is_quit talks'.after some ∙ ap (λ b. b || list_any is_quit some) (sym s.ends ∙ is_over));
  }

-- ---- any connection

module _ (seats : List Limits) where
  is_next : (asked : List Request) (text : List ℕ) (r : Request) (said : List ℕ) (before after : Option Passed) (old new : Bool) → IsBy seats asked text before old → old ≡ false → RepliesBy seats r before said after old new → IsBy seats (asked ++ r ∷ []) (text ++ said) after new
  is_next asked text r said None after old new (w, none) going (admits, same) = admitted seats asked text r said after new w (same ∙ going) admits
  is_next asked text r said (Some p) None old new s going (on, same) = absurd on
  is_next asked text r said (Some p) (Some q) old new s going ((t, is, c), same) =
      subst (λ b. Seated seats (asked ++ r ∷ []) (text ++ said) q b) (sym same) (talked seats asked text r said p old s going q t is c)

  is_over : (asked : List Request) (text : List ℕ) (o : Option Passed) (over : Bool) → IsBy seats asked text o over → over ≡ true → (some : List Request) → IsBy seats (asked ++ some) text o over
  is_over asked text None over (w, none) e some = absurd (cc)
  is_over asked text (Some p) over s e some = talked_over seats asked text p over s e some

  tells_of : (asked : List Request) (text : List ℕ) (o : Option Passed) (over : Bool) → IsBy seats asked text o over → Waits seats asked text ⊎ Talks seats asked text
  tells_of asked text None over (w, none) = inl w
  tells_of asked text (Some p) over s = inr s.talks

  -- the greeting stands before all that is told
  greets_more : (text said : List ℕ) {holds holds' : List ℕ → Type 0} → ((rest : List ℕ) → holds rest → holds' (rest ++ said)) → Greets seats text holds → Greets seats (text ++ said) holds'
  greets_more text said on g = record {
    rest = g.rest ++ said;
    text_is = ap (λ x. x ++ said) g.text_is ∙ append_assoc (greeting seats) g.rest said;
    is = on g.rest g.is;
  }

  greets_so : (text : List ℕ) {holds holds' : List ℕ → Type 0} → ((rest : List ℕ) → holds rest → holds' rest) → Greets seats text holds → Greets seats text holds'
  greets_so text on g = record { rest = g.rest; text_is = g.text_is; is = on g.rest g.is }

  module _ (visit : Visit) where
    abbrev has_told : List Request → List ℕ → Visit → Type 0
    has_told asked text v = Greets seats text (λ rest. IsBy seats asked rest v.pass v.over)

    pub told_next : (next : Visit) (r : Request) (said : List ℕ) → visit.over ≡ false → Replies seats r visit said next →
        (asked : List Request) (text : List ℕ) → has_told asked text visit → has_told (asked ++ r ∷ []) (text ++ said) next × Tells seats (asked ++ r ∷ []) (text ++ said)
    told_next next r said going replies asked text told =
        let is = greets_more text said (λ rest is. is_next asked rest r said visit.pass next.pass visit.over next.over is going replies) told in
        (is, greets_so (text ++ said) (λ rest is. tells_of (asked ++ r ∷ []) rest next.pass next.over is) is)

    pub told_still : visit.over ≡ true → (asked more : List Request) (text : List ℕ) → has_told asked text visit → has_told (asked ++ more) text visit × Tells seats (asked ++ more) text
    told_still over asked more text told =
        let is = greets_so text (λ rest is. is_over asked rest visit.pass visit.over is over more) told in
        (is, greets_so text (λ rest is. tells_of (asked ++ more) rest visit.pass visit.over is) is)

  -- nothing was asked yet
  pub greeted : {S : Type 0} (visit : S → Visit) (s : S) (text : List ℕ) → text ≡ greeting seats → IsNew (visit s) → HasGreeted (visit_words seats visit) text s
  greeted visit s text is (none, going) =
      let nothing : Waits seats [] [] = record { told = []; refused = tt; text_is = refl } in
      let all : text ≡ greeting seats ++ [] = is ∙ sym (append-nil (greeting seats)) in
      record {
        is = record { rest = []; text_is = all; is = subst (λ (o : Option Passed). IsBy seats [] [] o (visit s).over) (sym none) (nothing, going) };
        tells = record { rest = []; text_is = all; is = inl nothing };
        going = going;
      }

  -- so it stops at the QUIT of a seat
  pub stops_at : {S : Type 0} (visit : S → Visit) (left remaining before now : Option (List ℕ)) (old new : List (List ℕ)) → Stops (visit_words seats visit) left remaining before now old new → StopsAtQuit seats left remaining before now old new
  stops_at visit left remaining before now old new (inl none) = inl none
  stops_at visit left remaining before now old new (inr s) =
      inr (record {
        pieces = s.pieces;
        read = s.read;
        told = s.told;
        goes_on = greets_so s.told (λ rest is. by rest (visit s.state).pass (visit s.state).over is s.going) s.is;
        written = s.written;
      })
    where
      by : (rest : List ℕ) (o : Option Passed) (over : Bool) → IsBy seats (requests (concat s.pieces)) rest o over → over ≡ false → Waits seats (requests (concat s.pieces)) rest ⊎ ((talks : Talks seats (requests (concat s.pieces)) rest) × (list_any is_quit talks.after ≡ false))
      by rest None over (w, none) going = inl w
      by rest (Some p) over seated going = inr (seated.talks, sym seated.ends ∙ going)
