-- Whoever answers requests as they come, and what is written of it.
use Rattle.std.proofs.Common.{◌≡◌, inl, inr, not, ℕ, ◌+◌, ◌<◌, ◌≤◌, List, [], ◌∷◌, ◌++◌, length, take, drop, get_or, Option, Some, None, Bool, true, false, arith, refl, sym, ◌∙◌, ap, append_assoc, append-nil, subst}
use Rattle.std.proofs.lemmas.List.{take_more, take-append-drop}
use Rattle.std.specs.Prelude.{Result, IfSome, OnOk}
use Rattle.std.specs.Io.KnownBytes.{Appends, Consumes, IsAtEnd}
use Rattle.std.specs.List.{concat}
use Rattle.aud_bench.specs.declared.request.Request.{Request}
use Rattle.aud_lines.specs.Ties.Begun.{Begun, nothing, requests_behind}
use Rattle.aud_lines.specs.Ties.Splits.{Splits}
use Rattle.aud_lines.specs.Requests.{requests}
use Rattle.aud_lines.proofs.FeedLaws.{fed_more, fed_all, none_whole, of_nothing}
use Rattle.aud_solo.specs.declared.serving.ServeFault.{ServeFault}
use Rattle.aud_solo.specs.declared.serving.TheConstants.{PIECE}
use Rattle.aud_solo.specs.Serving.{Telling, HasRead, TellsSome, WritesAll, WritesCut, WritesPart, memory_text}
use Rattle.aud_solo.specs.Streams.{Grows, AppendsPrefix}
use Rattle.aud_solo.specs.Ties.Serving.{Words, TellsNext, TellsNoMore, HasTold, TellsTo, WritesSome, WritesPrefix, HasServed, StopsIn, Stops, GoesOn}
use Rattle.aud_solo.proofs.StreamLaws.{appends_more, grows_none, first_grown, first_more, consumes_none, consumes_more, concat_more, reads_more}

-- ---- of several requests the one at i

pub up_to : (asked rs : List Request) (i : ℕ) (r : Request) → i < length rs → r ≡ get_or rs i r → asked ++ take (i + 1) rs ≡ (asked ++ take i rs) ++ r ∷ []
up_to asked rs i r below is =
    ap (λ xs. asked ++ xs) (take_more rs i r below ∙ ap (λ x. take i rs ++ x ∷ []) (sym is)) ∙ sym (append_assoc asked (take i rs) (r ∷ []))

pub all_of : (asked rs : List Request) (i : ℕ) (r : Request) → i < length rs → r ≡ get_or rs i r → ((asked ++ take i rs) ++ r ∷ []) ++ drop (i + 1) rs ≡ asked ++ rs
all_of asked rs i r below is =
    ap (λ xs. xs ++ drop (i + 1) rs) (sym (up_to asked rs i r below is))
    ∙ append_assoc asked (take (i + 1) rs) (drop (i + 1) rs)
    ∙ ap (λ xs. asked ++ xs) (take-append-drop (i + 1) rs)

-- ---- prefixes, and then that memory is out

pub stops_more : {S : Type 0} (words : Words S) (left remaining before middle now : Option (List ℕ)) (old new : List (List ℕ)) → Stops words left remaining before middle old new → Grows middle now → Stops words left remaining before now old new
stops_more words left remaining before middle now old new (inl none) grows = inl none
stops_more words left remaining before middle now old new (inr s) grows = inr (record {
  pieces = s.pieces;
  read = s.read;
  told = s.told;
  state = s.state;
  is = s.is;
  going = s.going;
  written = first_more before middle now s.told s.written grows;
})

module _ (tells : Telling) where
  some_more : (some more all : List Request) (said : List ℕ) → some ++ more ≡ all → TellsSome tells some said → TellsSome tells all said
  some_more some more all said is (inl none) = inl none
  some_more some more all said is (inr (front, rest, e, told)) = inr (front, rest ++ more, sym is ∙ ap (λ rs. rs ++ more) e ∙ append_assoc front rest more, told)

  pub cut : (before middle new : Option (List ℕ)) (asked : List Request) (said : List ℕ) → said ≡ memory_text → WritesSome tells before middle asked → Appends middle new said → WritesCut tells before new asked
  cut before middle new asked said is (told, some, k) j =
      (told, some, appends_more before middle new told memory_text k (subst (Appends middle new) is j))

  pub cut_part : (before middle new : Option (List ℕ)) (asked : List Request) (said : List ℕ) → said ≡ memory_text → WritesSome tells before middle asked → AppendsPrefix middle new said → WritesPart tells before new asked
  cut_part before middle new asked said is (told, some, k) (xs, ys, j, f) =
      (told, some, inr (told ++ xs, ys, appends_more before middle new told xs k j, ap (λ t. told ++ t) (sym is ∙ f) ∙ sym (append_assoc told xs ys)))

  pub part : (before new : Option (List ℕ)) (asked : List Request) → WritesPrefix tells before new asked → WritesPart tells before new asked
  part before new asked (told, some, front) = (told, some, inl front)

module _ {S : Type 0} (words : Words S) where
  -- ---- one request more

  module _ (before old : Option (List ℕ)) (asked : List Request) (state : S) (h : HasTold words before old asked state) where
    -- nothing is written of what is told for more
    pub some_told : (more : List Request) → WritesSome words.tells before old (asked ++ more)
    some_told more = (h.told, inr (asked, more, refl, h.tells), h.written)

    pub told_still : TellsNoMore words state → (more : List Request) → HasTold words before old (asked ++ more) state
    told_still none more = let still = none asked more h.told h.is in record { told = h.told; is = still.0; tells = still.1; written = h.written }

    module _ (r : Request) (said : List ℕ) (next : S) (more : TellsNext words r state said next) where
      pub told_next : (new : Option (List ℕ)) → Appends old new said → HasTold words before new (asked ++ r ∷ []) next
      told_next new k =
          let is = more asked h.told h.is in
          record { told = h.told ++ said; is = is.0; tells = is.1; written = appends_more before old new h.told said h.written k }

      pub front_told : (new : Option (List ℕ)) → AppendsPrefix old new said → WritesPrefix words.tells before new (asked ++ r ∷ [])
      front_told new (xs, ys, k, f) = (
        h.told ++ said,
        inr (asked ++ r ∷ [], [], sym (append-nil (asked ++ r ∷ [])), (more asked h.told h.is).1),
        (h.told ++ xs, ys, appends_more before old new h.told xs h.written k, ap (λ t. h.told ++ t) f ∙ sym (append_assoc h.told xs ys)),
      )

  -- where it ends at some of the requests, it ends so at all of them
  pub tells_all : {A : Type 0} (r : Result A ServeFault) (before now : Option (List ℕ)) (some more all : List Request) (state next : S) →
      some ++ more ≡ all → OnOk r (HasTold words before now all next) → TellsTo words r before now some state → TellsTo words r before now all next
  tells_all r before now some more all state next is ok t = record {
    all = ok;
    memory = λ e. let w = t.memory e in (w.0, some_more words.tells some more all w.0 is w.1, w.2);
    write = λ e. let w = t.write e in (w.0, some_more words.tells some more all w.0 is w.1, w.2);
  }

  -- ---- bytes read

  pub served_start : (left before now : Option (List ℕ)) (old : List (List ℕ)) (feed : Begun) (state : S) → feed ≡ nothing → HasTold words before now [] state → HasServed words left left before now old old feed state
  served_start left before now old feed state empty told = record {
    pieces = [];
    input = [];
    asked = [];
    reads = sym (append-nil old);
    input_is = refl;
    taken = consumes_none left;
    fed = λ more. sym (of_nothing more) ∙ ap (λ begun. requests_behind begun more) (sym empty);
    begun = ap (λ begun. requests_behind begun []) empty ∙ none_whole nothing refl;
    told = told;
  }

  -- where it ends at the greeting, nothing is read
  none_asked : [] ≡ requests []
  none_asked = sym (none_whole nothing refl) ∙ of_nothing []

  pub some_unread : (left before now : Option (List ℕ)) → WritesSome words.tells before now [] → HasRead left left (λ input. WritesSome words.tells before now (requests input))
  some_unread left before now w = ([], consumes_none left, subst (WritesSome words.tells before now) none_asked w)

  pub front_unread : (left before now : Option (List ℕ)) → WritesPrefix words.tells before now [] → HasRead left left (λ input. WritesPrefix words.tells before now (requests input))
  front_unread left before now w = ([], consumes_none left, subst (WritesPrefix words.tells before now) none_asked w)

  -- whether a turn is due
  pub due : (over : Bool) (state : S) (remaining : Option (List ℕ)) → over ≡ words.over state → (over ≡ true → TellsNoMore words state) → GoesOn words (not over) state remaining
  due true state remaining is none = inl (none refl)
  due false state remaining is none = sym is

  pub goes_of : (on : Bool) (state : S) (remaining : Option (List ℕ)) → GoesOn words on state remaining → on ≡ true → words.over state ≡ false
  goes_of true state remaining going on = going
  goes_of false state remaining going on = absurd (cc)

  module _ (left remaining before now : Option (List ℕ)) (old middle : List (List ℕ)) (feed : Begun) (state : S) (h : HasServed words left remaining before now old middle feed state) where
    asked_all : requests h.input ≡ h.asked
    asked_all =
        ap requests (sym (append-nil h.input))
        ∙ h.fed []
        ∙ ap (λ rs. h.asked ++ rs) h.begun
        ∙ append-nil h.asked

    -- all that is told for what was read is written
    pub wrote_all : WritesAll words.tells before now (requests h.input)
    wrote_all = subst (WritesAll words.tells before now) (sym asked_all) (h.told.told, h.told.tells, h.told.written)

    -- one who goes on reads a piece more, and nothing more
    told_so : words.has_told (requests (concat h.pieces)) h.told.told state
    told_so = subst (λ rs. words.has_told rs h.told.told state) (sym asked_all ∙ ap requests h.input_is) h.told.is

    pub stops_behind : words.over state ≡ false → (rest now' : Option (List ℕ)) (new : List (List ℕ)) (piece : List ℕ) → Consumes remaining rest piece → new ≡ middle ++ piece ∷ [] → Grows now now' → length piece ≤ PIECE → StopsIn words left rest before now' old new
    stops_behind going rest now' new piece taken read grows short = record {
      pieces = h.pieces;
      read = record {
        last = piece ∷ [];
        one = omega arith;
        reads = reads_more old middle new h.pieces piece h.reads read;
        taken = subst (Consumes left rest) (ap (λ t. t ++ piece) h.input_is ∙ sym (concat_more h.pieces piece)) (consumes_more left remaining rest h.input piece h.taken taken);
        short = subst (λ (t : List ℕ). length t ≤ PIECE) (sym (append-nil piece)) short;
      };
      told = h.told.told;
      state = state;
      is = told_so;
      going = going;
      written = first_grown before now now' h.told.told h.told.written grows;
    }

    -- or nothing more at all
    pub stops_here : words.over state ≡ false → StopsIn words left remaining before now old middle
    stops_here going = record {
      pieces = h.pieces;
      read = record {
        last = [];
        one = omega arith;
        reads = h.reads ∙ ap (λ t. old ++ t) (sym (append-nil h.pieces));
        taken = subst (Consumes left remaining) (h.input_is ∙ ap concat (sym (append-nil h.pieces))) h.taken;
        short = omega arith;
      };
      told = h.told.told;
      state = state;
      is = told_so;
      going = going;
      written = first_grown before now now h.told.told h.told.written (grows_none now);
    }

    -- a read brought nothing
    pub served_still : (rest : Option (List ℕ)) (new : List (List ℕ)) → Consumes remaining rest [] → new ≡ middle ++ [] ∷ [] → HasServed words left rest before now old new feed state
    served_still rest new none read = record {
      pieces = h.pieces ++ [] ∷ [];
      input = h.input;
      asked = h.asked;
      reads = reads_more old middle new h.pieces [] h.reads read;
      input_is = h.input_is ∙ sym (append-nil (concat h.pieces)) ∙ sym (concat_more h.pieces []);
      taken = subst (Consumes left rest) (append-nil h.input) (consumes_more left remaining rest h.input [] h.taken none);
      fed = h.fed;
      begun = h.begun;
      told = h.told;
    }

    -- where nothing more is told, all is written, whatever is left
    over_known : TellsNoMore words state → IfSome left (λ all. WritesAll words.tells before now (requests all))
    over_known none = by left remaining h.taken
      where
        by : (old new : Option (List ℕ)) → Consumes old new h.input → IfSome old (λ all. WritesAll words.tells before now (requests all))
        by None new taken = tt
        by (Some all) None taken = absurd taken
        by (Some all) (Some rest) taken =
            let t = told_still before now h.asked state h.told none (requests_behind feed rest) in
            let whole : requests all ≡ h.asked ++ requests_behind feed rest = ap requests taken ∙ h.fed rest in
            subst (WritesAll words.tells before now) (sym whole) (t.told, t.tells, t.written)

    -- at the end all that was left is read
    end_known : IsAtEnd remaining → IfSome left (λ all. WritesAll words.tells before now (requests all))
    end_known end = by left remaining h.taken end
      where
        by : (old new : Option (List ℕ)) → Consumes old new h.input → IsAtEnd new → IfSome old (λ all. WritesAll words.tells before now (requests all))
        by None new taken end = tt
        by (Some all) None taken end = absurd taken
        by (Some all) (Some rest) taken end =
            let whole : h.input ≡ all = sym (taken ∙ ap (λ xs. h.input ++ xs) end ∙ append-nil h.input) in
            subst (λ xs. WritesAll words.tells before now (requests xs)) whole wrote_all

    -- so all is written where no other turn is due
    pub ended_known : (on : Bool) → GoesOn words on state remaining → on ≡ false → IfSome left (λ all. WritesAll words.tells before now (requests all))
    ended_known true goes_on ended = absurd (cc)
    ended_known false (inl none) ended = over_known none
    ended_known false (inr end) ended = end_known end

    -- bytes more, of which some requests are whole
    module _ (piece : List ℕ) (next : Begun) (given : List Request) (split : Splits feed piece given next) where
      given_all : requests (h.input ++ piece) ≡ h.asked ++ given
      given_all = h.fed piece ∙ ap (λ rs. h.asked ++ rs) (fed_all feed piece next given split)

      pub some_given : (new : Option (List ℕ)) → WritesSome words.tells before new (h.asked ++ given) → WritesSome words.tells before new (requests (h.input ++ piece))
      some_given new = subst (WritesSome words.tells before new) (sym given_all)

      pub front_given : (new : Option (List ℕ)) → WritesPrefix words.tells before new (h.asked ++ given) → WritesPrefix words.tells before new (requests (h.input ++ piece))
      front_given new = subst (WritesPrefix words.tells before new) (sym given_all)

      pub served_more : (rest now' : Option (List ℕ)) (new : List (List ℕ)) (state' : S) → Consumes remaining rest piece → new ≡ middle ++ piece ∷ [] → HasTold words before now' (h.asked ++ given) state' → HasServed words left rest before now' old new next state'
      served_more rest now' new state' taken read told = record {
        pieces = h.pieces ++ piece ∷ [];
        input = h.input ++ piece;
        asked = h.asked ++ given;
        reads = reads_more old middle new h.pieces piece h.reads read;
        input_is = ap (λ t. t ++ piece) h.input_is ∙ sym (concat_more h.pieces piece);
        taken = consumes_more left remaining rest h.input piece h.taken taken;
        fed = fed_more h.input piece feed next h.asked given h.fed split;
        begun = split.none;
        told = told;
      }

    -- bytes more that were not looked at
    pub some_read : (piece : List ℕ) → WritesSome words.tells before now (requests (h.input ++ piece))
    some_read piece = subst (WritesSome words.tells before now) (sym (h.fed piece)) (some_told before now h.asked state h.told (requests_behind feed piece))
