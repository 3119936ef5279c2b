-- What a bench has made, and how a request more and more work change that. Where the work stands is known as a fact with one proof
-- at most, so each of these facts has one, too.
use Rattle.std.proofs.Common.{◌≡◌, ℕ, ◌+◌, ◌-◌, ◌<◌, ◌≤◌, List, [], ◌∷◌, ◌++◌, length, take, drop, get_or, Option, Some, None, Bool, true, false, refl, sym, ap, ◌∙◌, subst, arith, append-nil, length-append, length-drop}
use Rattle.std.proofs.Math.Logic.{∥∥₁_elim, ∥∥₁_map}
use Rattle.std.proofs.lemmas.List.{take-append-le, drop-append-le, take_all, drop_all, take_more, drop_more, drop-drop, length-take-le}
use Rattle.std.specs.Coded.{Coded-set, coded_list, coded_ℕ}
use native.Mathlib.Bridge.{le_prop}
use Rattle.aud_text.specs.declared.refusal.Refusal.TheVariants.{OutOfMemory}
use Rattle.aud_text.specs.declared.limits.Limits.{Limits}
use Rattle.aud_machine.specs.Shown.{Shown}
use Rattle.aud_bench.specs.declared.request.Request.{Request}
use Rattle.aud_bench.specs.declared.request.Answer.{Answer}
use Rattle.aud_bench.specs.declared.request.Answer.TheVariants.{Refused}
use Rattle.aud_bench.specs.contracts.request.Answer as contract
use Rattle.aud_bench.specs.declared.service.Served.{Served}
use Rattle.aud_bench.specs.Alone.{replied, cost_from, cost, made}
use Rattle.aud_bench.specs.Ties.Serving.{UnderWay, ServesBy, GoesOn}
use Rattle.aud_bench.specs.Seen.{Seen, told, unanswered, answers_of, untaken}
use Rattle.aud_bench.specs.Ties.Kept.{is_kept}
use Rattle.aud_bench.specs.Ties.Times.{HasRoom, are_brief}
use Rattle.aud_bench.specs.Ties.Standing.{loaded_after, answers_to, units_done, AtFirst, answers_at, IsAt}
use Rattle.aud_bench.proofs.Made.{length_answers}
use Rattle.aud_bench.proofs.Times.{has_time, room_of}
use Rattle.aud_bench.proofs.Standing.{cost_append, opens, still_first, loaded_append, answers_append, made_is, units_within}

answers_prop : (xs ys : List Answer) → IsProp (xs ≡ ys)
answers_prop xs ys = Coded-set (coded_list contract.the_row.coded) xs ys

number_prop : (m n : ℕ) → IsProp (m ≡ n)
number_prop m n = Coded-set coded_ℕ m n

told_one : (spent : Bool) → length (told spent) ≤ 1
told_one false = omega arith
told_one true = omega arith

next_request : (journal : List Request) (i : ℕ) (r : Request) → r ≡ get_or journal i r → i < length journal → drop i journal ≡ r ∷ drop (i + 1) journal
next_request journal i r is below = drop_more journal i r below ∙ ap (λ x. x ∷ drop (i + 1) journal) (sym is)

one_more : (journal : List Request) (i : ℕ) (r : Request) → r ≡ get_or journal i r → i < length journal → take (i + 1) journal ≡ take i journal ++ r ∷ []
one_more journal i r is below = take_more journal i r below ∙ ap (λ x. take i journal ++ x ∷ []) (sym is)

module _ (limits : Limits) (journal : List Request) (i p t : ℕ) (answers : List Answer) (spent : Bool) (machine : Option Shown) (at : ∥ IsAt limits journal i p t answers spent machine ∥₁) where
  -- the answers at hand are those that the units come to, and behind them, where memory is refused, that it is; without those taken out
  answers_are : answers ≡ drop t (made limits journal (units_done limits journal i p) ++ told spent)
  answers_are = ∥∥₁_elim at (answers_prop _ _) (λ a. a.answers_are ∙ ap (λ xs. drop t (xs ++ told spent)) (sym (made_is limits journal i p a.shown a.next)))

  taken_is : t ≤ length (made limits journal (units_done limits journal i p) ++ told spent)
  taken_is = ∥∥₁_elim at le_prop (λ a. omega (arith, a.taken_within, ap (λ xs. length (xs ++ told spent)) (made_is limits journal i p a.shown a.next)))

  -- how its callers see it
  abbrev pub seen : Seen
  seen = record { limits = limits; journal = journal; units = units_done limits journal i p; taken = t; spent = spent }

  pub held : (b : Seen) → seen ≡ b → answers ≡ untaken b
  held b is = answers_are ∙ ap untaken is

  count_is : t + length answers ≡ length (answers_of seen)
  count_is = omega (arith, taken_is, ap length answers_are, length-drop t (answers_of seen))

  pub all_made : (b : Seen) → seen ≡ b → t + length answers ≡ length (answers_of b)
  all_made b is = count_is ∙ ap (λ (c : Seen). length (answers_of c)) is

  -- the answers from one of them on that was not taken out
  pub from_is : (b : Seen) → seen ≡ b → (from : ℕ) → b.taken ≤ from → drop (from - t) answers ≡ drop from (answers_of b)
  from_is b is from within =
      let same : t ≡ b.taken = ap (λ (c : Seen). c.taken) is in
      let e : t + (from - t) ≡ from = omega (arith, same, within) in
      ap (drop (from - t)) answers_are ∙ drop-drop (from - t) t (answers_of seen) ∙ ap (λ n. drop n (answers_of seen)) e ∙ ap (λ (c : Seen). drop from (answers_of c)) is

  pub known_is : i ≤ length journal
  known_is = ∥∥₁_elim at le_prop (λ a. a.known)

  made_length : length (made limits journal (units_done limits journal i p)) ≡ i
  made_length =
      ∥∥₁_elim at (number_prop _ _)
      (λ a. ap length (made_is limits journal i p a.shown a.next) ∙ length_answers limits None (take i journal) ∙ length-take-le i journal a.known)

  all_length : t + length answers ≡ i + length (told spent)
  all_length = count_is ∙ length-append (made limits journal (units_done limits journal i p)) (told spent) ∙ ap (λ n. n + length (told spent)) made_length

  -- there are not many more answers than requests
  pub count_within : t + length answers ≤ length journal + 1
  count_within = omega (arith, all_length, told_one spent, known_is)

  pub left_is : length journal - i ≡ length journal - length (made limits journal (units_done limits journal i p))
  left_is = ap (λ n. length journal - n) (sym made_length)

  pub within_is : units_done limits journal i p ≤ cost limits journal
  within_is = ∥∥₁_elim at le_prop (λ a. units_within limits journal i p a.shown a.next)

  -- nothing is left to do
  pub whole_is : length journal - i ≡ 0 → units_done limits journal i p ≡ cost limits journal
  whole_is none =
      ∥∥₁_elim at (number_prop _ _)
      (λ a.
      let all : length journal ≤ i = omega (arith, none, a.known) in
      let next : AtFirst limits (loaded_after limits None (take i journal)) [] p a.shown =
      subst (λ rest. AtFirst limits (loaded_after limits None (take i journal)) rest p a.shown) (drop_all i journal all) a.next in
      omega (arith, next.0, ap (cost limits) (take_all i journal all)))

  length_is : spent ≡ false → t + length answers ≡ i
  length_is alive =
      let none : length (told spent) ≡ 0 = ap (λ b. length (told b)) alive in
      omega (arith, all_length, none)

  pub below_is : (b : Seen) → seen ≡ b → 1 ≤ unanswered b → i < length journal
  below_is b is some = omega (arith, left_is, ap unanswered is, some)

  -- there is room for an answer
  pub room : (b : Seen) → seen ≡ b → b.spent ≡ false → (count capacity : ℕ) → count ≡ length answers → length journal < capacity → count < capacity
  room b is alive count capacity counted within =
      let known = length_is (ap (λ (c : Seen). c.spent) is ∙ alive) in
      omega (arith, known_is, counted, within, known)

  -- one request more
  pub given : (r : Request) → ∥ IsAt limits (journal ++ r ∷ []) i p t answers spent machine ∥₁
  given r =
      ∥∥₁_map at
      (λ a.
      let same : take i (journal ++ r ∷ []) ≡ take i journal = take-append-le i journal (r ∷ []) a.known in
      let rest : drop i (journal ++ r ∷ []) ≡ drop i journal ++ r ∷ [] = drop-append-le i journal (r ∷ []) a.known in
      let all : answers_at limits journal i spent ≡ answers_at limits (journal ++ r ∷ []) i spent = ap (λ past. answers_to limits None past ++ told spent) (sym same) in
      record {
        known = omega (arith, a.known, length-append journal (r ∷ []));
        taken_within = omega (arith, a.taken_within, ap length all);
        answers_are = a.answers_are ∙ ap (drop t) all;
        shown = a.shown;
        at_hand = a.at_hand;
        next =
            subst (λ past. AtFirst limits (loaded_after limits None past) (drop i (journal ++ r ∷ [])) p a.shown) (sym same)
            (subst (λ rs. AtFirst limits (loaded_after limits None (take i journal)) rs p a.shown) (sym rest)
            (still_first limits (loaded_after limits None (take i journal)) (drop i journal) r p a.shown a.next));
      })

  pub given_units : (r : Request) → units_done limits (journal ++ r ∷ []) i p ≡ units_done limits journal i p
  given_units r = ap (λ past. cost limits past + p) (take-append-le i journal (r ∷ []) known_is)

  -- memory is refused
  pub refused : (b : Seen) → seen ≡ b → b.spent ≡ false → (after : Option Shown) → ∥ IsAt limits journal i p t (answers ++ Refused OutOfMemory ∷ []) true after ∥₁
  refused b is lives after =
      ∥∥₁_map at
      (λ a.
      let alive : spent ≡ false = ap (λ (c : Seen). c.spent) is ∙ lives in
      let past = answers_to limits None (take i journal) in
      let e : past ++ told spent ≡ past = ap (λ s. past ++ told s) alive ∙ append-nil past in
      let within : t ≤ length past = omega (arith, a.taken_within, ap length e) in
      record {
        known = a.known;
        taken_within = omega (arith, within, length-append past (Refused OutOfMemory ∷ []));
        answers_are = ap (λ xs. xs ++ Refused OutOfMemory ∷ []) (a.answers_are ∙ ap (drop t) e) ∙ sym (drop-append-le t past (Refused OutOfMemory ∷ []) within);
        shown = a.shown;
        at_hand = λ h. cc;
        next = a.next;
      })

  -- all answers are taken out
  pub emptied : ∥ IsAt limits journal i p (t + length answers) [] spent machine ∥₁
  emptied =
      ∥∥₁_map at
      (λ a.
      let all = answers_at limits journal i spent in
      let count : t + length answers ≡ length all = omega (arith, a.taken_within, ap length a.answers_are, length-drop t all) in
      record {
        known = a.known;
        taken_within = omega (arith, count);
        answers_are = sym (drop_all (t + length answers) all (omega (arith, count)));
        shown = a.shown;
        at_hand = a.at_hand;
        next = a.next;
      })

  -- the first of its requests that is not answered
  pub record Next (b : Seen) (r : Request) : Type 0 where
    pub is : seen ≡ b
    pub lives : b.spent ≡ false
    pub some : 1 ≤ unanswered b
    pub kept : is_kept journal ≡ true
    pub brief : are_brief journal ≡ true
    pub at_hand : r ≡ get_or journal i r

  module _ (b : Seen) (r : Request) (next : Next b r) where
    pub alive : spent ≡ false
    alive = ap (λ (c : Seen). c.spent) next.is ∙ next.lives

    below : i < length journal
    below = below_is b next.is next.some

    with_room : HasRoom r (loaded_after limits None (take i journal))
    with_room = room_of r _ (has_time limits journal i next.kept next.brief below)

    next_is : drop i journal ≡ r ∷ drop (i + 1) journal
    next_is = next_request journal i r next.at_hand below

    under_way : IsAt limits journal i p t answers spent machine → UnderWay limits r (loaded_after limits None (take i journal)) p machine
    under_way a =
        subst (λ m. UnderWay limits r (loaded_after limits None (take i journal)) p m) (a.at_hand alive)
        (subst (λ rs. AtFirst limits (loaded_after limits None (take i journal)) rs p a.shown) next_is a.next)

    module _ (units : ℕ) (served : Served) (after : Option Shown) (serves : GoesOn limits r p units machine served after) where
      worked : {n : ℕ} → n ≡ units_done limits journal i p + served.cost → n ≡ b.units + served.cost
      worked h = h ∙ ap (λ (c : Seen). c.units + served.cost) next.is

      -- the request is not answered yet
      pub goes_on : served.answer ≡ None → ∥ IsAt limits journal i served.progress t answers spent after ∥₁
      goes_on none =
          ∥∥₁_map at
          (λ a.
          let loaded = loaded_after limits None (take i journal) in
          let on = subst (λ (o : Option Answer). ServesBy o limits r loaded p units served.cost served.progress after) none (serves loaded with_room (under_way a)) in
          record {
            known = a.known;
            taken_within = a.taken_within;
            answers_are = a.answers_are;
            shown = after;
            at_hand = λ h. refl;
            next = subst (λ rs. AtFirst limits loaded rs served.progress after) (sym next_is) on.0;
          })

      pub goes_on_units : served.answer ≡ None → units_done limits journal i served.progress ≡ b.units + served.cost
      goes_on_units none =
          worked
          (∥∥₁_elim at (number_prop _ _)
          (λ a.
          let loaded = loaded_after limits None (take i journal) in
          let on = subst (λ (o : Option Answer). ServesBy o limits r loaded p units served.cost served.progress after) none (serves loaded with_room (under_way a)) in
          omega (arith, on.1, on.2)))

      module _ (answer : Answer) (some : served.answer ≡ Some answer) where
        past_is : take (i + 1) journal ≡ take i journal ++ r ∷ []
        past_is = one_more journal i r next.at_hand below

        done : IsAt limits journal i p t answers spent machine → ServesBy (Some answer) limits r (loaded_after limits None (take i journal)) p units served.cost served.progress after
        done a =
            let loaded = loaded_after limits None (take i journal) in
            subst (λ (o : Option Answer). ServesBy o limits r loaded p units served.cost served.progress after) some (serves loaded with_room (under_way a))

        -- the request is answered
        pub is_answered : ∥ IsAt limits journal (i + 1) served.progress t (answers ++ answer ∷ []) spent after ∥₁
        is_answered =
            ∥∥₁_map at
            (λ a.
            let loaded = loaded_after limits None (take i journal) in
            let reply = replied limits loaded r in
            let d = done a in
            let past = answers_to limits None (take i journal) in
            let no_more : told spent ≡ [] = ap told alive in
            let now_loaded : loaded_after limits None (take (i + 1) journal) ≡ reply.loaded = ap (loaded_after limits None) past_is ∙ loaded_append limits None (take i journal) (r ∷ []) in
            let now_answered : answers_to limits None (take (i + 1) journal) ≡ past ++ reply.answer ∷ [] = ap (answers_to limits None) past_is ∙ answers_append limits None (take i journal) (r ∷ []) in
            let e : past ++ told spent ≡ past = ap (λ xs. past ++ xs) no_more ∙ append-nil past in
            let grown : answers_at limits journal (i + 1) spent ≡ past ++ answer ∷ [] =
            ap (λ xs. answers_to limits None (take (i + 1) journal) ++ xs) no_more ∙ append-nil _ ∙ now_answered ∙ ap (λ x. past ++ x ∷ []) (sym d.0.answer_is) in
            let within : t ≤ length past = omega (arith, a.taken_within, ap length e) in
            record {
              known = omega (arith, below);
              taken_within = omega (arith, within, ap length grown, length-append past (answer ∷ []));
              answers_are =
                  ap (λ xs. xs ++ answer ∷ []) (a.answers_are ∙ ap (drop t) e) ∙ sym (drop-append-le t past (answer ∷ []) within) ∙ ap (drop t) (sym grown);
              shown = after;
              at_hand = λ h. refl;
              next =
                  subst (λ l. AtFirst limits l (drop (i + 1) journal) served.progress after) (sym now_loaded)
                  (subst (λ n. AtFirst limits reply.loaded (drop (i + 1) journal) n after) (sym d.2)
                  (opens limits reply.loaded (drop (i + 1) journal) after d.0.loaded));
            })

        pub answered_units : units_done limits journal (i + 1) served.progress ≡ b.units + served.cost
        unfolding cost
        answered_units =
            worked
            (∥∥₁_elim at (number_prop _ _)
            (λ a.
            let loaded = loaded_after limits None (take i journal) in
            let d = done a in
            let split : cost_from limits None (take (i + 1) journal) ≡ cost_from limits None (take i journal) + cost_from limits loaded (r ∷ []) =
            ap (cost_from limits None) past_is ∙ cost_append limits None (take i journal) (r ∷ []) in
            omega (arith, split, d.1, d.2)))
