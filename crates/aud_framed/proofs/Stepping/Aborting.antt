-- Tasks are aborted: they lose their queued calls, calls on their entries are refused, and those that are only created are terminated.
use Rattle.std.proofs.Common.{◌≡◌, ◌≤◌, ◌<◌, ◌+◌, ℕ, zero, suc, List, [], ◌∷◌, length, Some, None, Bool, true, false, refl, sym, ap, ◌∙◌, subst, inl, inr, if◌then◌else◌, slice_get, arith}
use Rattle.std.proofs.lemmas.Bool.{and_parts, eq-eqb, eqb-true, true≢false}
use Rattle.std.proofs.lemmas.Option.{same_Some}
use Rattle.std.specs.Prelude.{◌&&◌, ◌||◌, nat_eq, not}
use Rattle.aud_text.specs.declared.place.Pos.{Pos}
use Rattle.aud_text.specs.declared.raise.Raise.TheVariants.{Program}
use Rattle.aud_typed.specs.declared.program.Exception.TheVariants.{Predefined}
use Rattle.aud_typed.specs.Tree.{Plan}
use Rattle.aud_meaning.specs.declared.state.CallState.TheVariants.{Queued, Cancelled}
use Rattle.aud_meaning.specs.declared.state.Owner.{Owner}
use Rattle.aud_meaning.specs.declared.state.Owner.TheVariants as owner
use Rattle.aud_meaning.specs.declared.state.Status.{Status}
use Rattle.aud_meaning.specs.declared.state.Status.TheVariants.{Created, Running, Activating, Accepting, Delaying, Calling, Completed, Terminated}
use Rattle.aud_meaning.specs.Configuration.{Own, Call, TaskAt, All}
use Rattle.aud_meaning.specs.Parts.{call_of, cancels, changed, contains, in_action, is_created, is_over, is_queued, no_call, numbers, on_control, on_own, own_of, raised_at}
use Rattle.aud_meaning.specs.Tasks as effect
use Rattle.aud_meaning.proofs.Limits.Frames.{nth}
use Rattle.aud_meaning.proofs.Open.Tasks.{call_at}
use Rattle.aud_code.specs.Places.{Spot}
use Rattle.aud_code.specs.Flat.{Flat, Does, end_at, flat_controls}
use Rattle.aud_code.specs.Instruction.{Abort}
use Rattle.aud_code.specs.Seen.{IsSeen}
use Rattle.aud_code.specs.Sound.{Counts, IsSound}
use Rattle.aud_over.specs.Over.{is_call_over}
use Rattle.aud_framed.specs.Calls.{CallerWaits, HasNoCall, IsEntryOf, IsPast, Serves, Waits}
use Rattle.aud_framed.specs.Stepping.{HasWays}
use Rattle.aud_framed.specs.Waiting.{TaskFramed}
use Rattle.aud_framed.proofs.Stepping.Beginning.{goes_on_good}
use Rattle.aud_framed.proofs.Stepping.Blocks.{raised_good}
use Rattle.aud_framed.proofs.Stepping.Calls.{counted, live_same, now_over, other_call, over_framed, queued_live, unserved_queued}
use Rattle.aud_framed.proofs.Stepping.Closing.{created_rests}
use Rattle.aud_framed.proofs.Stepping.Commuting.{commute}
use Rattle.aud_framed.proofs.Stepping.Ending.{Good, got_there}
use Rattle.aud_framed.proofs.Stepping.Expiring.{withdrawing_framed}
use Rattle.aud_framed.proofs.Stepping.Parts.{changed_framed, changed_own, framed_at, own_got, serves_like}
use Rattle.aud_framed.proofs.Stepping.Refusing.{EachPasses, RiseFrom, calls_found, is_it_queued, orders, passes_from, queues_refused, rises, terminated}
use Rattle.aud_framed.proofs.Stepping.Tasks.{spots_at, task_good, unchanged}

-- Calls by their numbers.

queued_there : (id : ℕ) (calls : List Call) → (call_at id calls).state ≡ Queued → id < length calls
queued_there id [] e = absurd cc
queued_there zero (a ∷ more) e = omega arith
queued_there (suc id) (a ∷ more) e = let h = queued_there id more e in omega (arith, h)

-- what passes has its number among those that pass
numbered : (p : Call → Bool) (m i : ℕ) (calls : List Call) → p no_call ≡ false → p (call_at i calls) ≡ true → contains (i + m) (numbers p m calls) ≡ true
numbered p m i [] none h = absurd (true≢false (sym h ∙ none))
numbered p m zero (a ∷ more) none h =
    let e : m ≡ 0 + m = omega arith in
    subst (λ k. contains k (if p a then m ∷ numbers p (suc m) more else numbers p (suc m) more) ≡ true) e
    (subst (λ b. contains m (if b then m ∷ numbers p (suc m) more else numbers p (suc m) more) ≡ true) (sym h) (ap (λ b. b || contains m (numbers p (suc m) more)) (eq-eqb m m refl)))
numbered p m (suc i) (a ∷ more) none h =
    let e : i + suc m ≡ suc i + m = omega arith in
    subst (λ k. contains k (if p a then m ∷ numbers p (suc m) more else numbers p (suc m) more) ≡ true) e (by (p a) (numbered p (suc m) i more none h))
  where
    behind : (b : Bool) → contains (i + suc m) (numbers p (suc m) more) ≡ true → b || contains (i + suc m) (numbers p (suc m) more) ≡ true
    behind true k = refl
    behind false k = k

    by : (b : Bool) → contains (i + suc m) (numbers p (suc m) more) ≡ true → contains (i + suc m) (if b then m ∷ numbers p (suc m) more else numbers p (suc m) more) ≡ true
    by true k = behind (nat_eq (i + suc m) m) k
    by false k = k

waits_alive : (o : Owner) (own : Own) → Waits o own → is_over own.status ≡ false
waits_alive o own (inl h) = ap is_over h
waits_alive o own (inr (inl h, k)) = ap is_over h
waits_alive o own (inr (inr h, k)) = ap is_over h

-- these are queued, and of a task
abbrev AreIts : ℕ → All Spot → List ℕ → Type 0
AreIts n c [] = Unit {0}
AreIts n c (id ∷ ids) = ((call_of id c).state ≡ Queued) × ((call_of id c).caller ≡ n) × AreIts n c ids

abbrev is_gone : Call → Call
is_gone a = record a { state = Cancelled }

abbrev may_go : ℕ → Call → Bool
may_go n a = is_queued a.state && nat_eq a.caller n && not a.stays

are_its : (n : ℕ) (c : All Spot) (ids : List ℕ) → EachPasses (may_go n) (λ i. call_of i c) ids → AreIts n c ids
are_its n c [] h = tt
are_its n c (id ∷ ids) h =
    let a = call_of id c in
    let both = and_parts (is_queued a.state) (nat_eq a.caller n) (and_parts (is_queued a.state && nat_eq a.caller n) (not a.stays) h.0).0 in
    (is_it_queued a.state both.0, eqb-true a.caller n both.1, are_its n c ids h.1)

-- others are as they were
its_later : (n id k : ℕ) (c : All Spot) (ids : List ℕ) → suc id ≤ k → RiseFrom k ids → AreIts n c ids → AreIts n (cancels id c) ids
its_later n id k c [] less r h = tt
its_later n id k c (i ∷ is) less r h =
    let a = r.0 in
    let same : call_at i (changed id is_gone c.shared.calls) ≡ call_of i c = other_call id i is_gone c.shared.calls (λ e. absurd (omega (arith, e, a, less))) in
    let more : suc id ≤ suc i = omega (arith, a, less) in
    (ap (λ (b : Call). b.state) same ∙ h.0, ap (λ (b : Call). b.caller) same ∙ h.1, its_later n id (suc i) c is more r.1 h.2)

-- the calls of a task that are queued all stay
abbrev Stays : List Call → ℕ → Type 0
Stays calls n = (i : ℕ) → (call_at i calls).state ≡ Queued → (call_at i calls).caller ≡ n → (call_at i calls).stays ≡ true

abbrev AllStay : List Call → List ℕ → Type 0
AllStay calls [] = Unit {0}
AllStay calls (n ∷ ns) = Stays calls n × AllStay calls ns

-- Becoming abnormal.

abbrev ill : Own → Own
ill own = record own { abnormal = true }

serves_ill : (plan : Plan) (c : All Spot) (n : ℕ) (own : Own) → Serves plan c n own → Serves plan c n (record own { abnormal = true })
serves_ill plan c n own s = record {
  opened = s.opened;
  calls = s.calls;
  objects = s.objects;
  serving = s.serving;
  again = s.again;
  restart = λ r q. let x = s.restart r q in record { served = x.served; form = x.form; entry = x.entry; outside = x.outside; apart = x.apart };
  withdraw = s.withdraw;
}

ill_framed : (plan : Plan) (code : Flat) (seen : List ℕ) (s : Status) (t : TaskAt Spot) → TaskFramed plan code seen s t → TaskFramed plan code seen s (record t { own = record t.own { abnormal = true } })
ill_framed plan code seen Created t h = record { place = h.place; display = h.display; opened = h.opened; none = h.none }
ill_framed plan code seen Running t h = h
ill_framed plan code seen Activating t h = h
ill_framed plan code seen Accepting t h = h
ill_framed plan code seen Delaying t h = h
ill_framed plan code seen Calling t h = h
ill_framed plan code seen Completed t h = h
ill_framed plan code seen Terminated t h = h

module _ (plan : Plan) (code : Flat) (table : List Counts) (tasks barriers seen : List ℕ) (sound : IsSound code) (fits : IsSeen code table tasks barriers seen) (ways : HasWays code) where
  abbrev pub Kept : All Spot → Type 0
  Kept c = Good plan code table tasks barriers seen sound fits ways c

  -- A task loses a call that is queued.

  module _ (n id : ℕ) (c : All Spot) (w : Kept c) (queued : (call_of id c).state ≡ Queued) (its : (call_of id c).caller ≡ n) where
    live : is_call_over (call_of id c).state ≡ false
    live = queued_live (call_of id c).state queued

    waits : CallerWaits id (call_of id c) (own_of n c)
    waits = subst (λ m. CallerWaits id (call_of id c) (own_of m c)) its (w.framed.calls id live)

    cancelled : Kept (cancels id c)
    cancelled = record { framed = over_framed plan code seen id is_gone c (λ a. refl) (λ k alive. unserved_queued plan c k id (own_of k c) queued (w.framed.serves k alive)) w.framed; spots = w.spots }

    -- it has no other
    none_left : HasNoCall plan (cancels id c) n
    none_left i alive mine =
        let same : call_at i (changed id is_gone c.shared.calls) ≡ call_of i c = live_same id i is_gone c.shared.calls (λ a. refl) alive in
        let h : CallerWaits i (call_of i c) (own_of (call_of i c).caller c) = w.framed.calls i (subst (λ (a : Call). is_call_over a.state ≡ false) same alive) in
        let at : (own_of n c).call ≡ i = ap (λ m. (own_of m c).call) (sym mine ∙ ap (λ (a : Call). a.caller) same) ∙ h.0 in
        true≢false (sym (subst (λ j. is_call_over (call_at j (changed id is_gone c.shared.calls)).state ≡ true) (sym waits.0 ∙ at) (now_over id is_gone c.shared.calls (λ a. refl))) ∙ alive)

    is_past : (own : Own) → own_of n c ≡ own → IsPast plan (cancels id c) own.call
    is_past own e =
        subst (λ k. IsPast plan (cancels id c) k) (sym waits.0 ∙ ap (λ (x : Own). x.call) e)
        (subst (λ k. id < k) (counted id is_gone c.shared.calls) (queued_there id c.shared.calls queued), now_over id is_gone c.shared.calls (λ a. refl))

    -- from an object's queue
    withdraws_good : (object : ℕ) → (call_of id c).owner ≡ owner.Object object → Kept (on_own n (λ own. record own { withdraw = Some object }) (cancels id c))
    withdraws_good object on = there (got_there n c.tasks (λ e. true≢false (sym (ap is_over e) ∙ waits_alive (call_of id c).owner (own_of n c) waits.1)))
      where
        is_there : object < length c.shared.objects
        is_there = (subst (λ o. IsEntryOf plan c o (call_of id c).entry) on (w.framed.queued id queued)).1

        there : (t : TaskAt Spot) × (slice_get c.tasks n ≡ Some t) → Kept (on_own n (λ own. record own { withdraw = Some object }) (cancels id c))
        there x =
            let own_is : own_of n c ≡ x.0.own = own_got n c.tasks x.0 x.1 in
            task_good plan code table tasks barriers seen sound fits ways n (λ u. record u { own = record u.own { withdraw = Some object } }) (cancels id c) x.0 x.1
            (withdrawing_framed plan code seen (Some object) x.0.own.status x.0 (framed_at plan code seen n c.tasks x.0 x.1 w.framed.tasks))
            (record {
              live = λ h. h;
              waits = λ i alive mine h. h;
              serves = λ alive s. record {
                opened = s.opened;
                calls = s.calls;
                objects = s.objects;
                serving = s.serving;
                again = s.again;
                restart = λ r q. let y = s.restart r q in record { served = y.served; form = y.form; entry = y.entry; outside = y.outside; apart = y.apart };
                withdraw = λ o e. (
                  ((call_of id c).owner, subst (λ (own : Own). Waits (call_of id c).owner own) own_is waits.1),
                  (none_left, (is_past x.0.own own_is, subst (λ k. k < length c.shared.objects) (same_Some object o e) is_there)),
                );
              };
              abnormal = λ h. h;
            }) (λ u h. h) cancelled

    loses_one : Kept (cancels id (on_own n (effect.withdraws_from (orders plan code table tasks barriers seen sound fits ways) plan (flat_controls plan code).barrier (call_of id c).owner) c))
    loses_one = by (call_of id c).owner refl
      where
        by : (o : Owner) → (call_of id c).owner ≡ o → Kept (cancels id (on_own n (effect.withdraws_from (orders plan code table tasks barriers seen sound fits ways) plan (flat_controls plan code).barrier o) c))
        by (owner.Task m) e = subst (λ ts. Kept (record (cancels id c) { tasks = ts })) (sym (unchanged n (λ (u : TaskAt Spot). record u { own = u.own }) c.tasks (λ u. refl))) cancelled
        by (owner.Object object) e = withdraws_good object e

  abbrev loses : ℕ → List ℕ → All Spot → All Spot
  loses n ids c = effect.loses_call (orders plan code table tasks barriers seen sound fits ways) plan (flat_controls plan code).barrier n ids c

  abbrev its_calls : ℕ → All Spot → List ℕ
  its_calls n c = effect.own_calls (orders plan code table tasks barriers seen sound fits ways) plan (flat_controls plan code).barrier n c.shared.calls

  abbrev each : (ℕ → All Spot → All Spot) → List ℕ → All Spot → All Spot
  each f ns c = effect.each (orders plan code table tasks barriers seen sound fits ways) plan (flat_controls plan code).barrier f ns c

  abbrev loses_all : ℕ → All Spot → All Spot
  loses_all n c = loses n (its_calls n c) c

  -- calls of these numbers are over, and what is not was as it is
  record Lost (ids : List ℕ) (c d : All Spot) : Type 0 where
    good : Kept d
    gone : (i : ℕ) → contains i ids ≡ true → is_call_over (call_of i d).state ≡ true
    left : (i : ℕ) → is_call_over (call_of i d).state ≡ false → call_of i d ≡ call_of i c

  abbrev loses_once : ℕ → ℕ → All Spot → All Spot
  loses_once n id c = cancels id (on_own n (effect.withdraws_from (orders plan code table tasks barriers seen sound fits ways) plan (flat_controls plan code).barrier (call_of id c).owner) c)

  -- a call, and then more
  lost_more : (n id : ℕ) (ids : List ℕ) (c d : All Spot) → Lost ids (loses_once n id c) d → Lost (id ∷ ids) c d
  lost_more n id ids c d rest = record { good = rest.good; gone = gone; left = left }
    where
      left : (i : ℕ) → is_call_over (call_of i d).state ≡ false → call_of i d ≡ call_of i c
      left i alive = rest.left i alive ∙ live_same id i is_gone c.shared.calls (λ a. refl) (subst (λ (a : Call). is_call_over a.state ≡ false) (rest.left i alive) alive)

      gone : (i : ℕ) → contains i (id ∷ ids) ≡ true → is_call_over (call_of i d).state ≡ true
      gone i e = by (nat_eq i id) refl e
        where
          over : (b : Bool) → is_call_over (call_of i d).state ≡ b → nat_eq i id ≡ true → b ≡ true
          over true q k = refl
          over false q k =
              let before : is_call_over (call_at i (changed id is_gone c.shared.calls)).state ≡ false = subst (λ (a : Call). is_call_over a.state ≡ false) (rest.left i q) q in
              absurd (true≢false (sym (now_over id is_gone c.shared.calls (λ a. refl)) ∙ subst (λ j. is_call_over (call_at j (changed id is_gone c.shared.calls)).state ≡ false) (eqb-true i id k) before))

          by : (b : Bool) → nat_eq i id ≡ b → b || contains i ids ≡ true → is_call_over (call_of i d).state ≡ true
          by true q g = over (is_call_over (call_of i d).state) refl q
          by false q g = rest.gone i g

  lost : (n m : ℕ) (ids : List ℕ) (c : All Spot) → Kept c → RiseFrom m ids → AreIts n c ids → Lost ids c (loses n ids c)
  lost n m [] c w r h = record { good = w; gone = λ i e. absurd (true≢false (sym e)); left = λ i e. refl }
  lost n m (id ∷ ids) c w r h =
      lost_more n id ids c (loses n ids (loses_once n id c))
      (lost n (suc id) ids (loses_once n id c) (loses_one n id c w h.0 h.1) r.1 (its_later n id (suc id) c ids (omega arith) r.1 h.2))

  -- all that don't stay are lost
  lost_all : (n : ℕ) (c : All Spot) → Kept c → Lost (its_calls n c) c (loses_all n c)
  lost_all n c w = lost n 0 (its_calls n c) c w (rises (may_go n) 0 c.shared.calls) (are_its n c (its_calls n c) (passes_from (may_go n) 0 c.shared.calls (λ i. call_of i c) (calls_found c.shared.calls)))

  stay : (n : ℕ) (c : All Spot) → Kept c → Stays (loses_all n c).shared.calls n
  stay n c w i queued its = by (call_of i c).stays refl
    where
      after : Lost (its_calls n c) c (loses_all n c)
      after = lost_all n c w

      same : call_of i (loses_all n c) ≡ call_of i c
      same = after.left i (queued_live (call_of i (loses_all n c)).state queued)

      by : (b : Bool) → (call_of i c).stays ≡ b → (call_of i (loses_all n c)).stays ≡ true
      by true e = ap (λ (a : Call). a.stays) same ∙ e
      by false e =
          let was : is_queued (call_of i c).state ≡ true = ap (λ (a : Call). is_queued a.state) (sym same) ∙ ap is_queued queued in
          let mine : nat_eq (call_of i c).caller n ≡ true = eq-eqb (call_of i c).caller n (ap (λ (a : Call). a.caller) (sym same) ∙ its) in
          let passes : may_go n (call_of i c) ≡ true = ap (λ b. b && nat_eq (call_of i c).caller n && not (call_of i c).stays) was ∙ (ap (λ b. b && not (call_of i c).stays) mine ∙ ap not e) in
          let number : i + 0 ≡ i = omega arith in
          absurd (true≢false (sym (after.gone i (subst (λ k. contains k (its_calls n c) ≡ true) number (numbered (may_go n) 0 i c.shared.calls refl passes))) ∙ queued_live (call_of i (loses_all n c)).state queued))

  -- So do all of these tasks.

  record AllLost (ns : List ℕ) (c d : All Spot) : Type 0 where
    good : Kept d
    left : (i : ℕ) → is_call_over (call_of i d).state ≡ false → call_of i d ≡ call_of i c
    stay : AllStay d.shared.calls ns

  all_lost_more : (n : ℕ) (ns : List ℕ) (c d : All Spot) → Kept c → AllLost ns (loses_all n c) d → AllLost (n ∷ ns) c d
  all_lost_more n ns c d w rest = record { good = rest.good; left = left; stay = (its, rest.stay) }
    where
      left : (i : ℕ) → is_call_over (call_of i d).state ≡ false → call_of i d ≡ call_of i c
      left i alive = rest.left i alive ∙ (lost_all n c w).left i (subst (λ (a : Call). is_call_over a.state ≡ false) (rest.left i alive) alive)

      its : Stays d.shared.calls n
      its i queued mine =
          let same : call_of i d ≡ call_of i (loses_all n c) = rest.left i (queued_live _ queued) in
          ap (λ (a : Call). a.stays) same ∙ stay n c w i (ap (λ (a : Call). a.state) (sym same) ∙ queued) (ap (λ (a : Call). a.caller) (sym same) ∙ mine)

  each_loses : (ns : List ℕ) (c : All Spot) → Kept c → AllLost ns c (each loses_all ns c)
  each_loses [] c w = record { good = w; left = λ i e. refl; stay = tt }
  each_loses (n ∷ ns) c w = all_lost_more n ns c (each loses_all ns (loses_all n c)) w (each_loses ns (loses_all n c) (lost_all n c w).good)

  -- A task becomes abnormal, whose queued calls stay.

  abbrev falls : ℕ → All Spot → All Spot
  falls n c = on_own n ill c

  fallen : (n : ℕ) (c : All Spot) → Kept c → Stays c.shared.calls n → Kept (falls n c)
  fallen n c w stays = record {
    framed = record {
      tasks = changed_framed plan code seen n f c.tasks (λ t e. ill_framed plan code seen t.own.status t (framed_at plan code seen n c.tasks t e w.framed.tasks)) w.framed.tasks;
      objects = w.framed.objects;
      calls = λ id live. changed_own (λ m own. CallerWaits id (call_of id c) own) n f c.tasks (λ t e h. h) (call_of id c).caller (w.framed.calls id live);
      queued = w.framed.queued;
      stays = λ id queued.
          changed_own (λ m own. (call_of id c).caller ≡ m → own.abnormal ≡ true → (call_of id c).stays ≡ true) n f c.tasks (λ t e h mine bad. stays id queued mine) (call_of id c).caller
          (λ mine bad. w.framed.stays id queued bad) refl;
      serves = λ m live.
          serves_like plan c (falls n c) m (nth m (changed n f c.tasks)) refl refl
          (changed_own (λ i own. is_over own.status ≡ false → Serves plan c i own) n f c.tasks (λ t e h alive. serves_ill plan c n t.own (h alive)) m (w.framed.serves m) live);
      alone = w.framed.alone;
    };
    spots = spots_at code n f c.tasks (λ t e h. h) w.spots;
  }
    where
      f : TaskAt Spot → TaskAt Spot
      f t = record t { own = ill t.own }

  each_falls : (ns : List ℕ) (c : All Spot) → Kept c → AllStay c.shared.calls ns → Kept (each falls ns c)
  each_falls [] c w h = w
  each_falls (n ∷ ns) c w h = each_falls ns (falls n c) (fallen n c w h.0) h.1

  -- It may lose its calls before.

  loses_falls : (n m : ℕ) (ids : List ℕ) (c : All Spot) → loses n ids (falls m c) ≡ falls m (loses n ids c)
  loses_falls n m [] c = refl
  loses_falls n m (id ∷ ids) c =
      ap (λ ts. loses n ids (cancels id (record c { tasks = ts }))) (commute m n (λ t. record t { own = ill t.own }) (λ t. record t { own = from (call_of id c).owner t.own }) c.tasks (λ t. ap (λ own. record t { own = own }) (same (call_of id c).owner t.own)))
      ∙ loses_falls n m ids (cancels id (on_own n (from (call_of id c).owner) c))
    where
      from : Owner → Own → Own
      from o own = effect.withdraws_from (orders plan code table tasks barriers seen sound fits ways) plan (flat_controls plan code).barrier o own

      same : (o : Owner) (own : Own) → from o (ill own) ≡ ill (from o own)
      same (owner.Task k) own = refl
      same (owner.Object k) own = refl

  each_loses_falls : (m : ℕ) (ns : List ℕ) (c : All Spot) → each loses_all ns (falls m c) ≡ falls m (each loses_all ns c)
  each_loses_falls m [] c = refl
  each_loses_falls m (n ∷ ns) c = ap (λ d. each loses_all ns d) (loses_falls n m (its_calls n c) c) ∙ each_loses_falls m ns (loses_all n c)

  in_turn : (ms ns : List ℕ) (c : All Spot) → each loses_all ns (each falls ms c) ≡ each falls ms (each loses_all ns c)
  in_turn [] ns c = refl
  in_turn (m ∷ ms) ns c = in_turn ms ns (falls m c) ∙ ap (λ d. each falls ms d) (each_loses_falls m ns c)

  -- Calls on their entries are refused, and those that are created are terminated.

  abbrev refuses : ℕ → All Spot → All Spot
  refuses n c = effect.refuse_queues (orders plan code table tasks barriers seen sound fits ways) plan (flat_controls plan code).barrier n c

  each_refuses : (ns : List ℕ) (c : All Spot) → Kept c → Kept (each refuses ns c)
  each_refuses [] c w = w
  each_refuses (n ∷ ns) c w = each_refuses ns (refuses n c) (queues_refused plan code table tasks barriers seen sound fits ways n c w).good

  abbrev terminates : ℕ → All Spot → All Spot
  terminates n c = effect.terminates_created (orders plan code table tasks barriers seen sound fits ways) plan (flat_controls plan code).barrier n c

  created_ends : (n : ℕ) (c : All Spot) → Kept c → Kept (terminates n c)
  created_ends n c w = by (is_created (own_of n c).status) refl
    where
      by : (b : Bool) → is_created (own_of n c).status ≡ b → Kept (if b then effect.terminate (orders plan code table tasks barriers seen sound fits ways) plan (flat_controls plan code).barrier n c else c)
      by true e = (terminated plan code table tasks barriers seen sound fits ways n c w (created_rests (own_of n c).status e)).good
      by false e = w

  each_terminates : (ns : List ℕ) (c : All Spot) → Kept c → Kept (each terminates ns c)
  each_terminates [] c w = w
  each_terminates (n ∷ ns) c w = each_terminates ns (terminates n c) (created_ends n c w)

  aborted_good : (hit : List ℕ) (c : All Spot) → Kept c → Kept (effect.aborted (orders plan code table tasks barriers seen sound fits ways) plan (flat_controls plan code).barrier hit c)
  aborted_good hit c w =
      each_terminates hit (each refuses hit (each loses_all hit (each falls hit c)))
      (each_refuses hit (each loses_all hit (each falls hit c)) (subst (λ d. Kept d) (sym (in_turn hit hit c)) (each_falls hit (each loses_all hit c) lost_first.good lost_first.stay)))
    where
      lost_first : AllLost hit c (each loses_all hit c)
      lost_first = each_loses hit c w

  -- the step abort
  pub aborts_good : (named : List ℕ) (at : Pos) (n : ℕ) (c : All Spot) (t : TaskAt Spot) → Kept c → slice_get c.tasks n ≡ Some t → t.own.status ≡ Running → t.own.pending ≡ None → t.own.again ≡ None → (end_at code t.control.place).last ≡ Does Abort → Kept (effect.aborts (orders plan code table tasks barriers seen sound fits ways) plan (flat_controls plan code).barrier named at n c)
  aborts_good named at n c t w is running none still line = by (in_action n c)
    where
      hit : List ℕ
      hit = effect.hit_from (orders plan code table tasks barriers seen sound fits ways) plan (flat_controls plan code).barrier named (effect.bodies_of (orders plan code table tasks barriers seen sound fits ways) plan (flat_controls plan code).barrier named c) 0 c.tasks

      by : (b : Bool) → Kept (if b then raised_at Program at n c else effect.aborted (orders plan code table tasks barriers seen sound fits ways) plan (flat_controls plan code).barrier hit (on_control n ((orders plan code table tasks barriers seen sound fits ways).takes 0) c))
      by true = raised_good plan code table tasks barriers seen sound fits ways (Predefined Program) at n c t w is running none still (Abort, line)
      by false = aborted_good hit (on_control n ((orders plan code table tasks barriers seen sound fits ways).takes 0) c) (goes_on_good plan code table tasks barriers seen sound fits ways 0 n c t w is running none still (Abort, (line, tt)))
