-- Calls that are refused, and tasks that are terminated.
use Rattle.std.proofs.Common.{◌≡◌, ◌≤◌, ℕ, zero, suc, List, [], ◌∷◌, Option, Some, None, Bool, true, false, refl, sym, ap, ◌∙◌, subst, inl, inr, if◌then◌else◌, slice_get, arith}
use Rattle.std.proofs.lemmas.Bool.{and_parts, eqb-true, false≢true, true≢false}
use Rattle.std.specs.Prelude.{◌&&◌}
use Rattle.aud_text.specs.declared.raise.Raise.{Raise}
use Rattle.aud_text.specs.declared.raise.Raise.TheVariants.{Tasking}
use Rattle.aud_typed.specs.declared.program.Exception.{Exception}
use Rattle.aud_typed.specs.declared.program.Exception.TheVariants.{Predefined}
use Rattle.aud_typed.specs.Tree.{Plan}
use Rattle.aud_meaning.specs.declared.state.CallState.{CallState}
use Rattle.aud_meaning.specs.declared.state.CallState.TheVariants.{Queued, Selected, Done, Cancelled}
use Rattle.aud_meaning.specs.declared.state.Owner.{Owner}
use Rattle.aud_meaning.specs.declared.state.Owner.TheVariants as owner
use Rattle.aud_meaning.specs.declared.state.Status.{Status}
use Rattle.aud_meaning.specs.declared.state.Status.TheVariants.{Created, Running, Activating, Accepting, Delaying, Calling, Completed, Terminated}
use Rattle.aud_meaning.specs.Configuration.{Own, Call, TaskAt, All}
use Rattle.aud_meaning.specs.Effects.{pends}
use Rattle.aud_meaning.specs.Orders.{Orders}
use Rattle.aud_meaning.specs.Parts.{call_of, calls_on_task, changed, fails, is_queued, is_task, no_waits, numbers, on_own, own_of, runs}
use Rattle.aud_meaning.specs.Tasks as effect
use Rattle.aud_meaning.proofs.Limits.Frames.{nth}
use Rattle.aud_meaning.proofs.Open.Tasks.{call_at}
use Rattle.aud_code.specs.Places.{Spot}
use Rattle.aud_code.specs.Flat.{Flat, flat_controls}
use Rattle.aud_code.specs.Seen.{IsSeen}
use Rattle.aud_code.specs.Sound.{Counts, IsSound}
use Rattle.aud_over.specs.Over.{is_call_over}
use Rattle.aud_framed.specs.Calls.{Waits}
use Rattle.aud_framed.specs.Stepping.{HasWays}
use Rattle.aud_framed.proofs.Stepping.Calls.{IsUnserved, other_call, queued_live, unserved_queued}
use Rattle.aud_framed.proofs.Stepping.Ending.{Good, changed_spots, end_call_good, go, task_caller}
use Rattle.aud_framed.proofs.Stepping.Parts.{changed_own, own_got, task_framed}

-- Numbers of calls and tasks that pass a test.

-- each is at least this one, and behind the one before
abbrev pub RiseFrom : ℕ → List ℕ → Type 0
RiseFrom m [] = Unit {0}
RiseFrom m (n ∷ ns) = (m ≤ n) × RiseFrom (suc n) ns

rise_less : (m k : ℕ) (ns : List ℕ) → m ≤ k → RiseFrom k ns → RiseFrom m ns
rise_less m k [] h r = tt
rise_less m k (n ∷ ns) h r = let a = r.0 in let b : m ≤ n = omega (arith, h, a) in (b, r.1)

module _ {A : Type 0} where
  abbrev pub FoundFrom : ℕ → List A → (ℕ → A) → Type 0
  FoundFrom m [] look = Unit {0}
  FoundFrom m (x ∷ xs) look = (look m ≡ x) × FoundFrom (suc m) xs look

  found_on : (m : ℕ) (xs : List A) (look : ℕ → A) → FoundFrom m xs (λ n. look (suc n)) → FoundFrom (suc m) xs look
  found_on m [] look h = tt
  found_on m (x ∷ xs) look h = (h.0, found_on (suc m) xs look h.1)

  pub rises : (p : A → Bool) (m : ℕ) (xs : List A) → RiseFrom m (numbers p m xs)
  rises p m [] = tt
  rises p m (x ∷ xs) = by (p x) (rises p (suc m) xs)
    where
      by : (b : Bool) → RiseFrom (suc m) (numbers p (suc m) xs) → RiseFrom m (if b then m ∷ numbers p (suc m) xs else numbers p (suc m) xs)
      by true r = (omega arith, r)
      by false r = rise_less m (suc m) (numbers p (suc m) xs) (omega arith) r

  abbrev pub EachPasses : (A → Bool) → (ℕ → A) → List ℕ → Type 0
  EachPasses p look [] = Unit {0}
  EachPasses p look (n ∷ ns) = (p (look n) ≡ true) × EachPasses p look ns

  pub passes_from : (p : A → Bool) (m : ℕ) (xs : List A) (look : ℕ → A) → FoundFrom m xs look → EachPasses p look (numbers p m xs)
  passes_from p m [] look h = tt
  passes_from p m (x ∷ xs) look h = by (p x) refl (passes_from p (suc m) xs look h.1)
    where
      by : (b : Bool) → p x ≡ b → EachPasses p look (numbers p (suc m) xs) → EachPasses p look (if b then m ∷ numbers p (suc m) xs else numbers p (suc m) xs)
      by true e r = (ap p h.0 ∙ e, r)
      by false e r = r

pub calls_found : (cs : List Call) → FoundFrom 0 cs (λ i. call_at i cs)
calls_found [] = tt
calls_found (a ∷ more) = (refl, found_on 0 more (λ i. call_at i (a ∷ more)) (calls_found more))

-- A call that is queued on a task's entry.

pub is_it_queued : (s : CallState) → is_queued s ≡ true → s ≡ Queued
is_it_queued Queued h = refl
is_it_queued Selected h = absurd (false≢true h)
is_it_queued Done h = absurd (false≢true h)
is_it_queued Cancelled h = absurd (false≢true h)

its_task : (n : ℕ) (o : Owner) → is_task n o ≡ true → o ≡ owner.Task n
its_task n (owner.Task m) h = ap (λ k. owner.Task k) (sym (eqb-true n m h))
its_task n (owner.Object m) h = absurd (false≢true h)

abbrev QueuedOn : ℕ → All Spot → List ℕ → Type 0
QueuedOn n c [] = Unit {0}
QueuedOn n c (id ∷ ids) = ((call_of id c).state ≡ Queued) × ((call_of id c).owner ≡ owner.Task n) × QueuedOn n c ids

queued_on : (n : ℕ) (c : All Spot) (ids : List ℕ) → EachPasses (λ (a : Call). is_queued a.state && is_task n a.owner) (λ i. call_of i c) ids → QueuedOn n c ids
queued_on n c [] h = tt
queued_on n c (id ∷ ids) h =
    let both = and_parts (is_queued (call_of id c).state) (is_task n (call_of id c).owner) h.0 in
    (is_it_queued (call_of id c).state both.0, its_task n (call_of id c).owner both.1, queued_on n c ids h.1)

-- Tasks that wait for no call.

abbrev pub Rests : Status → Type 0
Rests Created = Unit {0}
Rests Running = ⊥
Rests Activating = ⊥
Rests Accepting = Unit {0}
Rests Delaying = Unit {0}
Rests Calling = ⊥
Rests Completed = Unit {0}
Rests Terminated = Unit {0}

pub rest_waits : (o : Owner) (own : Own) → Rests own.status → Waits o own → ⊥
rest_waits o own r (inl h) = subst (λ s. Rests s) h r
rest_waits o own r (inr (inl h, w)) = subst (λ s. Rests s) h r
rest_waits o own r (inr (inr h, w)) = subst (λ s. Rests s) h r

pub other_task : (n m : ℕ) (f : TaskAt Spot → TaskAt Spot) (ts : List (TaskAt Spot)) → (n ≡ m → ⊥) → slice_get (changed n f ts) m ≡ slice_get ts m
other_task n m f [] differs = refl
other_task zero zero f (t ∷ ts) differs = absurd (differs refl)
other_task zero (suc m) f (t ∷ ts) differs = refl
other_task (suc n) zero f (t ∷ ts) differs = refl
other_task (suc n) (suc m) f (t ∷ ts) differs = other_task n m f ts (λ e. differs (ap suc e))

pub none_changed : (n : ℕ) (f : TaskAt Spot → TaskAt Spot) (ts : List (TaskAt Spot)) → slice_get ts n ≡ None → changed n f ts ≡ ts
none_changed n f [] e = refl
none_changed zero f (t ∷ ts) e = absurd cc
none_changed (suc n) f (t ∷ ts) e = ap (λ us. t ∷ us) (none_changed n f ts e)

module _ (plan : Plan) (code : Flat) (table : List Counts) (tasks barriers seen : List ℕ) (sound : IsSound code) (fits : IsSeen code table tasks barriers seen) (ways : HasWays code) where
  abbrev pub IsGood : All Spot → Type 0
  IsGood c = Good plan code table tasks barriers seen sound fits ways c

  abbrev pub orders : Orders Spot
  orders = go plan code table tasks barriers seen sound fits ways

  -- what has become of all: tasks that run or rest are left as they were, but that more may rest
  pub record Became (c d : All Spot) : Type 0 where
    pub good : IsGood d
    pub rests : (m : ℕ) → Rests (own_of m c).status → Rests (own_of m d).status
    pub run : (m : ℕ) (t : TaskAt Spot) → slice_get c.tasks m ≡ Some t → t.own.status ≡ Running → slice_get d.tasks m ≡ Some t

  pub stays_so : (c : All Spot) → IsGood c → Became c c
  stays_so c w = record { good = w; rests = λ m h. h; run = λ m t e h. e }

  pub then_became : (c d e : All Spot) → Became c d → Became d e → Became c e
  then_became c d e h k = record { good = k.good; rests = λ m r. k.rests m (h.rests m r); run = λ m t x y. k.run m t (h.run m t x y) y }

  -- one call is refused
  refused_once : (x : Exception) (n id : ℕ) (c : All Spot) → IsGood c → (call_of id c).state ≡ Queued → (call_of id c).owner ≡ owner.Task n → Became c (effect.end_call orders plan (flat_controls plan code).barrier (fails x) id c)
  refused_once x n id c w queued its = record { good = end_call_good plan code table tasks barriers seen sound fits ways (fails x) id c w live free waiting; rests = rests; run = run }
    where
      m : ℕ
      m = (call_of id c).caller

      live : is_call_over (call_of id c).state ≡ false
      live = queued_live (call_of id c).state queued

      free : IsUnserved id c
      free = λ k alive. unserved_queued plan c k id (own_of k c) queued (w.framed.serves k alive)

      waiting : (own_of (call_of id c).caller c).status ≡ Calling
      waiting = task_caller n (own_of (call_of id c).caller c) (subst (λ o. Waits o (own_of (call_of id c).caller c)) its (w.framed.calls id live).1)

      f : TaskAt Spot → TaskAt Spot
      f t = record t { own = pends x (call_of id c).at (runs t.own) }

      rests : (k : ℕ) → Rests (own_of k c).status → Rests (nth k (changed (call_of id c).caller (λ t. record t { own = pends x (call_of id c).at (runs t.own) }) c.tasks)).status
      rests k r =
          changed_own (λ i own. Rests own.status) (call_of id c).caller (λ t. record t { own = pends x (call_of id c).at (runs t.own) }) c.tasks
          (λ t e h. absurd (subst (λ s. Rests s) waiting (subst (λ (o : Own). Rests o.status) (sym (own_got (call_of id c).caller c.tasks t e)) h))) k r

      run : (k : ℕ) (t : TaskAt Spot) → slice_get c.tasks k ≡ Some t → t.own.status ≡ Running → slice_get (changed (call_of id c).caller (λ t. record t { own = pends x (call_of id c).at (runs t.own) }) c.tasks) k ≡ Some t
      run k t e running =
          other_task (call_of id c).caller k (λ t. record t { own = pends x (call_of id c).at (runs t.own) }) c.tasks
          (λ q. let clash : Calling ≡ Running = sym waiting ∙ (ap (λ j. (own_of j c).status) q ∙ (ap (λ (o : Own). o.status) (own_got k c.tasks t e) ∙ running)) in absurd cc)
          ∙ e

  queued_later : (n id k : ℕ) (x : Exception) (c : All Spot) (ids : List ℕ) → suc id ≤ k → RiseFrom k ids → QueuedOn n c ids → QueuedOn n (effect.end_call orders plan (flat_controls plan code).barrier (fails x) id c) ids
  queued_later n id k x c [] less r h = tt
  queued_later n id k x c (i ∷ is) less r h =
      let a = r.0 in
      let same : call_at i (changed id (λ (b : Call). record b { state = Done }) c.shared.calls) ≡ call_of i c = other_call id i (λ b. record b { state = Done }) c.shared.calls (λ e. absurd (omega (arith, e, a, less))) in
      let more : suc id ≤ suc i = omega (arith, a, less) in
      (ap (λ (b : Call). b.state) same ∙ h.0, ap (λ (b : Call). b.owner) same ∙ h.1, queued_later n id (suc i) x c is more r.1 h.2)

  refused : (raise : Raise) (n m : ℕ) (ids : List ℕ) (c : All Spot) → IsGood c → RiseFrom m ids → QueuedOn n c ids → Became c (effect.refuse orders plan (flat_controls plan code).barrier raise ids c)
  refused raise n m [] c w r h = stays_so c w
  refused raise n m (id ∷ ids) c w r h =
      let d : All Spot = effect.end_call orders plan (flat_controls plan code).barrier (fails (Predefined raise)) id c in
      let once : Became c d = refused_once (Predefined raise) n id c w h.0 h.1 in
      then_became c d (effect.refuse orders plan (flat_controls plan code).barrier raise ids d) once
      (refused raise n (suc id) ids d once.good r.1 (queued_later n id (suc id) (Predefined raise) c ids (omega arith) r.1 h.2))

  pub queues_refused : (n : ℕ) (c : All Spot) → IsGood c → Became c (effect.refuse_queues orders plan (flat_controls plan code).barrier n c)
  queues_refused n c w =
      let p : Call → Bool = (λ (a : Call). is_queued a.state && is_task n a.owner) in
      refused Tasking n 0 (calls_on_task n c.shared.calls) c w (rises p 0 c.shared.calls) (queued_on n c (calls_on_task n c.shared.calls) (passes_from p 0 c.shared.calls (λ i. call_of i c) (calls_found c.shared.calls)))

  -- Termination.

  abbrev ends_task : Own → Own
  ends_task own = record own { status = Terminated; pending = None; display = []; opened = []; waits = no_waits }

  ended_task : (n : ℕ) (c : All Spot) → IsGood c → Rests (own_of n c).status → Became c (on_own n ends_task c)
  ended_task n c w r = by (slice_get c.tasks n) refl
    where
      f : TaskAt Spot → TaskAt Spot
      f = λ t. record t { own = ends_task t.own }

      rests : (m : ℕ) → Rests (own_of m c).status → Rests (nth m (changed n (λ t. record t { own = ends_task t.own }) c.tasks)).status
      rests m h = changed_own (λ i own. Rests own.status) n (λ t. record t { own = ends_task t.own }) c.tasks (λ t e k. tt) m h

      run : (k : ℕ) (t : TaskAt Spot) → slice_get c.tasks k ≡ Some t → t.own.status ≡ Running → slice_get (changed n (λ t. record t { own = ends_task t.own }) c.tasks) k ≡ Some t
      run k t e running =
          other_task n k (λ t. record t { own = ends_task t.own }) c.tasks
          (λ q. subst (λ s. Rests s) (ap (λ j. (own_of j c).status) q ∙ (ap (λ (o : Own). o.status) (own_got k c.tasks t e) ∙ running)) r)
          ∙ e

      by : (o : Option (TaskAt Spot)) → slice_get c.tasks n ≡ o → Became c (on_own n ends_task c)
      by None e = subst (λ ts. Became c (record c { tasks = ts })) (sym (none_changed n (λ t. record t { own = ends_task t.own }) c.tasks e)) (stays_so c w)
      by (Some t) e =
          let rest : Rests t.own.status = subst (λ (o : Own). Rests o.status) (own_got n c.tasks t e) r in
          record {
            good = record {
              framed =
                  task_framed plan code seen n (λ t. record t { own = ends_task t.own }) c t e tt
                  (record {
                    live = λ h. absurd (true≢false h);
                    waits = λ id live mine h. absurd (rest_waits (call_of id c).owner t.own rest h.1);
                    serves = λ live s. absurd (true≢false live);
                    abnormal = λ h. h;
                  }) w.framed;
              spots = changed_spots plan code table tasks barriers seen sound fits ways n (λ t. record t { own = ends_task t.own }) c.tasks (λ t h. h) w.spots;
            };
            rests = rests;
            run = run;
          }

  pub terminated : (n : ℕ) (c : All Spot) → IsGood c → Rests (own_of n c).status → Became c (effect.terminate orders plan (flat_controls plan code).barrier n c)
  terminated n c w r =
      let d : All Spot = on_own n ends_task c in
      let once : Became c d = ended_task n c w r in
      then_became c d (effect.refuse_queues orders plan (flat_controls plan code).barrier n d) once (queues_refused n d once.good)

  abbrev pub EachRests : All Spot → List ℕ → Type 0
  EachRests c [] = Unit {0}
  EachRests c (n ∷ ns) = Rests (own_of n c).status × EachRests c ns

  rest_on : (c d : All Spot) (ns : List ℕ) → Became c d → EachRests c ns → EachRests d ns
  rest_on c d [] h r = tt
  rest_on c d (n ∷ ns) h r = (h.rests n r.0, rest_on c d ns h r.1)

  pub all_terminated : (ns : List ℕ) (c : All Spot) → IsGood c → EachRests c ns → Became c (effect.terminate_all orders plan (flat_controls plan code).barrier ns c)
  all_terminated [] c w r = stays_so c w
  all_terminated (n ∷ ns) c w r =
      let d : All Spot = effect.terminate orders plan (flat_controls plan code).barrier n c in
      let once : Became c d = terminated n c w r.0 in
      then_became c d (effect.terminate_all orders plan (flat_controls plan code).barrier ns d) once (all_terminated ns d once.good (rest_on c d ns once r.1))
