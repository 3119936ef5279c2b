-- Tasks that complete.
use Rattle.std.proofs.Common.{◌≡◌, ℕ, List, [], ◌∷◌, Option, Some, None, Bool, true, false, refl, sym, ap, ◌∙◌, subst, slice_get}
use Rattle.std.proofs.lemmas.Bool.{eqb-true, eq-eqb, false≢true, true≢false}
use Rattle.std.specs.Prelude.{◌||◌, is_some, nat_eq}
use Rattle.aud_text.specs.declared.raise.Raise.TheVariants.{Tasking}
use Rattle.aud_typed.specs.declared.program.Exception.{Exception}
use Rattle.aud_typed.specs.declared.program.Exception.TheVariants.{Predefined}
use Rattle.aud_typed.specs.Tree.{Plan}
use Rattle.aud_meaning.specs.declared.state.CallState.{CallState}
use Rattle.aud_meaning.specs.declared.state.CallState.TheVariants.{Selected, Done}
use Rattle.aud_meaning.specs.declared.state.Owner.{Owner}
use Rattle.aud_meaning.specs.declared.state.Owner.TheVariants as owner
use Rattle.aud_meaning.specs.declared.state.Restart.{Restart}
use Rattle.aud_meaning.specs.declared.state.Status.TheVariants.{Calling, Completed}
use Rattle.aud_meaning.specs.Configuration.{Purpose, for_body, for_block, for_loop, for_procedure, for_operation, for_entry, for_accept, Opened, Own, Call, TaskAt, All}
use Rattle.aud_meaning.specs.Effects.{pends}
use Rattle.aud_meaning.specs.Parts.{any, call_of, changed, contains, fails, is_over, no_waits, numbers, on_own, on_task, own_of, runs}
use Rattle.aud_meaning.specs.Tasks as effect
use Rattle.aud_meaning.proofs.Open.Tasks.{call_at}
use Rattle.aud_code.specs.Places.{Spot}
use Rattle.aud_code.specs.Flat.{Flat, flat_controls}
use Rattle.aud_code.specs.Seen.{IsSeen}
use Rattle.aud_code.specs.Sound.{Counts, IsSound}
use Rattle.aud_code.specs.Starts.{IsSpot}
use Rattle.aud_over.specs.Over.{is_call_over}
use Rattle.aud_framed.specs.Calls.{AreApart, CallerWaits, Serves, ServesIn, Waits, calls_in, with_restarted}
use Rattle.aud_framed.specs.Stepping.{HasWays}
use Rattle.aud_framed.proofs.Stepping.Activation.{activation_over}
use Rattle.aud_framed.proofs.Stepping.Blocks.{own_changed}
use Rattle.aud_framed.proofs.Stepping.Calls.{IsUnserved, other_call, served_by}
use Rattle.aud_framed.proofs.Stepping.Closing.{AllRest, each_created, each_rests, owns_found}
use Rattle.aud_framed.proofs.Stepping.Ending.{Good, end_call_good, task_caller}
use Rattle.aud_framed.proofs.Stepping.Leaving.{got_changed}
use Rattle.aud_framed.proofs.Stepping.Parts.{changed_own, own_got}
use Rattle.aud_framed.proofs.Stepping.Refusing.{Rests, all_terminated, orders, queues_refused}
use Rattle.aud_framed.proofs.Stepping.Tasks.{fused, task_good}

-- Whose calls are that are served.

abbrev IsOfTask : ℕ → Owner → Type 0
IsOfTask m (owner.Task n) = n ≡ m
IsOfTask m (owner.Object n) = Unit {0}

served_owner : (plan : Plan) (c : All Spot) (m id : ℕ) (own : Own) → Serves plan c m own → contains id (served_by own) ≡ true → IsOfTask m (call_of id c).owner
served_owner plan c m id own s h = made own.restart refl h
  where
    of : (i : ℕ) (o : Owner) → (call_of i c).owner ≡ o → IsOfTask m o → nat_eq id i ≡ true → IsOfTask m (call_of id c).owner
    of i o e k same = subst (λ j. IsOfTask m (call_of j c).owner) (sym (eqb-true id i same)) (subst (λ x. IsOfTask m x) (sym e) k)

    opened : (os : List Opened) → ServesIn plan c m os → contains id (calls_in os) ≡ true → IsOfTask m (call_of id c).owner
    opened [] k e = absurd (false≢true e)
    opened (o ∷ os) k e = by o.purpose k e (opened os)
      where
        first : (i : ℕ) (x : Owner) → (call_of i c).owner ≡ x → IsOfTask m x → (b : Bool) → nat_eq id i ≡ b → b || contains id (calls_in os) ≡ true → (contains id (calls_in os) ≡ true → IsOfTask m (call_of id c).owner) → IsOfTask m (call_of id c).owner
        first i x e k true q g on = of i x e k q
        first i x e k false q g on = on g

        by : (p : Purpose) → ServesIn plan c m (record o { purpose = p } ∷ os) → contains id (calls_in (record o { purpose = p } ∷ os)) ≡ true → (ServesIn plan c m os → contains id (calls_in os) ≡ true → IsOfTask m (call_of id c).owner) → IsOfTask m (call_of id c).owner
        by for_body k e on = on k.1 e
        by for_block k e on = on k.1 e
        by for_loop k e on = on k.1 e
        by (for_procedure r) k e on = on k.1 e
        by (for_operation n r) k e on = on k.1 e
        by (for_entry n i served back) k e on = first i (owner.Object n) k.0.0.1 tt (nat_eq id i) refl e (on k.1)
        by (for_accept i) k e on = first i (owner.Task m) k.0.0.1 refl (nat_eq id i) refl e (on k.1)

    made : (r : Option Restart) → own.restart ≡ r → contains id (with_restarted r (calls_in own.opened)) ≡ true → IsOfTask m (call_of id c).owner
    made None e k = opened own.opened s.opened k
    made (Some r) e k = by (nat_eq id r.call) refl k
      where
        by : (b : Bool) → nat_eq id r.call ≡ b → b || contains id (calls_in own.opened) ≡ true → IsOfTask m (call_of id c).owner
        by true q g = of r.call (owner.Task m) (s.restart r e).served.1 refl q
        by false q g = opened own.opened s.opened g

-- Calls that a task that is over was serving.
abbrev Orphans : ℕ → List Call → List ℕ → Type 0
Orphans n calls [] = Unit {0}
Orphans n calls (id ∷ ids) = ((call_at id calls).state ≡ Selected) × ((call_at id calls).owner ≡ owner.Task n) × (contains id ids ≡ false) × Orphans n calls ids

selected_live : (s : CallState) → s ≡ Selected → is_call_over s ≡ false
selected_live s e = ap is_call_over e

module _ (plan : Plan) (code : Flat) (table : List Counts) (tasks barriers seen : List ℕ) (sound : IsSound code) (fits : IsSeen code table tasks barriers seen) (ways : HasWays code) where
  abbrev pub Kept : All Spot → Type 0
  Kept c = Good plan code table tasks barriers seen sound fits ways c

  unserved_orphan : (n id : ℕ) (c : All Spot) → Kept c → is_over (own_of n c).status ≡ true → (call_of id c).owner ≡ owner.Task n → IsUnserved id c
  unserved_orphan n id c w over its m live = by (contains id (served_by (own_of m c))) refl
    where
      by : (b : Bool) → contains id (served_by (own_of m c)) ≡ b → b ≡ false
      by false e = refl
      by true e =
          let same : n ≡ m = subst (λ o. IsOfTask m o) its (served_owner plan c m id (own_of m c) (w.framed.serves m live) e) in
          absurd (true≢false (sym (subst (λ j. is_over (own_of j c).status ≡ true) same over) ∙ live))

  orphans_later : (n id : ℕ) (f : Call → Call) (c : All Spot) (ids : List ℕ) → contains id ids ≡ false → Orphans n c.shared.calls ids → Orphans n (changed id f c.shared.calls) ids
  orphans_later n id f c [] e h = tt
  orphans_later n id f c (i ∷ is) e h = by (nat_eq id i) refl e (λ g. orphans_later n id f c is g h.3)
    where
      by : (b : Bool) → nat_eq id i ≡ b → b || contains id is ≡ false → (contains id is ≡ false → Orphans n (changed id f c.shared.calls) is) → Orphans n (changed id f c.shared.calls) (i ∷ is)
      by true q g on = absurd (true≢false g)
      by false q g on =
          let same : call_at i (changed id f c.shared.calls) ≡ call_of i c = other_call id i f c.shared.calls (λ x. true≢false (sym (eq-eqb id i x) ∙ q)) in
          (ap (λ (a : Call). a.state) same ∙ h.0, ap (λ (a : Call). a.owner) same ∙ h.1, h.2, on g)

  -- what rests goes on resting
  record Settled (c d : All Spot) : Type 0 where
    good : Kept d
    rests : (m : ℕ) → Rests (own_of m c).status → Rests (own_of m d).status

  -- they are refused
  orphans_refused : (n : ℕ) (ids : List ℕ) (c : All Spot) → Kept c → is_over (own_of n c).status ≡ true → Orphans n c.shared.calls ids → Settled c (effect.refuse (orders plan code table tasks barriers seen sound fits ways) plan (flat_controls plan code).barrier Tasking ids c)
  orphans_refused n [] c w over h = record { good = w; rests = λ m r. r }
  orphans_refused n (id ∷ ids) c w over h =
      let x : Exception = Predefined Tasking in
      let live : is_call_over (call_of id c).state ≡ false = selected_live (call_of id c).state h.0 in
      let waiting : (own_of (call_of id c).caller c).status ≡ Calling = task_caller n (own_of (call_of id c).caller c) (subst (λ o. Waits o (own_of (call_of id c).caller c)) h.1 (w.framed.calls id live).1) in
      let d : All Spot = effect.end_call (orders plan code table tasks barriers seen sound fits ways) plan (flat_controls plan code).barrier (fails x) id c in
      let f : TaskAt Spot → TaskAt Spot = (λ t. record t { own = pends x (call_of id c).at (runs t.own) }) in
      let good : Kept d = end_call_good plan code table tasks barriers seen sound fits ways (fails x) id c w live (unserved_orphan n id c w over h.1) waiting in
      let calling : (t : TaskAt Spot) → slice_get c.tasks (call_of id c).caller ≡ Some t → t.own.status ≡ Calling = (λ t e. ap (λ (o : Own). o.status) (sym (own_got (call_of id c).caller c.tasks t e)) ∙ waiting) in
      let still : is_over (own_of n d).status ≡ true =
      changed_own (λ i own. is_over own.status ≡ true) (call_of id c).caller f c.tasks (λ t e k. absurd (false≢true (ap is_over (sym (calling t e)) ∙ k))) n over in
      let rest : (m : ℕ) → Rests (own_of m c).status → Rests (own_of m d).status =
      (λ m r. changed_own (λ i own. Rests own.status) (call_of id c).caller f c.tasks (λ t e k. absurd (subst (λ st. Rests st) (calling t e) k)) m r) in
      let later = orphans_refused n ids d good still (orphans_later n id (λ a. record a { state = Done }) c ids h.2 h.3) in
      record { good = later.good; rests = λ m r. later.rests m (rest m r) }

  orphans_in : (n : ℕ) (c : All Spot) (os : List Opened) → ServesIn plan c n os → AreApart (calls_in os) → Orphans n c.shared.calls (effect.accepts_under_way (orders plan code table tasks barriers seen sound fits ways) plan (flat_controls plan code).barrier os)
  orphans_in n c [] h a = tt
  orphans_in n c (o ∷ os) h a = by o.purpose h a (orphans_in n c os)
    where
      accepts : List Opened → List ℕ
      accepts = effect.accepts_under_way (orders plan code table tasks barriers seen sound fits ways) plan (flat_controls plan code).barrier

      by : (p : Purpose) → ServesIn plan c n (record o { purpose = p } ∷ os) → AreApart (calls_in (record o { purpose = p } ∷ os)) → (ServesIn plan c n os → AreApart (calls_in os) → Orphans n c.shared.calls (effect.accepts_under_way (orders plan code table tasks barriers seen sound fits ways) plan (flat_controls plan code).barrier os)) → Orphans n c.shared.calls (effect.accepts_under_way (orders plan code table tasks barriers seen sound fits ways) plan (flat_controls plan code).barrier (record o { purpose = p } ∷ os))
      by for_body h a on = on h.1 a
      by for_block h a on = on h.1 a
      by for_loop h a on = on h.1 a
      by (for_procedure r) h a on = on h.1 a
      by (for_operation m r) h a on = on h.1 a
      by (for_entry m id served back) h a on = on h.1 a.1
      by (for_accept id) h a on = (h.0.0.0, h.0.0.1, fewer os a.0, on h.1 a.1)
        where
          fewer : (ps : List Opened) → contains id (calls_in ps) ≡ false → contains id (effect.accepts_under_way (orders plan code table tasks barriers seen sound fits ways) plan (flat_controls plan code).barrier ps) ≡ false
          fewer [] e = refl
          fewer (q ∷ qs) e = one q.purpose e (fewer qs)
            where
              rest : (b s : Bool) → b || s ≡ false → s ≡ false
              rest true s e = absurd (true≢false e)
              rest false s e = e

              both : (b s r : Bool) → b || s ≡ false → r ≡ false → b || r ≡ false
              both true s r e g = e
              both false s r e g = g

              one : (p : Purpose) → contains id (calls_in (record q { purpose = p } ∷ qs)) ≡ false → (contains id (calls_in qs) ≡ false → contains id (effect.accepts_under_way (orders plan code table tasks barriers seen sound fits ways) plan (flat_controls plan code).barrier qs) ≡ false) → contains id (effect.accepts_under_way (orders plan code table tasks barriers seen sound fits ways) plan (flat_controls plan code).barrier (record q { purpose = p } ∷ qs)) ≡ false
              one for_body e on = on e
              one for_block e on = on e
              one for_loop e on = on e
              one (for_procedure r) e on = on e
              one (for_operation m r) e on = on e
              one (for_entry m i served back) e on = on (rest (nat_eq id i) (contains id (calls_in qs)) e)
              one (for_accept i) e on = both (nat_eq id i) (contains id (calls_in qs)) _ e (on (rest (nat_eq id i) (contains id (calls_in qs)) e))

  apart_opened : (r : Option Restart) (ns : List ℕ) → AreApart (with_restarted r ns) → AreApart ns
  apart_opened None ns a = a
  apart_opened (Some r) ns a = a.1

  -- a task completes that calls nobody, wherever it went
  module _ (raised : Option Exception) (n : ℕ) (c : All Spot) (t : TaskAt Spot) (to : Spot → Spot) (w : Kept c) (is : slice_get c.tasks n ≡ Some t) (alive : is_over t.own.status ≡ false) (places : (s : Spot) → IsSpot code.lines s → IsSpot code.lines (to s)) (calls : (id : ℕ) → is_call_over (call_of id c).state ≡ false → (call_of id c).caller ≡ n → CallerWaits id (call_of id c) t.own → ⊥) where
    abbrev pub start : TaskAt Spot → TaskAt Spot
    start u = record u { control = to u.control; own = record u.own { pending = None } }

    abbrev done : Own → Own
    done own = record own { status = Completed; pending = None; raised = raised; waits = no_waits }

    abbrev both : TaskAt Spot → TaskAt Spot
    both u = record { control = to u.control; own = record u.own { status = Completed; pending = None; raised = raised; waits = no_waits } }

    abbrev over : All Spot
    over = on_own n done (on_task n start c)

    both_good : Kept (on_task n both c)
    both_good =
        task_good plan code table tasks barriers seen sound fits ways n both c t is tt
        (record {
          live = λ h. absurd (true≢false h);
          waits = λ id live mine h. absurd (calls id live mine h);
          serves = λ live s. absurd (true≢false live);
          abnormal = λ h. h;
        }) (λ u h. places u.control h) w

    over_good : Kept over
    over_good = subst (λ ts. Kept (record c { tasks = ts })) (sym (fused n (λ (u : TaskAt Spot). record u { own = done u.own }) start c.tasks)) both_good

    is_done : is_over (own_of n over).status ≡ true
    is_done = ap (λ (o : Own). is_over o.status) (own_changed n (λ (u : TaskAt Spot). record u { own = done u.own }) (changed n start c.tasks) (start t) (got_changed n start c.tasks t is))

    mine : Serves plan c n t.own
    mine = subst (λ o. Serves plan c n o) (own_got n c.tasks t is) (w.framed.serves n (ap (λ (o : Own). is_over o.status) (own_got n c.tasks t is) ∙ alive))

    orphans : Orphans n c.shared.calls (effect.accepts_under_way (orders plan code table tasks barriers seen sound fits ways) plan (flat_controls plan code).barrier t.own.opened)
    orphans = orphans_in n c t.own.opened mine.opened (apart_opened t.own.restart (calls_in t.own.opened) mine.calls)

    abbrev go : All Spot → Type 0
    go d = Kept d

    abbrev refused : List Opened → All Spot
    refused os = effect.refuse (orders plan code table tasks barriers seen sound fits ways) plan (flat_controls plan code).barrier Tasking (effect.accepts_under_way (orders plan code table tasks barriers seen sound fits ways) plan (flat_controls plan code).barrier os) over

    abbrev created_ones : List Opened → List ℕ
    created_ones os = numbers (effect.created_in (orders plan code table tasks barriers seen sound fits ways) plan (flat_controls plan code).barrier os) 0 (on_task n start c).tasks

    abbrev ended : List Opened → All Spot
    ended os =
        effect.activation_ended (orders plan code table tasks barriers seen sound fits ways) plan (flat_controls plan code).barrier (is_some raised) n
        (effect.terminate_all (orders plan code table tasks barriers seen sound fits ways) plan (flat_controls plan code).barrier (created_ones os) (effect.refuse_queues (orders plan code table tasks barriers seen sound fits ways) plan (flat_controls plan code).barrier n (refused os)))

    resting : (ns : List ℕ) (d : All Spot) → AllRest (λ i. own_of i (on_task n start c)) ns → ((m : ℕ) → Rests (own_of m over).status → Rests (own_of m d).status) → AllRest (λ i. own_of i d) ns
    resting [] d h f = tt
    resting (m ∷ ms) d h f =
        (f m (changed_own (λ i own. Rests own.status) n (λ (u : TaskAt Spot). record u { own = done u.own }) (changed n start c.tasks) (λ u e k. tt) m h.0), resting ms d h.1 f)

    ended_good : Kept (ended t.own.opened)
    ended_good =
        let s1 = orphans_refused n (effect.accepts_under_way (orders plan code table tasks barriers seen sound fits ways) plan (flat_controls plan code).barrier t.own.opened) over over_good is_done orphans in
        let s2 = queues_refused plan code table tasks barriers seen sound fits ways n (refused t.own.opened) s1.good in
        let d : All Spot = effect.refuse_queues (orders plan code table tasks barriers seen sound fits ways) plan (flat_controls plan code).barrier n (refused t.own.opened) in
        let ns : List ℕ = created_ones t.own.opened in
        let rests : AllRest (λ i. own_of i d) ns =
        resting ns d (each_created (λ (u : TaskAt Spot). any (λ (o : Opened). nat_eq o.frame u.own.part) t.own.opened) 0 (on_task n start c).tasks (λ i. own_of i (on_task n start c)) (owns_found (on_task n start c).tasks)) (λ m r. s2.rests m (s1.rests m r)) in
        let s3 = all_terminated plan code table tasks barriers seen sound fits ways ns d s2.good (each_rests plan code table tasks barriers seen sound fits ways d ns rests) in
        activation_over plan code table tasks barriers seen sound fits ways (is_some raised) n _ s3.good

    pub completed : Kept (effect.completes (orders plan code table tasks barriers seen sound fits ways) plan (flat_controls plan code).barrier raised n (on_task n start c))
    completed = subst (λ os. Kept (ended os)) (sym (ap (λ (o : Own). o.opened) (own_changed n start c.tasks t is))) ended_good
