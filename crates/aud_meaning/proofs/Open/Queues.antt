-- What an empty queue says of calls, and what a task that waits for none of them says of queues.
use Rattle.std.proofs.Common.{◌≡◌, ℕ, zero, suc, List, [], ◌∷◌, Bool, true, false, cond, refl, sym, ap, ◌∙◌, subst, if◌then◌else◌}
use Rattle.std.specs.Prelude.{◌&&◌, nat_eq, nat_lt, is_some, not}
use Rattle.std.proofs.lemmas.Bool.{and_from, and_parts, eq-eqb, eqb-true, false_from_ne_true, false≢true, true≢false}
use Rattle.aud_text.specs.declared.place.Pos.{Pos}
use Rattle.aud_meaning.specs.declared.state.Status.TheVariants.{Accepting}
use Rattle.aud_meaning.specs.declared.state.Owner.{Owner}
use Rattle.aud_meaning.specs.declared.state.Owner.TheVariants as owner
use Rattle.aud_meaning.specs.declared.state.OpenAccept.{OpenAccept}
use Rattle.aud_meaning.specs.Configuration.{Waits, Own, Call, TaskAt, All}
use Rattle.aud_meaning.specs.Parts.{Waiting, blocks, call_of, insert, is_accepting, is_object, is_queued, is_task, numbers, on_own, open_alternatives, own_of, owner_number, queue, queue_from}
use Rattle.aud_meaning.specs.Why.Open.{IsOpen, IsSettled, IsUnmet, NoneMissed, accepts_for, queued_on}
use Rattle.aud_meaning.proofs.Open.Tasks.{call_at, changed_tasks}

abbrev Full : {A : Type 0} → List A → Type 0
Full [] = ⊥
Full (x ∷ xs) = Unit {0}

pub not_empty : {A : Type 0} (x : A) (xs : List A) → x ∷ xs ≡ [] → ⊥
not_empty x xs h = subst (λ l. Full l) h tt

never_empty : (w : Waiting) (ws : List Waiting) → insert w ws ≡ [] → ⊥
never_empty w [] h = not_empty w [] h
never_empty w (x ∷ xs) h = by (nat_lt w.arrival x.arrival) h
  where
    by : (b : Bool) → (if b then w ∷ x ∷ xs else x ∷ insert w xs) ≡ [] → ⊥
    by true e = not_empty w (x ∷ xs) e
    by false e = not_empty x (insert w xs) e

-- the call is in the queue
abbrev is_in : ℕ → ℕ → Call → Bool
is_in n entry c = is_queued c.state && nat_eq c.entry entry && nat_eq (owner_number c.owner) n

none_in : (id n entry : ℕ) (calls : List Call) → queue_from id n entry calls ≡ [] → (i : ℕ) → is_in n entry (call_at i calls) ≡ false
none_in id n entry [] h i = refl
none_in id n entry (c ∷ cs) h i = by (is_in n entry c) refl h i (none_in (suc id) n entry cs)
  where
    by : (b : Bool) → is_in n entry c ≡ b → (if b then insert (record { call = id; arrival = c.arrival; caller = c.caller }) (queue_from (suc id) n entry cs) else queue_from (suc id) n entry cs) ≡ [] → (j : ℕ) → (queue_from (suc id) n entry cs ≡ [] → (k : ℕ) → is_in n entry (call_at k cs) ≡ false) → is_in n entry (call_at j (c ∷ cs)) ≡ false
    by true e g j rest = absurd (never_empty (record { call = id; arrival = c.arrival; caller = c.caller }) (queue_from (suc id) n entry cs) g)
    by false e g zero rest = e
    by false e g (suc j) rest = rest g j

task_number : (n : ℕ) (o : Owner) → is_task n o ≡ true → nat_eq (owner_number o) n ≡ true
task_number n (owner.Task m) h = eq-eqb m n (sym (eqb-true n m h))
task_number n (owner.Object m) h = absurd (false≢true h)

-- Calls that no alternative is for.

-- the queues of these are empty
abbrev pub AllUnqueued : ℕ → List Call → List OpenAccept → Type 0
AllUnqueued n calls [] = Unit {0}
AllUnqueued n calls (a ∷ ones) = (queue n a.entry calls ≡ []) × AllUnqueued n calls ones

-- a call that is queued on the entry of a task is for none of them
unqueued : (n id : ℕ) (calls : List Call) (ones : List OpenAccept) → AllUnqueued n calls ones → is_queued (call_at id calls).state ≡ true → is_task n (call_at id calls).owner ≡ true → accepts_for (call_at id calls).entry ones ≡ []
unqueued n id calls [] h queued its = refl
unqueued n id calls (a ∷ ones) h queued its =
    ap (λ b. cond b (a ∷ accepts_for (call_at id calls).entry ones) (accepts_for (call_at id calls).entry ones)) other ∙ unqueued n id calls ones h.1 queued its
  where
    call : Call
    call = call_at id calls

    out : is_in n a.entry call ≡ false
    out = none_in 0 n a.entry calls h.0 id

    other : nat_eq a.entry call.entry ≡ false
    other =
        false_from_ne_true (nat_eq a.entry call.entry)
        (λ e.
        false≢true
        (sym out
        ∙ and_from (is_queued call.state && nat_eq call.entry a.entry) (nat_eq (owner_number call.owner) n)
        (and_from (is_queued call.state) (nat_eq call.entry a.entry) queued (eq-eqb call.entry a.entry (sym (eqb-true a.entry call.entry e))))
        (task_number n call.owner its)))

-- a task that services nothing blocks at accepts whose queues are empty
pub blocked_unmet : {C : Type 0} (waits : Waits) (at : Pos) (n : ℕ) (c : All C) → is_some (own_of n c).serving ≡ false → AllUnqueued n c.shared.calls waits.accepts → NoneMissed C c → NoneMissed C (on_own n (blocks Accepting at waits) c)
blocked_unmet {C} waits at n c free none w =
    let f : TaskAt C → TaskAt C = (λ t. record t { own = blocks Accepting at waits t.own }) in
    record {
      settled = λ m.
          changed_tasks (λ i own. IsSettled own) n f c.tasks
          (λ t e h. (λ accepting. absurd (true≢false accepting), λ serving. absurd (false≢true (sym free ∙ sym (ap (λ (o : Own). is_some o.serving) e) ∙ serving)))) m (w.settled m);
      unmet = λ m id.
          changed_tasks (λ i own. IsUnmet i own (call_of id c)) n f c.tasks (λ t e h queued its. unqueued n id c.shared.calls waits.accepts none queued its) m (w.unmet m id);
    }

-- Open entries.

missing : {P : Type 0} (own : Own) (entry : ℕ) → IsOpen own entry → accepts_for entry own.waits.accepts ≡ [] → P
missing own entry is_open none = absurd (is_open.1 none)

module _ (n entry : ℕ) (own : Own) (is_open : IsOpen own entry) where
  none_on : (id : ℕ) (calls : List Call) → ((i : ℕ) → IsUnmet n own (call_at i calls)) → numbers (λ (c : Call). is_queued c.state && nat_eq c.entry entry && is_task n c.owner) id calls ≡ []
  none_on id [] h = refl
  none_on id (c ∷ cs) h = by (is_queued c.state && nat_eq c.entry entry && is_task n c.owner) refl (none_on (suc id) cs (λ i. h (suc i)))
    where
      rest : List ℕ
      rest = numbers (λ (x : Call). is_queued x.state && nat_eq x.entry entry && is_task n x.owner) (suc id) cs

      by : (b : Bool) → (is_queued c.state && nat_eq c.entry entry && is_task n c.owner) ≡ b → rest ≡ [] → (if b then id ∷ rest else rest) ≡ []
      by true e g =
          let both = and_parts (is_queued c.state && nat_eq c.entry entry) (is_task n c.owner) e in
          let first = and_parts (is_queued c.state) (nat_eq c.entry entry) both.0 in
          missing own entry is_open (subst (λ x. accepts_for x own.waits.accepts ≡ []) (eqb-true c.entry entry first.1) (h 0 first.0 both.1))
      by false e g = g

-- a call is of a task's entry or of an object's
either_owner : (n : ℕ) (o : Owner) (b : Bool) → (b && is_task n o) ≡ false → (b && is_object n o) ≡ false → (b && nat_eq (owner_number o) n) ≡ false
either_owner n o false h i = refl
either_owner n (owner.Task m) true h i = false_from_ne_true (nat_eq m n) (λ e. false≢true (sym h ∙ eq-eqb n m (sym (eqb-true m n e))))
either_owner n (owner.Object m) true h i = false_from_ne_true (nat_eq m n) (λ e. false≢true (sym i ∙ eq-eqb n m (sym (eqb-true m n e))))

not_first : (p : Call → Bool) (id : ℕ) (c : Call) (cs : List Call) → numbers p id (c ∷ cs) ≡ [] → (p c ≡ false) × (numbers p (suc id) cs ≡ [])
not_first p id c cs h = by (p c) refl h
  where
    by : (b : Bool) → p c ≡ b → (if b then id ∷ numbers p (suc id) cs else numbers p (suc id) cs) ≡ [] → (p c ≡ false) × (numbers p (suc id) cs ≡ [])
    by true e g = absurd (not_empty id (numbers p (suc id) cs) g)
    by false e g = (e, g)

no_queue : (n entry id : ℕ) (calls : List Call) → numbers (λ (c : Call). is_queued c.state && nat_eq c.entry entry && is_task n c.owner) id calls ≡ [] → numbers (λ (c : Call). is_queued c.state && nat_eq c.entry entry && is_object n c.owner) id calls ≡ [] → queue_from id n entry calls ≡ []
no_queue n entry id [] h i = refl
no_queue n entry id (c ∷ cs) h i =
    let tasks = not_first (λ (x : Call). is_queued x.state && nat_eq x.entry entry && is_task n x.owner) id c cs h in
    let objects = not_first (λ (x : Call). is_queued x.state && nat_eq x.entry entry && is_object n x.owner) id c cs i in
    ap (λ b. if b then insert (record { call = id; arrival = c.arrival; caller = c.caller }) (queue_from (suc id) n entry cs) else queue_from (suc id) n entry cs)
    (either_owner n c.owner (is_queued c.state && nat_eq c.entry entry) tasks.0 objects.0)
    ∙ no_queue n entry (suc id) cs tasks.1 objects.1

module _ {C : Type 0} (c : All C) (w : NoneMissed C c) (n entry : ℕ) (is_open : IsOpen (own_of n c) entry) where
  pub none_queued : queued_on (is_task n) entry c.shared.calls ≡ []
  none_queued = none_on n entry (own_of n c) is_open 0 c.shared.calls (w.unmet n)

  pub queue_empty : queued_on (is_object n) entry c.shared.calls ≡ [] → queue n entry c.shared.calls ≡ []
  queue_empty objects = no_queue n entry 0 c.shared.calls none_queued objects

pub found_open : (own : Own) (entry : ℕ) → ¬ (open_alternatives own entry ≡ []) → IsOpen own entry
found_open own entry h = by (is_accepting own.status) own.abnormal refl refl
  where
    by : (b a : Bool) → is_accepting own.status ≡ b → own.abnormal ≡ a → IsOpen own entry
    by true true e f = absurd (h (ap (λ a. if is_accepting own.status && not a then accepts_for entry own.waits.accepts else []) f ∙ ap (λ b. if b && false then accepts_for entry own.waits.accepts else []) e))
    by true false e f =
        (e, λ none. h (ap (λ a. if is_accepting own.status && not a then accepts_for entry own.waits.accepts else []) f ∙ ap (λ b. if b && true then accepts_for entry own.waits.accepts else []) e ∙ none))
    by false a e f = absurd (h (ap (λ b. if b && not own.abnormal then accepts_for entry own.waits.accepts else []) e))
