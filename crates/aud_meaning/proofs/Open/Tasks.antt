-- What a change of a task lets be, and the task and the call of a number after changes.
use Rattle.std.proofs.Common.{◌≡◌, ℕ, zero, suc, List, [], ◌∷◌, ◌++◌, length, Option, Some, None, Bool, true, false, refl, sym, ap, ◌∙◌, subst, if◌then◌else◌, slice_get, slice_index_or}
use Rattle.aud_meaning.specs.declared.state.Status.{Status}
use Rattle.aud_meaning.specs.declared.state.Serving.{Serving}
use Rattle.aud_meaning.specs.Configuration.{Opened, Waits, Own, Call, TaskAt}
use Rattle.aud_meaning.specs.Effects.{closed, closed_by, is_loop, out_of_loops, out_of_loops_by, out_of}
use Rattle.aud_meaning.specs.Parts.{changed, no_call, nobody}
use Rattle.aud_meaning.specs.Why.Open.{IsSettled, IsStill, accepts_for}
use Rattle.aud_meaning.proofs.Limits.Frames.{nth}

-- what counts of a task
pub record Core : Type 0 where
  pub status : Status
  pub serving : Option Serving
  pub abnormal : Bool
  pub waits : Waits

abbrev pub core : Own → Core
core own = record { status = own.status; serving = own.serving; abnormal = own.abnormal; waits = own.waits }

abbrev whole : Core → Own
whole k = record nobody { status = k.status; serving = k.serving; abnormal = k.abnormal; waits = k.waits }

-- the new one waits for nothing that the old one didn't wait for
pub record Lets (own new : Own) : Type 0 where
  pub settled : IsSettled own → IsSettled new
  pub still : IsStill own → IsStill new
  pub accepts : (entry : ℕ) → accepts_for entry own.waits.accepts ≡ [] → accepts_for entry new.waits.accepts ≡ []

pub alike : {own new : Own} → core new ≡ core own → Lets own new
alike {own} {new} e = record {
  settled = λ h. subst (λ k. IsSettled (whole k)) (sym e) h;
  still = λ h. subst (λ k. IsStill (whole k)) (sym e) h;
  accepts = λ entry h. subst (λ k. accepts_for entry (whole k).waits.accepts ≡ []) (sym e) h;
}

-- it waits for nothing
pub stops : {own new : Own} → new.waits.accepts ≡ [] → Lets own new
stops e = record { settled = λ h. (λ _. λ _. e, λ _. λ _. e); still = λ h. λ _. e; accepts = λ entry h. ap (accepts_for entry) e }

-- one that is still may do anything else
pub rests : {own new : Own} → new.abnormal ≡ own.abnormal → new.waits ≡ own.waits → IsStill own → Lets own new
rests {own} {new} same waits h =
    let still : IsStill new = (λ e. ap (λ (w : Waits). w.accepts) waits ∙ h (sym same ∙ e)) in
    record {
      settled = λ _. (λ _. still, λ _. still);
      still = λ _. still;
      accepts = λ entry e. ap (λ (w : Waits). accepts_for entry w.accepts) waits ∙ e;
    }

pub either_lets : {own x y : Own} (b : Bool) → Lets own x → Lets own y → Lets own (if b then x else y)
either_lets true h i = h
either_lets false h i = i

-- Frames that are left.

closed_core_by : (os : List Opened) (own : Own) → core (closed_by os own) ≡ core own
closed_core_by [] own = refl
closed_core_by (o ∷ os) own = refl

pub closed_core : (own : Own) → core (closed own) ≡ core own
closed_core own = closed_core_by own.opened own

loops_core_by : (os : List Opened) (own : Own) → core (out_of_loops_by os own) ≡ core own
loops_core_by [] own = refl
loops_core_by (o ∷ os) own = by (is_loop o.purpose) (loops_core_by os (record own { display = o.saved; opened = os }))
  where
    by : (b : Bool) → core (out_of_loops_by os (record own { display = o.saved; opened = os })) ≡ core own → core (if b then out_of_loops_by os (record own { display = o.saved; opened = os }) else own) ≡ core own
    by true e = e
    by false e = refl

pub loops_core : (own : Own) → core (out_of_loops own) ≡ core own
loops_core own = loops_core_by own.opened own

pub out_core : (n : ℕ) (own : Own) → core (out_of n own) ≡ core own
out_core zero own = refl
out_core (suc n) own = out_core n (closed own) ∙ closed_core own

-- Calls.

abbrev pub call_at : ℕ → List Call → Call
call_at id calls = slice_index_or calls id no_call

module _ (P : Call → Type 0) where
  pub changed_calls : (id : ℕ) (f : Call → Call) (calls : List Call) → ((call : Call) → call ≡ call_at id calls → P call → P (f call)) → (i : ℕ) → P (call_at i calls) → P (call_at i (changed id f calls))
  changed_calls id f [] g i h = h
  changed_calls zero f (c ∷ cs) g zero h = g c refl h
  changed_calls zero f (c ∷ cs) g (suc i) h = h
  changed_calls (suc id) f (c ∷ cs) g zero h = h
  changed_calls (suc id) f (c ∷ cs) g (suc i) h = changed_calls id f cs g i h

  pub one_call_more : (call : Call) (calls : List Call) → P call → (i : ℕ) → P (call_at i calls) → P (call_at i (calls ++ call ∷ []))
  one_call_more call [] g zero h = g
  one_call_more call [] g (suc i) h = h
  one_call_more call (c ∷ cs) g zero h = h
  one_call_more call (c ∷ cs) g (suc i) h = one_call_more call cs g i h

pub changed_call : (P : Call → Type 0) (id : ℕ) (f : Call → Call) (calls : List Call) → P no_call → ((call : Call) → call ≡ call_at id calls → P (f call)) → P (call_at id (changed id f calls))
changed_call P id f [] none g = none
changed_call P zero f (c ∷ cs) none g = g c refl
changed_call P (suc id) f (c ∷ cs) none g = changed_call P id f cs none g

pub last_call : (calls : List Call) (call : Call) → call_at (length calls) (calls ++ call ∷ []) ≡ call
last_call [] call = refl
last_call (c ∷ cs) call = last_call cs call

-- Tasks.

module _ {C : Type 0} where
  pub changed_tasks : (P : ℕ → Own → Type 0) (n : ℕ) (f : TaskAt C → TaskAt C) (ts : List (TaskAt C)) → ((t : TaskAt C) → t.own ≡ nth n ts → P n t.own → P n (f t).own) → (m : ℕ) → P m (nth m ts) → P m (nth m (changed n f ts))
  changed_tasks P n f [] g m h = h
  changed_tasks P zero f (t ∷ ts) g zero h = g t refl h
  changed_tasks P zero f (t ∷ ts) g (suc m) h = h
  changed_tasks P (suc n) f (t ∷ ts) g zero h = h
  changed_tasks P (suc n) f (t ∷ ts) g (suc m) h = changed_tasks (λ i. P (suc i)) n f ts g m h

  pub more_tasks : (P : Own → Type 0) (ts us : List (TaskAt C)) → ((i : ℕ) → P (nth i us)) → (m : ℕ) → P (nth m ts) → P (nth m (ts ++ us))
  more_tasks P [] us g m h = g m
  more_tasks P (t ∷ ts) us g zero h = h
  more_tasks P (t ∷ ts) us g (suc m) h = more_tasks P ts us g m h

  abbrev pub Got : Option (TaskAt C) → Own → Type 0
  Got None own = Unit {0}
  Got (Some t) own = t.own ≡ own

  pub got : (n : ℕ) (ts : List (TaskAt C)) → Got (slice_get ts n) (nth n ts)
  got n [] = tt
  got zero (t ∷ ts) = refl
  got (suc n) (t ∷ ts) = got n ts
