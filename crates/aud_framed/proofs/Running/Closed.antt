-- What of all tasks is kept by each change that steps are made of.
use Rattle.std.proofs.Common.{◌≡◌, ◌⊎◌, ℕ, zero, suc, ◌+◌, List, [], ◌∷◌, ◌++◌, length, Some, None, Bool, true, false, refl, sym, ap, ◌∙◌, subst, if◌then◌else◌, slice_get, slice_index_or, arith}
use Rattle.std.specs.Prelude.{◌&&◌}
use Rattle.std.proofs.lemmas.Option.{same_Some}
use Rattle.aud_meaning.specs.declared.state.Again.{Again}
use Rattle.aud_meaning.specs.declared.state.CallState.{CallState}
use Rattle.aud_meaning.specs.declared.state.CallState.TheVariants.{Queued, Selected}
use Rattle.aud_meaning.specs.declared.state.Status.{Status}
use Rattle.aud_meaning.specs.declared.state.Status.TheVariants.{Created, Running, Activating, Accepting, Delaying, Calling, Completed, Terminated}
use Rattle.aud_meaning.specs.Configuration.{Object, Opened, Own, Call, TaskAt, All, Acting}
use Rattle.aud_meaning.specs.Effects.{closed, closed_by, is_loop, out_of, out_of_loops_by}
use Rattle.aud_meaning.specs.Parts.{call_of, changed, new_call, no_call, no_waits, numbers, on_call, on_object, on_own, on_task, own_of}
use Rattle.aud_code.specs.Places.{Spot}
use Rattle.aud_over.specs.Over.{is_call_over}
use Rattle.aud_over.specs.Standing.{EachIs}

-- Statuses.

pub not_running : Running ≡ Completed → ⊥
not_running e = absurd cc

pub not_activating : Activating ≡ Completed → ⊥
not_activating e = absurd cc

pub not_accepting : Accepting ≡ Completed → ⊥
not_accepting e = absurd cc

pub not_delaying : Delaying ≡ Completed → ⊥
not_delaying e = absurd cc

pub not_calling : Calling ≡ Completed → ⊥
not_calling e = absurd cc

pub not_created : Created ≡ Completed → ⊥
not_created e = absurd cc

pub not_terminated : Terminated ≡ Completed → ⊥
not_terminated e = absurd cc

-- another task wakes it up
abbrev pub WakesUp : Status → Type 0
WakesUp Created = Unit {0}
WakesUp Running = ⊥
WakesUp Activating = Unit {0}
WakesUp Accepting = Unit {0}
WakesUp Delaying = ⊥
WakesUp Calling = ⊥
WakesUp Completed = ⊥
WakesUp Terminated = ⊥

pub queued_live : (s : CallState) → s ≡ Queued → is_call_over s ≡ false
queued_live s e = ap is_call_over e

pub selected_live : (s : CallState) → s ≡ Selected → is_call_over s ≡ false
selected_live s e = ap is_call_over e

-- Frames that are left leave a task's status, and where it makes a call again.

pub closed_status : (os : List Opened) (own : Own) → (closed_by os own).status ≡ own.status
closed_status [] own = refl
closed_status (o ∷ os) own = refl

pub closed_again : (os : List Opened) (own : Own) → (closed_by os own).again ≡ own.again
closed_again [] own = refl
closed_again (o ∷ os) own = refl

pub out_status : (n : ℕ) (own : Own) → (out_of n own).status ≡ own.status
out_status zero own = refl
out_status (suc n) own = out_status n (closed own) ∙ closed_status own.opened own

pub out_again : (n : ℕ) (own : Own) → (out_of n own).again ≡ own.again
out_again zero own = refl
out_again (suc n) own = out_again n (closed own) ∙ closed_again own.opened own

pub loops_status : (os : List Opened) (own : Own) → (out_of_loops_by os own).status ≡ own.status
loops_status [] own = refl
loops_status (o ∷ os) own = by (is_loop o.purpose) (loops_status os (record own { display = o.saved; opened = os }))
  where
    by : (b : Bool) → (out_of_loops_by os (record own { display = o.saved; opened = os })).status ≡ own.status → (if b then out_of_loops_by os (record own { display = o.saved; opened = os }) else own).status ≡ own.status
    by true e = e
    by false e = refl

pub loops_again : (os : List Opened) (own : Own) → (out_of_loops_by os own).again ≡ own.again
loops_again [] own = refl
loops_again (o ∷ os) own = by (is_loop o.purpose) (loops_again os (record own { display = o.saved; opened = os }))
  where
    by : (b : Bool) → (out_of_loops_by os (record own { display = o.saved; opened = os })).again ≡ own.again → (if b then out_of_loops_by os (record own { display = o.saved; opened = os }) else own).again ≡ own.again
    by true e = e
    by false e = refl

pub closed_pending : (os : List Opened) (own : Own) → (closed_by os own).pending ≡ own.pending
closed_pending [] own = refl
closed_pending (o ∷ os) own = refl

pub out_pending : (n : ℕ) (own : Own) → (out_of n own).pending ≡ own.pending
out_pending zero own = refl
out_pending (suc n) own = out_pending n (closed own) ∙ closed_pending own.opened own

pub loops_pending : (os : List Opened) (own : Own) → (out_of_loops_by os own).pending ≡ own.pending
loops_pending [] own = refl
loops_pending (o ∷ os) own = by (is_loop o.purpose) (loops_pending os (record own { display = o.saved; opened = os }))
  where
    by : (b : Bool) → (out_of_loops_by os (record own { display = o.saved; opened = os })).pending ≡ own.pending → (if b then out_of_loops_by os (record own { display = o.saved; opened = os }) else own).pending ≡ own.pending
    by true e = e
    by false e = refl

-- Lists by their numbers.

pub got_back : {A : Type 0} (n : ℕ) (f : A → A) (xs : List A) (y : A) → slice_get (changed n f xs) n ≡ Some y → (x : A) × (slice_get xs n ≡ Some x) × (y ≡ f x)
got_back n f [] y e = absurd cc
got_back zero f (x ∷ xs) y e = (x, refl, sym (same_Some (f x) y e))
got_back (suc n) f (x ∷ xs) y e = got_back n f xs y e

pub got_or : {A : Type 0} (n : ℕ) (xs : List A) (x other : A) → slice_get xs n ≡ Some x → slice_index_or xs n other ≡ x
got_or n [] x other e = absurd cc
got_or zero (y ∷ ys) x other e = same_Some y x e
got_or (suc n) (y ∷ ys) x other e = got_or n ys x other e

pub joined_got : {A : Type 0} (P : A → Type 0) (n : ℕ) (xs more : List A) → ((x : A) → slice_get xs n ≡ Some x → P x) → ((i : ℕ) (x : A) → slice_get more i ≡ Some x → P x) → (x : A) → slice_get (xs ++ more) n ≡ Some x → P x
joined_got P n [] more g h x e = h n x e
joined_got P zero (y ∷ ys) more g h x e = g x e
joined_got P (suc n) (y ∷ ys) more g h x e = joined_got P n ys more g h x e

pub last_or : {A : Type 0} (xs : List A) (x other : A) → slice_index_or (xs ++ x ∷ []) (length xs) other ≡ x
last_or [] x other = refl
last_or (y ∷ ys) x other = last_or ys x other

pub changed_caller : (j id : ℕ) (g : Call → Call) (cs : List Call) → ((a : Call) → (g a).caller ≡ a.caller) → (slice_index_or (changed id g cs) j no_call).caller ≡ (slice_index_or cs j no_call).caller
changed_caller j id g [] h = refl
changed_caller zero zero g (a ∷ more) h = h a
changed_caller (suc j) zero g (a ∷ more) h = refl
changed_caller zero (suc id) g (a ∷ more) h = refl
changed_caller (suc j) (suc id) g (a ∷ more) h = changed_caller j id g more h

pub numbers_each : {A : Type 0} (p : A → Bool) (Q : ℕ → Type 0) (m : ℕ) (xs : List A) → ((i : ℕ) (x : A) → slice_get xs i ≡ Some x → p x ≡ true → Q (m + i)) → EachIs Q (numbers p m xs)
numbers_each p Q m [] h = tt
numbers_each {A} p Q m (x ∷ xs) h = by (p x) refl (numbers_each p Q (suc m) xs (λ i y e k. let z : m + suc i ≡ suc m + i = omega arith in subst Q z (h (suc i) y e k)))
  where
    by : (b : Bool) → p x ≡ b → EachIs Q (numbers p (suc m) xs) → EachIs Q (if b then m ∷ numbers p (suc m) xs else numbers p (suc m) xs)
    by true e k = (let z : m + 0 ≡ m = omega arith in subst Q z (h 0 x refl e), k)
    by false e k = k

pub each_as : (P Q : ℕ → Type 0) → ((n : ℕ) → P n → Q n) → (ns : List ℕ) → EachIs P ns → EachIs Q ns
each_as P Q f [] h = tt
each_as P Q f (n ∷ ns) h = (f n h.0, each_as P Q f ns h.1)

pub and_left : (a b : Bool) → a && b ≡ true → a ≡ true
and_left true b h = refl
and_left false b h = h

-- Changes of one task.

-- none becomes completed, and none makes a call again that did not
pub record Changes (own new : Own) : Type 0 where
  pub ended : new.status ≡ Completed → (own.status ≡ Completed) × (new.opened ≡ own.opened)
  pub again : (r : Again) → new.again ≡ Some r → own.again ≡ Some r

pub still : (own new : Own) → new.status ≡ own.status → new.opened ≡ own.opened → new.again ≡ own.again → Changes own new
still own new a b c = record { ended = λ done. (sym a ∙ done, b); again = λ r e. sym c ∙ e }

pub goes : (own new : Own) → (new.status ≡ Completed → ⊥) → new.again ≡ own.again → Changes own new
goes own new a c = record { ended = λ done. absurd (a done); again = λ r e. sym c ∙ e }

-- it stands where it stood, with its frames
pub record IsBeside (own new : Own) : Type 0 where
  pub status : new.status ≡ own.status
  pub pending : new.pending ≡ own.pending
  pub opened : new.opened ≡ own.opened
  pub again : new.again ≡ own.again

pub record IsNew (own : Own) : Type 0 where
  pub status : own.status ≡ Created
  pub again : own.again ≡ None

-- what a task does alone, and leaves its status
pub record IsQuiet (f : Acting Spot → Acting Spot) : Type 0 where
  pub status : (u : Acting Spot) → (f u).own.status ≡ u.own.status
  pub again : (u : Acting Spot) → (f u).own.again ≡ u.own.again
  pub calls : (u : Acting Spot) → (f u).shared.calls ≡ u.shared.calls
  pub objects : (u : Acting Spot) → (f u).shared.objects ≡ u.shared.objects

-- it is not completed
abbrev pub Busy : ℕ → All Spot → Type 0
Busy n c = (t : TaskAt Spot) → slice_get c.tasks n ≡ Some t → t.own.status ≡ Completed → ⊥

pub busy_then : (n : ℕ) (f : TaskAt Spot → TaskAt Spot) (c : All Spot) → ((t : TaskAt Spot) → slice_get c.tasks n ≡ Some t → (f t).own.status ≡ Completed → ⊥) → Busy n (on_task n f c)
busy_then n f c g u e done = let b = got_back n f c.tasks u e in g b.0 b.1 (ap (λ (x : TaskAt Spot). x.own.status) (sym b.2) ∙ done)

-- What is kept by the changes of steps: of the tasks that B holds of, others alone are changed besides.
pub record Closed (B : ℕ → Type 0) (P : All Spot → Type 0) : Type 0 where
  pub task : (n : ℕ) (f : TaskAt Spot → TaskAt Spot) (c : All Spot) → B n → ((t : TaskAt Spot) → slice_get c.tasks n ≡ Some t → Changes t.own (f t).own) → P c → P (on_task n f c)
  pub beside : (n : ℕ) (f : Own → Own) (c : All Spot) → ((own : Own) → IsBeside own (f own)) → P c → P (on_own n f c)
  pub terminated : (n : ℕ) (c : All Spot) → P c → P (on_own n (λ own. record own { status = Terminated; pending = None; display = []; opened = []; waits = no_waits }) c)
  pub more : (ts : List (TaskAt Spot)) (c : All Spot) → ((i : ℕ) (t : TaskAt Spot) → slice_get ts i ≡ Some t → IsNew t.own) → P c → P (record c { tasks = c.tasks ++ ts })
  pub call : (id : ℕ) (g : Call → Call) (c : All Spot) → ((a : Call) → (g a).caller ≡ a.caller) → ((a : Call) → is_call_over (g a).state ≡ true) ⊎ B (call_of id c).caller → P c → P (on_call id g c)
  pub made : (a : Call) (c : All Spot) → B a.caller → P c → P (new_call a c)
  pub object : (n : ℕ) (f : Object → Object) (c : All Spot) → P c → P (on_object n f c)
  pub rest : (c d : All Spot) → c.tasks ≡ d.tasks → c.shared.calls ≡ d.shared.calls → c.shared.objects ≡ d.shared.objects → P c → P d
  -- the callers of calls that are not over, and who is woken up
  pub live : (id : ℕ) (c : All Spot) → P c → is_call_over (call_of id c).state ≡ false → B (call_of id c).caller
  pub wakes : (n : ℕ) (c : All Spot) → P c → WakesUp (own_of n c).status → B n
