-- Who waits for nobody stays where it stands until its own step, and makes no call again that it did not.
use Rattle.std.proofs.Common.{◌≡◌, ◌⊎◌, ℕ, zero, suc, List, [], ◌∷◌, ◌++◌, Option, Some, None, true, false, refl, sym, ap, ◌∙◌, subst, inl, inr, slice_get, slice_index_or}
use Rattle.std.proofs.lemmas.Bool.{true≢false}
use Rattle.aud_meaning.specs.declared.state.Again.{Again}
use Rattle.aud_meaning.specs.declared.state.Status.TheVariants.{Terminated}
use Rattle.aud_meaning.specs.Configuration.{Object, Own, Call, TaskAt, All}
use Rattle.aud_meaning.specs.Parts.{call_of, changed, no_call, no_waits, on_task, own_of}
use Rattle.aud_meaning.proofs.Limits.Frames.{nth}
use Rattle.aud_code.specs.Places.{Spot}
use Rattle.aud_over.specs.Over.{is_call_over}
use Rattle.aud_framed.proofs.Running.Closed.{Closed, IsNew, WakesUp}
use Rattle.aud_framed.proofs.Running.Ended.{Anyone, joined_own}
use Rattle.aud_framed.proofs.Stepping.Parts.{changed_own, own_got}

-- Lists by their numbers.

changed_got : (n k : ℕ) (f : TaskAt Spot → TaskAt Spot) (ts : List (TaskAt Spot)) (u : TaskAt Spot) → slice_get ts k ≡ Some u → (slice_get (changed n f ts) k ≡ Some u) ⊎ (slice_get (changed n f ts) k ≡ Some (f u))
changed_got n k f [] u e = inl e
changed_got zero zero f (t ∷ ts) u e = inr (ap (λ o. by o) e)
  where
    by : Option (TaskAt Spot) → Option (TaskAt Spot)
    by None = None
    by (Some x) = Some (f x)
changed_got zero (suc k) f (t ∷ ts) u e = inl e
changed_got (suc n) zero f (t ∷ ts) u e = inl e
changed_got (suc n) (suc k) f (t ∷ ts) u e = changed_got n k f ts u e

changed_other : (n k : ℕ) (f : TaskAt Spot → TaskAt Spot) (ts : List (TaskAt Spot)) → ¬ (n ≡ k) → slice_get (changed n f ts) k ≡ slice_get ts k
changed_other n k f [] differs = refl
changed_other zero zero f (t ∷ ts) differs = absurd (differs refl)
changed_other zero (suc k) f (t ∷ ts) differs = refl
changed_other (suc n) zero f (t ∷ ts) differs = refl
changed_other (suc n) (suc k) f (t ∷ ts) differs = changed_other n k f ts (λ e. differs (ap suc e))

more_got : (k : ℕ) (ts more : List (TaskAt Spot)) (u : TaskAt Spot) → slice_get ts k ≡ Some u → slice_get (ts ++ more) k ≡ Some u
more_got k [] more u e = absurd cc
more_got zero (t ∷ ts) more u e = e
more_got (suc k) (t ∷ ts) more u e = more_got k ts more u e

call_changed : (P : Call → Type 0) (id j : ℕ) (g : Call → Call) (cs : List Call) → P (slice_index_or cs j no_call) → (id ≡ j → P (g (slice_index_or cs j no_call))) → P (slice_index_or (changed id g cs) j no_call)
call_changed P id j g [] h k = h
call_changed P zero zero g (a ∷ more) h k = k refl
call_changed P zero (suc j) g (a ∷ more) h k = h
call_changed P (suc id) zero g (a ∷ more) h k = h
call_changed P (suc id) (suc j) g (a ∷ more) h k = call_changed P id j g more h (λ e. k (ap suc e))

call_made : (P : Call → Type 0) (j : ℕ) (cs : List Call) (a : Call) → P (slice_index_or cs j no_call) → P a → P no_call → P (slice_index_or (cs ++ a ∷ []) j no_call)
call_made P zero [] a h k none = k
call_made P (suc j) [] a h k none = none
call_made P zero (x ∷ xs) a h k none = h
call_made P (suc j) (x ∷ xs) a h k none = call_made P j xs a h k none

-- It stays.

pub record IsStill (t u : TaskAt Spot) : Type 0 where
  pub control : u.control ≡ t.control
  pub pending : u.own.pending ≡ None
  pub again : u.own.again ≡ t.own.again
  pub sleeps : WakesUp u.own.status → ⊥

-- nobody wakes it up, and no call of its is under way
pub record Stays (k : ℕ) (t : TaskAt Spot) (c : All Spot) : Type 0 where
  pub task : TaskAt Spot
  pub there : slice_get c.tasks k ≡ Some task
  pub same : IsStill t task
  pub calls : (id : ℕ) → is_call_over (call_of id c).state ≡ false → ¬ ((call_of id c).caller ≡ k)

abbrev pub Other : ℕ → ℕ → Type 0
Other k n = ¬ (n ≡ k)

module _ (k : ℕ) (t : TaskAt Spot) where
  -- it changes, and stands as it stood
  pub changed_stays : (n : ℕ) (f : TaskAt Spot → TaskAt Spot) (c : All Spot) → ((u : TaskAt Spot) → IsStill t u → IsStill t (f u)) → Stays k t c → Stays k t (on_task n f c)
  changed_stays n f c g h = by (changed_got n k f c.tasks h.task h.there)
    where
      by : (slice_get (changed n f c.tasks) k ≡ Some h.task) ⊎ (slice_get (changed n f c.tasks) k ≡ Some (f h.task)) → Stays k t (on_task n f c)
      by (inl e) = record { task = h.task; there = e; same = h.same; calls = h.calls }
      by (inr e) = record { task = f h.task; there = e; same = g h.task h.same; calls = h.calls }

  pub other_stays : (n : ℕ) (f : TaskAt Spot → TaskAt Spot) (c : All Spot) → ¬ (n ≡ k) → Stays k t c → Stays k t (on_task n f c)
  other_stays n f c differs h = record { task = h.task; there = changed_other n k f c.tasks differs ∙ h.there; same = h.same; calls = h.calls }

  abbrev Free : Call → Type 0
  Free a = is_call_over a.state ≡ false → ¬ (a.caller ≡ k)

  pub stays_closed : Closed (Other k) (Stays k t)
  stays_closed = record {
    task = λ n f c b g h. other_stays n f c b h;
    beside = λ n f c g h.
        changed_stays n (λ u. record u { own = f u.own }) c
        (λ u s. record { control = s.control; pending = (g u.own).pending ∙ s.pending; again = (g u.own).again ∙ s.again; sleeps = λ x. s.sleeps (subst WakesUp (g u.own).status x) }) h;
    terminated = λ n c h.
        changed_stays n (λ u. record u { own = record u.own { status = Terminated; pending = None; display = []; opened = []; waits = no_waits } }) c
        (λ u s. record { control = s.control; pending = refl; again = s.again; sleeps = λ x. x }) h;
    more = λ ts c g h. record { task = h.task; there = more_got k c.tasks ts h.task h.there; same = h.same; calls = h.calls };
    call = λ id g c same evidence h. record { task = h.task; there = h.there; same = h.same; calls = λ j. call_changed Free id j g c.shared.calls (h.calls j) (λ e. so g same (call_of j c) (h.calls j) (evident id j g c e evidence)) };
    made = λ a c b h. record { task = h.task; there = h.there; same = h.same; calls = λ j. call_made Free j c.shared.calls a (h.calls j) (λ live. b) (λ live. absurd (true≢false live)) };
    object = λ n f c h. record { task = h.task; there = h.there; same = h.same; calls = h.calls };
    rest = λ c d e calls objects h. record { task = h.task; there = subst (λ ts. slice_get ts k ≡ Some h.task) e h.there; same = h.same; calls = subst (λ cs. (id : ℕ) → Free (slice_index_or cs id no_call)) calls h.calls };
    live = λ id c h e. h.calls id e;
    wakes = λ n c h wakes is. h.same.sleeps (subst (λ (o : Own). WakesUp o.status) (own_got k c.tasks h.task h.there) (subst (λ j. WakesUp (own_of j c).status) is wakes));
  }
    where
      evident : (id j : ℕ) (g : Call → Call) (c : All Spot) → id ≡ j → ((a : Call) → is_call_over (g a).state ≡ true) ⊎ (¬ ((call_of id c).caller ≡ k)) → ((a : Call) → is_call_over (g a).state ≡ true) ⊎ (¬ ((call_of j c).caller ≡ k))
      evident id j g c e (inl over) = inl over
      evident id j g c e (inr other) = inr (subst (λ i. ¬ ((call_of i c).caller ≡ k)) e other)

      so : (g : Call → Call) → ((a : Call) → (g a).caller ≡ a.caller) → (a : Call) → Free a → ((x : Call) → is_call_over (g x).state ≡ true) ⊎ (¬ (a.caller ≡ k)) → Free (g a)
      so g same a h (inl over) live is = true≢false (sym (over a) ∙ live)
      so g same a h (inr other) live is = other (sym (same a) ∙ is)

-- No call is made again.

abbrev pub MakesNone : ℕ → All Spot → Type 0
MakesNone k c = (own_of k c).again ≡ None

new_none : (ts : List (TaskAt Spot)) → ((i : ℕ) (t : TaskAt Spot) → slice_get ts i ≡ Some t → IsNew t.own) → (n : ℕ) → (nth n ts).again ≡ None
new_none [] g n = refl
new_none (t ∷ ts) g zero = (g zero t refl).again
new_none (t ∷ ts) g (suc n) = new_none ts (λ i. g (suc i)) n

none_then : (own new : Own) → ((r : Again) → new.again ≡ Some r → own.again ≡ Some r) → own.again ≡ None → new.again ≡ None
none_then own new f e = by new.again refl
  where
    by : (o : Option Again) → new.again ≡ o → o ≡ None
    by None q = refl
    by (Some r) q = let wrong : None ≡ Some r = sym e ∙ f r q in absurd cc

abbrev If : ℕ → ℕ → Own → Type 0
If k m own = m ≡ k → own.again ≡ None

pub none_own : (k n : ℕ) (f : TaskAt Spot → TaskAt Spot) (c : All Spot) → ((t : TaskAt Spot) → ¬ (n ≡ k) ⊎ ((f t).own.again ≡ t.own.again)) → MakesNone k c → MakesNone k (on_task n f c)
none_own k n f c g h = changed_own (If k) n f c.tasks (λ t e q i. by t (g t) q i) k (λ i. h) refl
  where
    by : (t : TaskAt Spot) → ¬ (n ≡ k) ⊎ ((f t).own.again ≡ t.own.again) → If k n t.own → n ≡ k → (f t).own.again ≡ None
    by t (inl differs) q i = absurd (differs i)
    by t (inr same) q i = same ∙ q i

pub none_closed : (k : ℕ) → Closed Anyone (MakesNone k)
none_closed k = record {
  task = λ n f c b g h. changed_own (If k) n f c.tasks (λ t e q i. none_then t.own (f t).own (g t e).again (q i)) k (λ i. h) refl;
  beside = λ n f c g h. changed_own (If k) n (λ t. record t { own = f t.own }) c.tasks (λ t e q i. (g t.own).again ∙ q i) k (λ i. h) refl;
  terminated = λ n c h. changed_own (If k) n (λ t. record t { own = record t.own { status = Terminated; pending = None; display = []; opened = []; waits = no_waits } }) c.tasks (λ t e q i. q i) k (λ i. h) refl;
  more = λ ts c g h. joined_own (If k) c.tasks ts (λ m i. ap (λ j. (own_of j c).again) i ∙ h) (λ i n q. new_none ts g n) k refl;
  call = λ id g c same evidence h. h;
  made = λ a c b h. h;
  object = λ n f c h. h;
  rest = λ c d e calls objects h. subst (λ ts. (nth k ts).again ≡ None) e h;
  live = λ id c h e. tt;
  wakes = λ n c h e. tt;
}

-- There is no object.

abbrev pub NoObjects : All Spot → Type 0
NoObjects c = c.shared.objects ≡ []

pub objects_closed : Closed Anyone NoObjects
objects_closed = record {
  task = λ n f c b g h. h;
  beside = λ n f c g h. h;
  terminated = λ n c h. h;
  more = λ ts c g h. h;
  call = λ id g c same evidence h. h;
  made = λ a c b h. h;
  object = λ n f c h. ap (λ (os : List Object). changed n f os) h;
  rest = λ c d e calls objects h. sym objects ∙ h;
  live = λ id c h e. tt;
  wakes = λ n c h e. tt;
}
