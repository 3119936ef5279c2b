-- What is over is forgotten: what is left of it is the same for whatever is named.
use Rattle.std.proofs.Common.{◌≡◌, ℕ, suc, ◌+◌, ◌<◌, ◌≤◌, List, [], ◌∷◌, length, slice_index_or, Bool, true, false, ◌||◌, refl, sym, ap, ◌∙◌, subst, arith, inl, inr}
use Rattle.std.specs.Prelude.{◌⊎◌, not, nat_eq, Option, Some, None}
use Rattle.std.proofs.lemmas.Bool.{eqb-true, eq-eqb}
use Rattle.aud_meaning.specs.Configuration.{Frame, Purpose, for_body, for_block, for_loop, for_procedure, for_operation, for_entry, for_accept, Opened, Own, Call, Object, TaskAt, All}
use Rattle.aud_meaning.specs.Parts.{contains, any, no_call, owns}
use Rattle.aud_over.specs.Over.{with_kept, is_call_over, own_names, object_names, is_named, is_for, own_serves, is_served, frame_if, frames_left, call_if, calls_left, forgotten, is_made_again}
use Rattle.aud_meaning.specs.Ties.Named.{opened_name}
use Rattle.aud_over.proofs.Frames.{Agree, agree_fewer}
use Rattle.aud_over.proofs.Calls.{SameCall, SameCalls, EachOf, true_is_not_false}
use Rattle.aud_over.proofs.Beside.{Kept, KeepsPurpose, NamesAll, Names, TasksName, ObjectsName, MayHave, Beside, KeepsRestart}
use Rattle.aud_meaning.specs.declared.state.Restart.{Restart}

-- Tests.

or_first : (x y : Bool) → x ≡ true → (x || y) ≡ true
or_first true y h = refl
or_first false y h = true_is_not_false (sym h)

or_second : (x y : Bool) → y ≡ true → (x || y) ≡ true
or_second true y h = refl
or_second false y h = h

or_either : (x y : Bool) → (x || y) ≡ true → (x ≡ true) ⊎ (y ≡ true)
or_either true y h = inl refl
or_either false y h = inr h

-- where every number that is in the list passes
each_contained : (named : ℕ → Type 0) (ns : List ℕ) → ((f : ℕ) → contains f ns ≡ true → named f) → EachOf named ns
each_contained named [] h = tt
each_contained named (n ∷ ns) h = (h n (or_first (nat_eq n n) (contains n ns) (eq-eqb n n refl)), each_contained named ns (λ f c. h f (or_second (nat_eq f n) (contains f ns) c)))

contained_each : (named : ℕ → Type 0) (ns : List ℕ) → EachOf named ns → (f : ℕ) → contains f ns ≡ true → named f
contained_each named [] h f c = true_is_not_false (sym c)
contained_each named (n ∷ ns) h f c = by (or_either (nat_eq f n) (contains f ns) c) (contained_each named ns h.1 f)
  where
    by : (nat_eq f n ≡ true) ⊎ (contains f ns ≡ true) → (contains f ns ≡ true → named f) → named f
    by (inl e) rest = subst named (sym (eqb-true f n e)) h.0
    by (inr e) rest = rest e

any_first : {A : Type 0} (test : A → Bool) (x : A) (xs : List A) → test x ≡ true → any test (x ∷ xs) ≡ true
any_first test x xs h = or_first (test x) (any test xs) h

-- At the beginning.

module _ (p : Kept) where
  abbrev IsCalled : (ℕ → Bool) → Type 0
  IsCalled test = (f : ℕ) → test f ≡ true → p.named f

  purpose_kept : (purpose : Purpose) → ((id : ℕ) → is_for id purpose ≡ true → p.kept id) → KeepsPurpose p.kept purpose
  purpose_kept for_body h = tt
  purpose_kept for_block h = tt
  purpose_kept for_loop h = tt
  purpose_kept (for_procedure r) h = tt
  purpose_kept (for_operation n r) h = tt
  purpose_kept (for_entry n id s b) h = h id (eq-eqb id id refl)
  purpose_kept (for_accept id) h = h id (eq-eqb id id refl)

  opened_named : (os : List Opened) → ((f : ℕ) → opened_name f os ≡ true → p.named f) → ((id : ℕ) → any (λ (o : Opened). is_for id o.purpose) os ≡ true → p.kept id) → NamesAll p os
  opened_named [] h g = tt
  opened_named (o ∷ os) h g = (
    (
      h o.frame (or_first (nat_eq o.frame o.frame) (contains o.frame o.saved || opened_name o.frame os) (eq-eqb o.frame o.frame refl)),
      each_contained p.named o.saved (λ f c. h f (or_second (nat_eq f o.frame) (contains f o.saved || opened_name f os) (or_first (contains f o.saved) (opened_name f os) c))),
      purpose_kept o.purpose (λ id e. g id (or_first (is_for id o.purpose) (any (λ (x : Opened). is_for id x.purpose) os) e)),
    ),
    opened_named os (λ f e. h f (or_second (nat_eq f o.frame) (contains f o.saved || opened_name f os) (or_second (contains f o.saved) (opened_name f os) e)))
        (λ id e. g id (or_second (is_for id o.purpose) (any (λ (x : Opened). is_for id x.purpose) os) e)),
  )

  again_kept : (o : Option Restart) → ((id : ℕ) → is_made_again id o ≡ true → p.kept id) → KeepsRestart p.kept o
  again_kept None h = tt
  again_kept (Some r) h = h r.call (eq-eqb r.call r.call refl)

  again_back : (o : Option Restart) → KeepsRestart p.kept o → (id : ℕ) → is_made_again id o ≡ true → p.kept id
  again_back None k id e = true_is_not_false (sym e)
  again_back (Some r) k id e = subst p.kept (sym (eqb-true id r.call e)) k

  own_named : (o : Own) → ((f : ℕ) → own_names f o ≡ true → p.named f) → ((id : ℕ) → own_serves id o ≡ true → p.kept id) → Names p o
  own_named o h g = (
    each_contained p.named o.display (λ f c. h f (or_first (contains f o.display) (opened_name f o.opened) c)),
    opened_named o.opened (λ f c. h f (or_second (contains f o.display) (opened_name f o.opened) c)) (λ id e. g id (or_second (is_made_again id o.restart) (any (λ (x : Opened). is_for id x.purpose) o.opened) e)),
    again_kept o.restart (λ id e. g id (or_first (is_made_again id o.restart) (any (λ (x : Opened). is_for id x.purpose) o.opened) e)),
  )

  pub tasks_named : {C : Type 0} (ts : List (TaskAt C)) → ((f : ℕ) → any (own_names f) (owns ts) ≡ true → p.named f) → ((id : ℕ) → any (own_serves id) (owns ts) ≡ true → p.kept id) → TasksName p ts
  tasks_named [] h g = tt
  tasks_named (t ∷ ts) h g = (
    own_named t.own (λ f e. h f (or_first (own_names f t.own) (any (own_names f) (owns ts)) e)) (λ id e. g id (or_first (own_serves id t.own) (any (own_serves id) (owns ts)) e)),
    tasks_named ts (λ f e. h f (or_second (own_names f t.own) (any (own_names f) (owns ts)) e)) (λ id e. g id (or_second (own_serves id t.own) (any (own_serves id) (owns ts)) e)),
  )

  pub objects_named : (os : List Object) → ((f : ℕ) → any (object_names f) os ≡ true → p.named f) → ObjectsName p os
  objects_named [] h = tt
  objects_named (o ∷ os) h = (
    each_contained p.named o.display (λ f e. h f (or_first (contains f o.display) (any (object_names f) os) e)),
    objects_named os (λ f e. h f (or_second (object_names f o) (any (object_names f) os) e)),
  )

  -- And back.

  for_kept : (purpose : Purpose) → KeepsPurpose p.kept purpose → (id : ℕ) → is_for id purpose ≡ true → p.kept id
  for_kept for_body k id e = true_is_not_false (sym e)
  for_kept for_block k id e = true_is_not_false (sym e)
  for_kept for_loop k id e = true_is_not_false (sym e)
  for_kept (for_procedure r) k id e = true_is_not_false (sym e)
  for_kept (for_operation n r) k id e = true_is_not_false (sym e)
  for_kept (for_entry n i s b) k id e = subst p.kept (sym (eqb-true id i e)) k
  for_kept (for_accept i) k id e = subst p.kept (sym (eqb-true id i e)) k

  opened_back : (os : List Opened) → NamesAll p os → (f : ℕ) → opened_name f os ≡ true → p.named f
  opened_back [] h f e = true_is_not_false (sym e)
  opened_back (o ∷ os) h f e = by (or_either (nat_eq f o.frame) (contains f o.saved || opened_name f os) e) (opened_back os h.1 f)
    where
      later : (contains f o.saved ≡ true) ⊎ (opened_name f os ≡ true) → (opened_name f os ≡ true → p.named f) → p.named f
      later (inl e) rest = contained_each p.named o.saved h.0.1 f e
      later (inr e) rest = rest e

      by : (nat_eq f o.frame ≡ true) ⊎ ((contains f o.saved || opened_name f os) ≡ true) → (opened_name f os ≡ true → p.named f) → p.named f
      by (inl e) rest = subst p.named (sym (eqb-true f o.frame e)) h.0.0
      by (inr e) rest = later (or_either (contains f o.saved) (opened_name f os) e) rest

  served_back : (os : List Opened) → NamesAll p os → (id : ℕ) → any (λ (o : Opened). is_for id o.purpose) os ≡ true → p.kept id
  served_back [] h id e = true_is_not_false (sym e)
  served_back (o ∷ os) h id e = by (or_either (is_for id o.purpose) (any (λ (x : Opened). is_for id x.purpose) os) e) (served_back os h.1 id)
    where
      by : (is_for id o.purpose ≡ true) ⊎ (any (λ (x : Opened). is_for id x.purpose) os ≡ true) → (any (λ (x : Opened). is_for id x.purpose) os ≡ true → p.kept id) → p.kept id
      by (inl e) rest = for_kept o.purpose h.0.2 id e
      by (inr e) rest = rest e

  own_served : (o : Own) → Names p o → (id : ℕ) → own_serves id o ≡ true → p.kept id
  own_served o h id e = by (or_either (is_made_again id o.restart) (any (λ (x : Opened). is_for id x.purpose) o.opened) e)
    where
      by : (is_made_again id o.restart ≡ true) ⊎ (any (λ (x : Opened). is_for id x.purpose) o.opened ≡ true) → p.kept id
      by (inl e) = again_back o.restart h.2 id e
      by (inr e) = served_back o.opened h.1 id e

  own_back : (o : Own) → Names p o → (f : ℕ) → own_names f o ≡ true → p.named f
  own_back o h f e = by (or_either (contains f o.display) (opened_name f o.opened) e)
    where
      by : (contains f o.display ≡ true) ⊎ (opened_name f o.opened ≡ true) → p.named f
      by (inl e) = contained_each p.named o.display h.0 f e
      by (inr e) = opened_back o.opened h.1 f e

  pub tasks_back : {C : Type 0} (ts : List (TaskAt C)) → TasksName p ts → (f : ℕ) → any (own_names f) (owns ts) ≡ true → p.named f
  tasks_back [] h f e = true_is_not_false (sym e)
  tasks_back (t ∷ ts) h f e = by (or_either (own_names f t.own) (any (own_names f) (owns ts)) e) (tasks_back ts h.1 f)
    where
      by : (own_names f t.own ≡ true) ⊎ (any (own_names f) (owns ts) ≡ true) → (any (own_names f) (owns ts) ≡ true → p.named f) → p.named f
      by (inl e) rest = own_back t.own h.0 f e
      by (inr e) rest = rest e

  pub calls_back : {C : Type 0} (ts : List (TaskAt C)) → TasksName p ts → (id : ℕ) → any (own_serves id) (owns ts) ≡ true → p.kept id
  calls_back [] h id e = true_is_not_false (sym e)
  calls_back (t ∷ ts) h id e = by (or_either (own_serves id t.own) (any (own_serves id) (owns ts)) e) (calls_back ts h.1 id)
    where
      by : (own_serves id t.own ≡ true) ⊎ (any (own_serves id) (owns ts) ≡ true) → (any (own_serves id) (owns ts) ≡ true → p.kept id) → p.kept id
      by (inl e) rest = own_served t.own h.0 id e
      by (inr e) rest = rest e

  pub objects_back : (os : List Object) → ObjectsName p os → (f : ℕ) → any (object_names f) os ≡ true → p.named f
  objects_back [] h f e = true_is_not_false (sym e)
  objects_back (o ∷ os) h f e = by (or_either (object_names f o) (any (object_names f) os) e) (objects_back os h.1 f)
    where
      by : (object_names f o ≡ true) ⊎ (any (object_names f) os ≡ true) → (any (object_names f) os ≡ true → p.named f) → p.named f
      by (inl e) rest = contained_each p.named o.display h.0 f e
      by (inr e) rest = rest e

  pub named_back : {C : Type 0} (ts : List (TaskAt C)) (os : List Object) → TasksName p ts → ObjectsName p os → (f : ℕ) → is_named (owns ts) os f ≡ true → p.named f
  named_back ts os h g f e = by (or_either (nat_eq f 0) (any (own_names f) (owns ts) || any (object_names f) os) e)
    where
      later : (any (own_names f) (owns ts) ≡ true) ⊎ (any (object_names f) os ≡ true) → p.named f
      later (inl e) = tasks_back ts h f e
      later (inr e) = objects_back os g f e

      by : (nat_eq f 0 ≡ true) ⊎ ((any (own_names f) (owns ts) || any (object_names f) os) ≡ true) → p.named f
      by (inl e) = subst p.named (sym (eqb-true f 0 e)) p.first
      by (inr e) = later (or_either (any (own_names f) (owns ts)) (any (object_names f) os) e)

-- What is left.

-- a number is named, or not in use yet
abbrev CountsAs : (ℕ → Bool) → ℕ → ℕ → Type 0
CountsAs test N i = (test i ≡ true) ⊎ (N ≤ i)

frame_left : (test : ℕ → Bool) (N n : ℕ) (f : Frame) → n < N → CountsAs test N n → f ≡ frame_if (test n) f
frame_left test N n f h (inl e) = ap (λ b. frame_if b f) (sym e)
frame_left test N n f h (inr e) = absurd (let no : ⊥ = omega (arith, h, e) in no)

left_from : (test : ℕ → Bool) (N n : ℕ) (fs : List Frame) → n + length fs ≤ N → Agree (λ i. CountsAs test N (n + i)) fs (frames_left test n fs)
left_from test N n [] h = tt
left_from test N n (f ∷ fs) h = (
  λ k. frame_left test N n f (omega (arith, h)) (let e : n + 0 ≡ n = omega arith in subst (CountsAs test N) e k),
  agree_fewer (λ i. CountsAs test N (suc n + i)) (λ i. CountsAs test N (n + suc i)) fs (frames_left test (suc n) fs) (λ i k. let e : n + suc i ≡ suc n + i = omega arith in subst (CountsAs test N) e k)
      (left_from test N (suc n) fs (omega (arith, h))),
)

frames_may : (test : ℕ → Bool) (fs : List Frame) → Agree (CountsAs test (length fs)) fs (frames_left test 0 fs)
frames_may test fs =
    agree_fewer (λ i. CountsAs test (length fs) (0 + i)) (CountsAs test (length fs)) fs (frames_left test 0 fs) (λ i k. let e : i ≡ 0 + i = omega arith in subst (CountsAs test (length fs)) e k)
    (left_from test (length fs) 0 fs (omega arith))

-- a call is not over, or is served
abbrev is_left : (ℕ → Bool) → List Call → ℕ → Bool
is_left served calls i = not (is_call_over (slice_index_or calls i no_call).state) || served i

call_left : (served : ℕ → Bool) (N : ℕ) (all : List Call) (n : ℕ) (c : Call) → n < N → slice_index_or all n no_call ≡ c → SameCall (CountsAs (is_left served all) N) n c (call_if (not (is_call_over c.state) || served n) c)
call_left served N all n c h at = by (is_call_over c.state) (served n) refl refl
  where
    left_as : is_left served all n ≡ (not (is_call_over c.state) || served n)
    left_as = ap (λ (x : Call). not (is_call_over x.state) || served n) at

    by : (o s : Bool) → is_call_over c.state ≡ o → served n ≡ s → SameCall (CountsAs (is_left served all) N) n c (call_if (not (is_call_over c.state) || served n) c)
    by false s e g = inl (record { same = ap (λ b. call_if (not b || served n) c) (sym e); live = λ x. inl (left_as ∙ ap (λ b. not b || served n) e) })
    by true true e g = inl (record { same = ap (λ b. call_if b c) (sym (ap (λ b. not b || served n) e ∙ g)); live = λ x. inl (left_as ∙ ap (λ b. not b || served n) e ∙ g) })
    by true false e g =
        let gone : (not (is_call_over c.state) || served n) ≡ false = ap (λ b. not b || served n) e ∙ g in
        inr (record { not_kept = none gone; first = e; second = subst (λ b. is_call_over (call_if b c).state ≡ true) (sym gone) refl })
      where
        none : (not (is_call_over c.state) || served n) ≡ false → ¬ CountsAs (is_left served all) N n
        none gone (inl k) = true_is_not_false (sym k ∙ left_as ∙ gone)
        none gone (inr k) = let no : ⊥ = omega (arith, h, k) in no

calls_from : (served : ℕ → Bool) (N : ℕ) (all : List Call) (n : ℕ) (cs : List Call) → n + length cs ≤ N → ((i : ℕ) → slice_index_or all (n + i) no_call ≡ slice_index_or cs i no_call) → SameCalls (CountsAs (is_left served all) N) n cs (calls_left served n cs)
calls_from served N all n [] h at = tt
calls_from served N all n (c ∷ cs) h at = (
  call_left served N all n c (omega (arith, h)) (let e : n ≡ n + 0 = omega arith in ap (λ i. slice_index_or all i no_call) e ∙ at 0),
  calls_from served N all (suc n) cs (omega (arith, h)) (λ i. let e : suc n + i ≡ n + suc i = omega arith in ap (λ j. slice_index_or all j no_call) e ∙ at (suc i)),
)

calls_may : (served : ℕ → Bool) (cs : List Call) → SameCalls (CountsAs (is_left served cs) (length cs)) 0 cs (calls_left served 0 cs)
calls_may served cs = calls_from served (length cs) cs 0 cs (omega arith) (λ i. let e : 0 + i ≡ i = omega arith in ap (λ j. slice_index_or cs j no_call) e)

-- what is the same of a program under way and of what is left of it
abbrev pub kept_in : {C : Type 0} → All C → Kept
kept_in c = record {
  named = CountsAs (is_named (owns c.tasks) c.shared.objects) (length c.shared.frames);
  kept = CountsAs (is_left (is_served (owns c.tasks)) c.shared.calls) (length c.shared.calls);
  frames = length c.shared.frames;
  calls = length c.shared.calls;
  first = inl refl;
  new = λ i h. inr h;
  new_call = λ i h. inr h;
}

pub forgotten_may : {C : Type 0} (c : All C) → MayHave (kept_in c) c (forgotten c).shared.frames (forgotten c).shared.calls
forgotten_may c =
    let os = owns c.tasks in
    let objects = c.shared.objects in
    record {
      frames = frames_may (is_named os objects) c.shared.frames;
      calls = calls_may (is_served os) c.shared.calls;
      tasks = tasks_named (kept_in c) c.tasks
          (λ f e. inl (or_second (nat_eq f 0) (any (own_names f) os || any (object_names f) objects) (or_first (any (own_names f) os) (any (object_names f) objects) e)))
          (λ id e. inl (or_second (not (is_call_over (slice_index_or c.shared.calls id no_call).state)) (is_served os id) e));
      objects = objects_named (kept_in c) objects
          (λ f e. inl (or_second (nat_eq f 0) (any (own_names f) os || any (object_names f) objects) (or_second (any (own_names f) os) (any (object_names f) objects) e)));
      room = omega arith;
      call_room = omega arith;
    }

-- At the end.

one_end : (b : Bool) (f g : Frame) → (b ≡ true → f ≡ g) → frame_if b f ≡ frame_if b g
one_end true f g h = h refl
one_end false f g h = refl

frames_end : (named : ℕ → Type 0) (test : ℕ → Bool) (n : ℕ) (fs gs : List Frame) → ((i : ℕ) → test (n + i) ≡ true → named i) → Agree named fs gs → frames_left test n fs ≡ frames_left test n gs
frames_end named test n [] [] back h = refl
frames_end named test n [] (g ∷ gs) back h = absurd h
frames_end named test n (f ∷ fs) [] back h = absurd h
frames_end named test n (f ∷ fs) (g ∷ gs) back h =
    ap (λ x. x ∷ frames_left test (suc n) fs) (one_end (test n) f g (λ e. h.0 (back 0 (let z : n + 0 ≡ n = omega arith in ap test z ∙ e))))
    ∙ ap (λ xs. frame_if (test n) g ∷ xs) (frames_end (λ i. named (suc i)) test (suc n) fs gs (λ i e. back (suc i) (let z : n + suc i ≡ suc n + i = omega arith in ap test z ∙ e)) h.1)

gone_if : (o s : Bool) (c : Call) → o ≡ true → s ≡ false → call_if (not o || s) c ≡ no_call
gone_if o s c e g = ap (λ b. call_if (not b || s) c) e ∙ ap (λ b. call_if b c) g

not_true : (b : Bool) → ¬ (b ≡ true) → b ≡ false
not_true true h = absurd (h refl)
not_true false h = refl

one_call_end : (kept : ℕ → Type 0) (served : ℕ → Bool) (n : ℕ) (a b : Call) → (served n ≡ true → kept n) → SameCall kept n a b → call_if (not (is_call_over a.state) || served n) a ≡ call_if (not (is_call_over b.state) || served n) b
one_call_end kept served n a b back (inl e) = ap (λ (c : Call). call_if (not (is_call_over c.state) || served n) c) e.same
one_call_end kept served n a b back (inr o) =
    let none : served n ≡ false = not_true (served n) (λ e. o.not_kept (back e)) in
    gone_if (is_call_over a.state) (served n) a o.first none ∙ sym (gone_if (is_call_over b.state) (served n) b o.second none)

calls_end : (kept : ℕ → Type 0) (served : ℕ → Bool) (n : ℕ) (xs ys : List Call) → ((i : ℕ) → served i ≡ true → kept i) → SameCalls kept n xs ys → calls_left served n xs ≡ calls_left served n ys
calls_end kept served n [] [] back h = refl
calls_end kept served n [] (y ∷ ys) back h = absurd h
calls_end kept served n (x ∷ xs) [] back h = absurd h
calls_end kept served n (x ∷ xs) (y ∷ ys) back h =
    ap (λ z. z ∷ calls_left served (suc n) xs) (one_call_end kept served n x y (back n) h.0)
    ∙ ap (λ zs. call_if (not (is_call_over y.state) || served n) y ∷ zs) (calls_end kept served (suc n) xs ys back h.1)

-- of programs that are the same but for what nothing names the same is left
pub left_same : {C : Type 0} (p : Kept) (c d : All C) → Beside p c d → forgotten c ≡ forgotten d
left_same p c d r =
    let test = is_named (owns c.tasks) c.shared.objects in
    let served = is_served (owns c.tasks) in
    let back : (i : ℕ) → test i ≡ true → p.named i = named_back p c.tasks c.shared.objects r.may.tasks r.may.objects in
    ap (λ fs. with_kept fs (calls_left served 0 c.shared.calls) c) (frames_end p.named test 0 c.shared.frames r.fs (λ i e. back i (let z : i ≡ 0 + i = omega arith in ap test z ∙ e)) r.may.frames)
    ∙ ap (λ cs. with_kept (frames_left test 0 r.fs) cs c) (calls_end p.kept served 0 c.shared.calls r.cs (calls_back p c.tasks r.may.tasks) r.may.calls)
    ∙ ap forgotten (sym r.same)
