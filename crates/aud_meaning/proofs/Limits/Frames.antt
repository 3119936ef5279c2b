-- The open frames of tasks, and tasks by their numbers.
use Rattle.std.proofs.Common.{◌≡◌, ℕ, zero, suc, ◌+◌, ◌≤◌, ℤ, List, [], ◌∷◌, ◌++◌, length, Option, Some, None, Bool, true, false, refl, sym, ap, ◌∙◌, subst, if◌then◌else◌, slice_get, slice_index_or, arith}
use Rattle.std.specs.Prelude.{◌&&◌}
use Rattle.aud_text.specs.declared.limits.TheConstants.{OBJECTS, OUTPUT, FRAMES}
use Rattle.aud_meaning.specs.Configuration.{Purpose, for_body, for_block, for_loop, for_procedure, for_operation, for_entry, for_accept, Opened, Own, Shared, TaskAt, Acting}
use Rattle.aud_meaning.specs.Effects.{changed_first, closed, closed_by, is_loop, out_of_loops, out_of_loops_by, out_of, is_counted, live_frames, is_inner, with_value_in, sets_value}
use Rattle.aud_meaning.specs.Parts.{changed, is_created, nobody, numbers, owns, runs}
use Rattle.aud_meaning.specs.Why.Limits.{one_if, GoesBack, AllGoBack, Fits, AllFit}

-- Frames of a task.

more : (b : Bool) (n : ℕ) → n ≤ (if b then suc n else n)
more true n = omega arith
more false n = omega arith

pub either_fits : (b : Bool) (x y : Own) → Fits x → Fits y → Fits (if b then x else y)
either_fits true x y h i = h
either_fits false x y h i = i

-- whatever it is, it is running then
pub runs_fit : (own : Own) → Fits own → Fits (runs own)
runs_fit own h = (omega (arith, h.0), h.1)

shut : (os : List Opened) (own : Own) → Fits (record own { opened = os }) → Fits (closed_by os (record own { opened = os }))
shut [] own h = h
shut (o ∷ os) own h = (omega (arith, h.0, more (is_counted o.purpose) (live_frames os)), h.1.1)

pub closed_fits : (own : Own) → Fits own → Fits (closed own)
closed_fits own h = shut own.opened own h

loops_fit : (os : List Opened) (own : Own) → Fits (record own { opened = os }) → Fits (out_of_loops_by os (record own { opened = os }))
loops_fit [] own h = h
loops_fit (o ∷ os) own h =
    either_fits (is_loop o.purpose) (out_of_loops_by os (record own { display = o.saved; opened = os })) (record own { opened = o ∷ os })
    (loops_fit os (record own { display = o.saved }) (omega (arith, h.0, more (is_counted o.purpose) (live_frames os)), h.1.1)) h

pub out_of_loops_fits : (own : Own) → Fits own → Fits (out_of_loops own)
out_of_loops_fits own h = loops_fit own.opened own h

pub out_fits : (n : ℕ) (own : Own) → Fits own → Fits (out_of n own)
out_fits zero own h = h
out_fits (suc n) own h = out_fits n (closed own) (closed_fits own h)

-- the innermost frame is changed, and not what it is for
pub first_fits : (f : Opened → Opened) → ((o : Opened) → (f o).purpose ≡ o.purpose) → (n : ℕ) (os : List Opened) → (n + live_frames os ≤ FRAMES) × AllGoBack os → (n + live_frames (changed_first f os) ≤ FRAMES) × AllGoBack (changed_first f os)
first_fits f same n [] h = h
first_fits f same n (o ∷ os) h =
    (subst (λ p. n + (if is_counted p then suc (live_frames os) else live_frames os) ≤ FRAMES) (sym (same o)) h.0, (subst GoesBack (sym (same o)) h.1.0, h.1.1))

value_counted : (z : ℤ) (p : Purpose) → is_counted (with_value_in z p) ≡ is_counted p
value_counted z for_body = refl
value_counted z for_block = refl
value_counted z for_loop = refl
value_counted z (for_procedure r) = refl
value_counted z (for_operation object r) = refl
value_counted z (for_entry object id served back) = refl
value_counted z (for_accept id) = refl

value_back : (z : ℤ) (p : Purpose) → GoesBack p → GoesBack (with_value_in z p)
value_back z for_body h = h
value_back z for_block h = h
value_back z for_loop h = h
value_back z (for_procedure r) h = h
value_back z (for_operation object r) h = h
value_back z (for_entry object id served back) h = h
value_back z (for_accept id) h = h

pub value_live : (z : ℤ) (os : List Opened) → live_frames (sets_value z os) ≡ live_frames os
value_live z [] = refl
value_live z (o ∷ os) = by (is_inner o.purpose) (value_live z os)
  where
    by : (b : Bool) → live_frames (sets_value z os) ≡ live_frames os → live_frames (if b then o ∷ sets_value z os else record o { purpose = with_value_in z o.purpose } ∷ os) ≡ live_frames (o ∷ os)
    by true same = ap (λ (n : ℕ). if is_counted o.purpose then suc n else n) same
    by false same = ap (λ (b : Bool). if b then suc (live_frames os) else live_frames os) (value_counted z o.purpose)

pub value_all_back : (z : ℤ) (os : List Opened) → AllGoBack os → AllGoBack (sets_value z os)
value_all_back z [] h = h
value_all_back z (o ∷ os) h = by (is_inner o.purpose) (value_all_back z os h.1)
  where
    by : (b : Bool) → AllGoBack (sets_value z os) → AllGoBack (if b then o ∷ sets_value z os else record o { purpose = with_value_in z o.purpose } ∷ os)
    by true rest = (h.0, rest)
    by false rest = (value_back z o.purpose h.0, h.1)

-- Lists.

pub length_changed : {A : Type 0} (n : ℕ) (f : A → A) (xs : List A) → length (changed n f xs) ≡ length xs
length_changed n f [] = refl
length_changed zero f (x ∷ xs) = refl
length_changed (suc n) f (x ∷ xs) = ap suc (length_changed n f xs)

and_left : (a b : Bool) → a && b ≡ true → a ≡ true
and_left true b h = refl
and_left false b h = h

never_both : (b : Bool) → b ≡ false → b ≡ true → ⊥
never_both b h i = let e : one_if b ≡ 0 = ap one_if h in let f : one_if b ≡ 1 = ap one_if i in omega (arith, e, f)

-- each larger than the one before
abbrev pub Rising : ℕ → List ℕ → Type 0
Rising m [] = Unit {0}
Rising m (n ∷ ns) = (m ≤ n) × Rising (suc n) ns

rising_from : (a b : ℕ) (ns : List ℕ) → a ≤ b → Rising b ns → Rising a ns
rising_from a b [] h r = tt
rising_from a b (n ∷ ns) h r = (omega (arith, h, r.0), r.1)

-- of tasks that are not begun
abbrev pub Unbegun : (ℕ → Own) → List ℕ → Type 0
Unbegun look [] = Unit {0}
Unbegun look (n ∷ ns) = (is_created (look n).status ≡ true) × Unbegun look ns

module _ {C : Type 0} where
  abbrev pub nth : ℕ → List (TaskAt C) → Own
  nth n ts = slice_index_or (owns ts) n nobody

  pub nth_fits : (n : ℕ) (ts : List (TaskAt C)) → AllFit ts → Fits (nth n ts)
  nth_fits n [] h = (omega arith, tt)
  nth_fits zero (t ∷ ts) h = h.0
  nth_fits (suc n) (t ∷ ts) h = nth_fits n ts h.1

  pub changed_fit : (n : ℕ) (f : TaskAt C → TaskAt C) (ts : List (TaskAt C)) → ((t : TaskAt C) → t.own ≡ nth n ts → Fits t.own → Fits (f t).own) → AllFit ts → AllFit (changed n f ts)
  changed_fit n f [] g h = tt
  changed_fit zero f (t ∷ ts) g h = (g t refl h.0, h.1)
  changed_fit (suc n) f (t ∷ ts) g h = (h.0, changed_fit n f ts g h.1)

  pub appended_fit : (ts us : List (TaskAt C)) → AllFit ts → AllFit us → AllFit (ts ++ us)
  appended_fit [] us h i = i
  appended_fit (t ∷ ts) us h i = (h.0, appended_fit ts us h.1 i)

  -- the task of a number after a change of one task

  pub begun_there : (n : ℕ) (f : TaskAt C → TaskAt C) (ts : List (TaskAt C)) → ((t : TaskAt C) → is_created (f t).own.status ≡ false) → is_created (nth n (changed n f ts)).status ≡ false
  begun_there n f [] h = refl
  begun_there zero f (t ∷ ts) h = h t
  begun_there (suc n) f (t ∷ ts) h = begun_there n f ts h

  pub opened_there : (n : ℕ) (f : TaskAt C → TaskAt C) (ts : List (TaskAt C)) → ((t : TaskAt C) → (f t).own.opened ≡ t.own.opened) → (nth n (changed n f ts)).opened ≡ (nth n ts).opened
  opened_there n f [] h = refl
  opened_there zero f (t ∷ ts) h = h t
  opened_there (suc n) f (t ∷ ts) h = opened_there n f ts h

  pub elsewhere : (n m : ℕ) (f : TaskAt C → TaskAt C) (ts : List (TaskAt C)) → suc n ≤ m → nth m (changed n f ts) ≡ nth m ts
  elsewhere n m f [] h = refl
  elsewhere zero zero f (t ∷ ts) h = absurd (omega (arith, h))
  elsewhere zero (suc m) f (t ∷ ts) h = refl
  elsewhere (suc n) zero f (t ∷ ts) h = absurd (omega (arith, h))
  elsewhere (suc n) (suc m) f (t ∷ ts) h = elsewhere n m f ts (omega (arith, h))

  -- a task that isn't begun is another one
  pub unbegun_there : (x n : ℕ) (f : TaskAt C → TaskAt C) (ts : List (TaskAt C)) → is_created (nth n ts).status ≡ false → is_created (nth x ts).status ≡ true → is_created (nth x (changed n f ts)).status ≡ true
  unbegun_there x n f [] h i = i
  unbegun_there zero zero f (t ∷ ts) h i = absurd (never_both (is_created t.own.status) h i)
  unbegun_there zero (suc n) f (t ∷ ts) h i = i
  unbegun_there (suc x) zero f (t ∷ ts) h i = i
  unbegun_there (suc x) (suc n) f (t ∷ ts) h i = unbegun_there x n f ts h i

  -- Numbers of tasks that are not begun.

  pub numbers_rise : (p : TaskAt C → Bool) (m : ℕ) (ts : List (TaskAt C)) → Rising m (numbers p m ts)
  numbers_rise p m [] = tt
  numbers_rise p m (t ∷ ts) = by (p t) (numbers_rise p (suc m) ts)
    where
      by : (b : Bool) → Rising (suc m) (numbers p (suc m) ts) → Rising m (if b then m ∷ numbers p (suc m) ts else numbers p (suc m) ts)
      by true r = (omega arith, r)
      by false r = rising_from m (suc m) (numbers p (suc m) ts) (omega arith) r

  -- the tasks are found from this number on
  abbrev Found : ℕ → List (TaskAt C) → (ℕ → Own) → Type 0
  Found m [] look = Unit {0}
  Found m (t ∷ ts) look = (look m ≡ t.own) × Found (suc m) ts look

  found_on : (m : ℕ) (ts : List (TaskAt C)) (look : ℕ → Own) → Found m ts (λ n. look (suc n)) → Found (suc m) ts look
  found_on m [] look h = tt
  found_on m (t ∷ ts) look h = (h.0, found_on (suc m) ts look h.1)

  pub found_all : (ts : List (TaskAt C)) → Found 0 ts (λ n. nth n ts)
  found_all [] = tt
  found_all (t ∷ ts) = (refl, found_on 0 ts (λ n. nth n (t ∷ ts)) (found_all ts))

  pub numbers_unbegun : (q : TaskAt C → Bool) (m : ℕ) (ts : List (TaskAt C)) (look : ℕ → Own) → Found m ts look → Unbegun look (numbers (λ (t : TaskAt C). is_created t.own.status && q t) m ts)
  numbers_unbegun q m [] look h = tt
  numbers_unbegun q m (t ∷ ts) look h = by (is_created t.own.status && q t) refl (numbers (λ (u : TaskAt C). is_created u.own.status && q u) (suc m) ts) (numbers_unbegun q (suc m) ts look h.1)
    where
      by : (b : Bool) → is_created t.own.status && q t ≡ b → (rest : List ℕ) → Unbegun look rest → Unbegun look (if b then m ∷ rest else rest)
      by true e rest r = (ap (λ (o : Own). is_created o.status) h.0 ∙ and_left (is_created t.own.status) (q t) e, r)
      by false e rest r = r

  abbrev pub Got : Option (TaskAt C) → Own → Type 0
  Got None own = Unit {0}
  Got (Some t) own = (t.own ≡ own) × Fits t.own

  pub got : (n : ℕ) (ts : List (TaskAt C)) → AllFit ts → Got (slice_get ts n) (nth n ts)
  got n [] h = tt
  got zero (t ∷ ts) h = (refl, h.0)
  got (suc n) (t ∷ ts) h = got n ts h.1

  -- A task beside what all share.

  abbrev pub beside : TaskAt C → Shared → Acting C
  beside t shared = record { control = t.control; own = t.own; shared = shared }

  abbrev pub FitsBeside : Acting C → Type 0
  FitsBeside t = Fits t.own × (length t.shared.objects ≤ OBJECTS) × (length t.shared.output ≤ OUTPUT)

  pub either_beside : (b : Bool) (x y : Acting C) → FitsBeside x → FitsBeside y → FitsBeside (if b then x else y)
  either_beside true x y h i = h
  either_beside false x y h i = i
