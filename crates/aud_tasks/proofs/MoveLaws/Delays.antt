-- The moves of a task for the delays that have ended.
use Rattle.std.proofs.Common.{◌≡◌, ◌<◌, ◌≤◌, ◌+◌, ℕ, zero, suc, List, [], ◌∷◌, ◌++◌, length, drop, map, get_or, Some, Bool, true, false, if◌then◌else◌, slice_get, append_assoc, refl, ap, sym, ◌∙◌}
use Rattle.std.proofs.lemmas.List.{at_drop_all, at_drop_more}
use Rattle.std.specs.Prelude.{filter, nat_le}
use Rattle.aud_meaning.specs.declared.state.OpenDelay.{OpenDelay}
use Rattle.aud_meaning.specs.Run.{picks}
use Rattle.aud_tasks.specs.Moving.{picked}

pub picks_some : (task n : ℕ) → ¬ (n ≡ 0) → record { task = task; alternative = Some n } ≡ picks task n
picks_some task zero other = absurd (other refl)
picks_some task (suc n) other = refl

abbrev pub no_delay : OpenDelay
no_delay = record { alternative = 0; time = 0 }

module _ (task clock : ℕ) (ds : List OpenDelay) (n : ℕ) (within : n < length ds) where
  abbrev d : OpenDelay
  d = get_or ds n no_delay

  abbrev rest : List OpenDelay
  rest = drop (n + 1) ds

  one : (b : Bool) → nat_le d.time clock ≡ b → picked task clock (drop n ds) ≡ map (λ (x : OpenDelay). picks task x.alternative) (if b then d ∷ filter (λ (x : OpenDelay). nat_le x.time clock) rest else filter (λ (x : OpenDelay). nat_le x.time clock) rest)
  one b test =
      at_drop_more (picked task clock) ds n no_delay within
      ∙ ap (λ e. map (λ (x : OpenDelay). picks task x.alternative) (if e then d ∷ filter (λ (x : OpenDelay). nat_le x.time clock) rest else filter (λ (x : OpenDelay). nat_le x.time clock) rest)) test

  pub picked_one : nat_le d.time clock ≡ true → picked task clock (drop n ds) ≡ picks task d.alternative ∷ picked task clock rest
  picked_one h = one true h

  pub picked_none : nat_le d.time clock ≡ false → picked task clock (drop n ds) ≡ picked task clock rest
  picked_none h = one false h

pub picked_past : (task clock : ℕ) (ds : List OpenDelay) (n : ℕ) → length ds ≤ n → picked task clock (drop n ds) ≡ []
picked_past task clock ds n past = at_drop_all (picked task clock) ds n past

-- the first of a list, and those behind it
pub nth_first : {A : Type 0} (x : A) (xs ms : List A) (n : ℕ) → ms ≡ x ∷ xs → n ≡ 0 → slice_get ms n ≡ Some x
nth_first x xs ms n is first = ap (λ l. slice_get l n) is ∙ ap (slice_get (x ∷ xs)) first

nth_cons : {A : Type 0} (x : A) (xs : List A) (n k : ℕ) → n ≡ suc k → slice_get (x ∷ xs) n ≡ slice_get xs k
nth_cons x xs n k is = ap (slice_get (x ∷ xs)) is

pub nth_behind : {A : Type 0} (x : A) (xs ms : List A) (n k : ℕ) → ms ≡ x ∷ xs → n ≡ suc k → slice_get ms n ≡ slice_get xs k
nth_behind x xs ms n k is e = ap (λ l. slice_get l n) is ∙ nth_cons x xs n k e

-- one more is told
pub listed_one : {A : Type 0} (before : List A) (x : A) (xs ms told : List A) → ms ≡ x ∷ xs → told ≡ before ++ x ∷ [] → told ++ xs ≡ before ++ ms
listed_one before x xs ms told is e = ap (λ l. l ++ xs) e ∙ append_assoc before (x ∷ []) xs ∙ ap (λ l. before ++ l) (sym is)
