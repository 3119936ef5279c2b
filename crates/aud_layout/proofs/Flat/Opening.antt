-- The accepts that a selective accept's step opens, by the numbers of their alternatives: what is done by each begins where it is laid out.
use Rattle.std.proofs.Common.{◌≡◌, ℕ, zero, suc, ◌+◌, List, [], ◌∷◌, ◌++◌, map, slice_get, Option, Some, refl, subst, arith}
use Rattle.aud_typed.specs.Tree.{IntegerExpression, number, variable, element, unary, binary, count, Reference, scalar, component, TaskName, single, indexed, BooleanExpression, truth, stored, negation, relation, comparison, logical, and_then, or_else, callable, terminated, DelayExpression, milliseconds, seconds, Alternatives, no_alternatives, accepting, delaying, terminating, Callee, of_task, of_object, CallForm, Requeue}
use Rattle.aud_meaning.specs.declared.state.OpenAccept.{OpenAccept}
use Rattle.aud_meaning.specs.Statements.{region_of}
use Rattle.aud_code.specs.Instruction.{Instruction, Mark, Ending, Accept, Select}
use Rattle.aud_code.specs.Instruction as instruction
use Rattle.aud_code.specs.Frames.{IsWritten, OpensWith, EachOpened}
use Rattle.aud_layout.specs.Layout.{part_size, doing_size, part_place, doing_place, bodies_from}
use Rattle.aud_layout.specs.Instructions.{integer_code, loaded_code, task_code, condition_code, delay_code, guards_code, timed_code, delays_code, call_end, requeue_end}
use Rattle.aud_layout.proofs.Flat.Numbers.{is_written}

-- endings of steps without accepts
abbrev pub NoAccepts : Ending → Type 0
NoAccepts (Accept entry region) = ⊥
NoAccepts (Select has_else) = ⊥
NoAccepts e = Unit {0}

pub call_has_none : (c : Callee) (entry : ℕ) (form : CallForm) → NoAccepts (call_end c entry form)
call_has_none (of_task t) entry form = tt
call_has_none (of_object v) entry form = tt

pub requeue_has_none : (c : Callee) (r : Requeue) → NoAccepts (requeue_end c r)
requeue_has_none (of_task t) r = tt
requeue_has_none (of_object v) r = tt

module _ (P : OpenAccept → Type 0) where
  abbrev All : List Instruction → Type 0
  All is = EachOpened is P

  both : (is js : List Instruction) → All is → All js → All (is ++ js)
  both [] js h k = k
  both (i ∷ is) js h k = (h.0, both is js h.1 k)

  pub all_there : (is : List Instruction) (n : ℕ) (i : Instruction) → All is → slice_get is n ≡ Some i → OpensWith i P
  all_there [] n i h e = cc
  all_there (j ∷ is) zero i h e = let same : j ≡ i = cc in subst (λ (x : Instruction). OpensWith x P) same h.0
  all_there (j ∷ is) (suc n) i h e = all_there is n i h.1 e

  -- where that holds of every accept
  opens_any : (i : Instruction) → ((a : OpenAccept) → P a) → OpensWith i P
  opens_any (instruction.OpensAccept a) h = h a
  opens_any i h = tt

  pub each_any : (is : List Instruction) → ((a : OpenAccept) → P a) → All is
  each_any [] h = tt
  each_any (i ∷ is) h = (opens_any i h, each_any is h)

  -- expressions open none

  integer_none : (e : IntegerExpression) → All (integer_code e)
  integer_none (number z) = (tt, tt)
  integer_none (variable v) = (tt, tt)
  integer_none (element a e) = both (integer_code e) _ (integer_none e) (tt, tt)
  integer_none (unary f x) = both (integer_code x) _ (integer_none x) (tt, tt)
  integer_none (binary f x y) = both (integer_code x) _ (integer_none x) (both (integer_code y) _ (integer_none y) (tt, tt))
  integer_none (count v entry) = (tt, tt)

  loaded_none : (r : Reference) → All (loaded_code r)
  loaded_none (scalar v t) = (tt, tt)
  loaded_none (component a e t) = both (integer_code e) _ (integer_none e) (tt, tt)

  task_none : (t : TaskName) → All (task_code t)
  task_none (single v) = (tt, tt)
  task_none (indexed a e) = both (integer_code e) _ (integer_none e) (tt, tt)

  condition_none : (e : BooleanExpression) → All (condition_code e)
  condition_none (truth b) = (tt, tt)
  condition_none (stored r) = both (loaded_code r) _ (loaded_none r) (tt, tt)
  condition_none (negation x) = both (condition_code x) _ (condition_none x) (tt, tt)
  condition_none (relation f x y) = both (integer_code x) _ (integer_none x) (both (integer_code y) _ (integer_none y) (tt, tt))
  condition_none (comparison f x y) = both (condition_code x) _ (condition_none x) (both (condition_code y) _ (condition_none y) (tt, tt))
  condition_none (logical f x y) = both (condition_code x) _ (condition_none x) (both (condition_code y) _ (condition_none y) (tt, tt))
  condition_none (and_then x y) = both (condition_code x) _ (condition_none x) (tt, condition_none y)
  condition_none (or_else x y) = both (condition_code x) _ (condition_none x) (tt, condition_none y)
  condition_none (callable t) = both (task_code t) _ (task_none t) (tt, tt)
  condition_none (terminated t) = both (task_code t) _ (task_none t) (tt, tt)

  delay_none : (e : DelayExpression) → All (delay_code e)
  delay_none (milliseconds n) = (tt, tt)
  delay_none (seconds e) = both (integer_code e) _ (integer_none e) (tt, tt)

  delays_none : (n : ℕ) (o : Alternatives) → All (delays_code n o)
  delays_none n no_alternatives = tt
  delays_none n (accepting g at e d p more) = delays_none (suc n) more
  delays_none n (delaying g e p more) = (tt, both (timed_code n e) _ (both (delay_code e) _ (delay_none e) (tt, tt)) (delays_none (suc n) more))
  delays_none n (terminating g more) = delays_none (suc n) more

-- where places move, what holds of each accept's table and of where it begins what is done
module _ (f : ℕ → ℕ) (Q : Option ℕ → ℕ → Type 0) where
  abbrev pub EachDoes : Alternatives → ℕ → ℕ → ℕ → Type 0
  EachDoes no_alternatives at next e = Unit {0}
  EachDoes (accepting g pos n d p more) at next e =
      Q (region_of d) (f (doing_place d at (part_place p (at + doing_size d) next))) × EachDoes more (at + doing_size d + part_size p e) next e
  EachDoes (delaying g x p more) at next e = EachDoes more (at + part_size p e) next e
  EachDoes (terminating g more) at next e = EachDoes more at next e

  module _ (all : List ℕ) where
    abbrev Numbered : OpenAccept → Type 0
    Numbered a = IsWritten (slice_get all a.alternative) (Q a.region)

    -- so many stand before these
    abbrev From : ℕ → List ℕ → Type 0
    From n ps = (j m : ℕ) → n + j ≡ m → slice_get all m ≡ slice_get ps j

    later : (n p : ℕ) (ps : List ℕ) → From n (p ∷ ps) → From (suc n) ps
    later n p ps h j m e = h (suc j) m (omega (arith, e))

    first : (n p : ℕ) (ps : List ℕ) → From n (p ∷ ps) → slice_get all n ≡ Some p
    first n p ps h = h 0 n (omega arith)

    guards_opened : (n : ℕ) (o : Alternatives) (at next e : ℕ) → From n (map f (bodies_from o at next e)) → EachDoes o at next e → EachOpened (guards_code n o) Numbered
    guards_opened n no_alternatives at next e h k = tt
    guards_opened n (accepting g pos entry d p more) at next e h k =
        let place = f (doing_place d at (part_place p (at + doing_size d) next)) in
        let there = at + doing_size d + part_size p e in
        both Numbered (condition_code g) _ (condition_none Numbered g)
        (is_written (slice_get all n) place (Q (region_of d)) (first n place _ h) k.0, guards_opened (suc n) more there next e (later n place _ h) k.1)
    guards_opened n (delaying g x p more) at next e h k =
        both Numbered (condition_code g) _ (condition_none Numbered g) (tt, guards_opened (suc n) more (at + part_size p e) next e (later n _ _ h) k)
    guards_opened n (terminating g more) at next e h k =
        both Numbered (condition_code g) _ (condition_none Numbered g) (tt, guards_opened (suc n) more at next e (later n _ _ h) k)

  behind_own : (own : ℕ) (ps : List ℕ) → From (own ∷ ps) 1 ps
  behind_own own ps j m e = let same : suc j ≡ m = omega (arith, e) in subst (λ k. slice_get (own ∷ ps) k ≡ slice_get ps j) same refl

  -- of a selective accept's step, which has the number 0
  pub select_opened : (o : Alternatives) (own at next e : ℕ) → EachDoes o at next e → EachOpened (guards_code 1 o ++ (Mark ∷ delays_code 1 o)) (λ a. IsWritten (slice_get (own ∷ map f (bodies_from o at next e)) a.alternative) (Q a.region))
  select_opened o own at next e k =
      let ps = map f (bodies_from o at next e) in
      let all = own ∷ ps in
      both (Numbered all) (guards_code 1 o) _ (guards_opened all 1 o at next e (behind_own own ps) k) (tt, delays_none (Numbered all) 1 o)
