-- Which lines ask what.
use Rattle.std.proofs.Common.{◌≡◌, ℕ, ℤ, zero, suc, List, [], ◌∷◌, length, Bool, true, false, Option, Some, None, Result, Ok, Err, if◌then◌else◌, refl, ap, inl, inr, slice_get}
use Rattle.std.proofs.lemmas.Option.{same_Some}
use Rattle.aud_text.specs.declared.raise.Raise.{Raise}
use Rattle.aud_text.specs.declared.place.Pos.{Pos}
use Rattle.aud_meaning.specs.Control.{Asked, Scene}
use Rattle.aud_meaning.specs.Control as asked
use Rattle.aud_code.specs.Places.{Spot, loops_of}
use Rattle.aud_code.specs.Instruction.{Instruction, Push, Load, LoadElement, OnOne, OnTwo, Count, Check, Cell, PushTruth, Truth, Negate, Relate, Compare, Combine, PassIfFalse, PassIfTrue, IsCallable, IsTerminated, Find, FindElement, LoadFound, Pass, PassCopy, AppendText, AppendImage, AppendTruth, AppendNewLine, Name, Milliseconds, Seconds, BeginObject, Component, OpensAccept, OpensDelay, OpensTerminate, Mark, PassUnlessNext, SetTime, Ending, Declare, DeclareArray, DeclareTasks, DeclareObject, Activated, Activate, Null, Assign, Put, If, While, Loop, Exit, Return, ReturnValue, Raising, RaisingAgain, Block, Proc, OwnCall, Operation, CallTask, CallObject, Delay, Accept, Select, Abort, RequeueTask, RequeueObject, Operands, no_operands, Ended, Reached, Marked, Raised, Lost}
use Rattle.aud_code.specs.Eval.{on_result, on_one, on_two, Then, act, eval, is_next, asked_end, raised_by, with_one, with_two, with_cells}
use Rattle.aud_code.specs.Flat.{Last, Does, Continues, Guards, Ends, Leaves, EndLine, FlatLine, instructs, end, Flat, asked_last, asked_at, end_from, end_at, instructions_at}
use Rattle.aud_code.specs.Frames.{found_from, found}
use Rattle.aud_code.specs.Sound.{counts_of, is_some, Takes, EndingFine, LastFine, NotLost, IsSound, IsStart}
use Rattle.aud_code.proofs.Fine.{not_lost}
use Rattle.aud_framed.specs.Stepping.{AskedBy}

-- An evaluation for a step does not end at the mark.

abbrev IsEnded : Ended → Type 0
IsEnded (Reached o) = Unit {0}
IsEnded (Marked o) = ⊥
IsEnded (Raised raise) = Unit {0}
IsEnded Lost = Unit {0}

result : {A : Type 0} (r : Result A Raise) (go : A → Ended) → ((x : A) → IsEnded (go x)) → IsEnded (on_result r go)
result (Ok x) go h = h x
result (Err raise) go h = tt

one : {A : Type 0} (xs : List A) (go : A → List A → Ended) → ((x : A) (rest : List A) → IsEnded (go x rest)) → IsEnded (on_one xs go)
one [] go h = tt
one (x ∷ rest) go h = h x rest

two : {A : Type 0} (xs : List A) (go : A → A → List A → Ended) → ((x y : A) (rest : List A) → IsEnded (go x y rest)) → IsEnded (on_two xs go)
two [] go h = tt
two (y ∷ []) go h = tt
two (y ∷ x ∷ rest) go h = h x y rest

either : (b : Bool) (x y : Ended) → IsEnded x → IsEnded y → IsEnded (if b then x else y)
either true x y h k = h
either false x y h k = k

module _ (s : Scene) where
  module _ (go : Then) (k : (n : ℕ) (o : Operands) → IsEnded (go n o)) where
    acts_on : (i : Instruction) (o : Operands) → IsEnded (act false s i go o)
    acts_on (Push z) o = k 0 _
    acts_on (Load v) o = k 0 _
    acts_on (LoadElement a) o = one o.integers _ (λ x rest. result _ _ (λ v. k 0 _))
    acts_on (OnOne operator) o = one o.integers _ (λ x rest. result _ _ (λ v. k 0 _))
    acts_on (OnTwo operator) o = two o.integers _ (λ x y rest. result _ _ (λ v. k 0 _))
    acts_on (Count v entry) o = k 0 _
    acts_on (Check t) o = one o.integers _ (λ x rest. result _ _ (λ v. k 0 _))
    acts_on Cell o = one o.booleans _ (λ x rest. k 0 _)
    acts_on (PushTruth b) o = k 0 _
    acts_on Truth o = one o.integers _ (λ x rest. k 0 _)
    acts_on Negate o = one o.booleans _ (λ x rest. k 0 _)
    acts_on (Relate operator) o = two o.integers _ (λ x y rest. k 0 _)
    acts_on (Compare operator) o = two o.booleans _ (λ x y rest. k 0 _)
    acts_on (Combine operator) o = two o.booleans _ (λ x y rest. k 0 _)
    acts_on (PassIfFalse n) o = one o.booleans _ (λ b rest. either b _ _ (k 0 _) (k n _))
    acts_on (PassIfTrue n) o = one o.booleans _ (λ b rest. either b _ _ (k n _) (k 0 _))
    acts_on IsCallable o = one o.integers _ (λ x rest. k 0 _)
    acts_on IsTerminated o = one o.integers _ (λ x rest. k 0 _)
    acts_on (Find v t) o = k 0 _
    acts_on (FindElement a t) o = one o.integers _ (λ x rest. result _ _ (λ v. k 0 _))
    acts_on LoadFound o = one o.targets _ (λ x rest. k 0 _)
    acts_on Pass o = one o.integers _ (λ x rest. k 0 _)
    acts_on (PassCopy n) o = one o.integers _ (λ x rest. one o.targets _ (λ t targets. k 0 _))
    acts_on (AppendText text) o = k 0 _
    acts_on AppendImage o = one o.integers _ (λ x rest. k 0 _)
    acts_on AppendTruth o = one o.booleans _ (λ x rest. k 0 _)
    acts_on AppendNewLine o = k 0 _
    acts_on Name o = one o.integers _ (λ x rest. k 0 _)
    acts_on (Milliseconds n) o = k 0 _
    acts_on Seconds o = one o.integers _ (λ x rest. k 0 _)
    acts_on BeginObject o = k 0 _
    acts_on Component o = one o.integers _ (λ x rest. k 0 _)
    acts_on (OpensAccept a) o = one o.booleans _ (λ x rest. k 0 _)
    acts_on (OpensDelay n) o = one o.booleans _ (λ x rest. k 0 _)
    acts_on OpensTerminate o = one o.booleans _ (λ x rest. k 0 _)
    acts_on Mark o = k 0 _
    acts_on (PassUnlessNext n m) o = either (is_next n o.waits.delays) _ _ (k 0 _) (k m _)
    acts_on (SetTime n) o = k 0 _

  is_ended : (is : List Instruction) (n : ℕ) (o : Operands) → IsEnded (eval false s is n o)
  is_ended [] n o = tt
  is_ended (i ∷ is) (suc n) o = is_ended is n o
  is_ended (i ∷ is) zero o = acts_on (eval false s is) (λ m p. is_ended is m p) i o

-- What the ending asks.

with_first : {A : Type 0} (P : Asked → Type 0) (xs : List A) (go : A → Asked) (Q : ℕ → Type 0) → Takes (length xs) Q → ((x : A) (n : ℕ) → Q n → P (go x)) → P (with_one xs go)
with_first P [] go Q h k = absurd h
with_first P (x ∷ xs) go Q h k = k x (length xs) h

with_both : {A : Type 0} (P : Asked → Type 0) (xs : List A) (go : A → A → Asked) (Q : ℕ → Type 0) → Takes (length xs) (λ n. Takes n Q) → ((x y : A) → P (go x y)) → P (with_two xs go)
with_both P [] go Q h k = absurd h
with_both P (y ∷ []) go Q h k = absurd h
with_both P (y ∷ x ∷ xs) go Q h k = k x y

module _ (out : ℕ) (at : Pos) (s : Scene) where
  raised : (e : Ending) (raise : Raise) → AskedBy (Does e) out (raised_by e raise at)
  raised (Declare up_to) raise = (Declare up_to, refl)
  raised (DeclareObject n) raise = (DeclareObject n, refl)
  raised e raise = (e, refl)

  exits : (b : Bool) → AskedBy (Does Exit) out (if b then asked.goes_out out None else asked.goes_on 0)
  exits true = ((Exit, refl), refl)
  exits false = inl (Exit, (refl, tt))

  cells_asked : (n : ℕ) (x : Option (List ℤ)) → is_some x ≡ true → AskedBy (Does (DeclareObject n)) out (with_cells x (λ cells. asked.declares_object at n cells))
  cells_asked n None h = absurd cc
  cells_asked n (Some cells) h = refl

  ended : (e : Ending) (o : Operands) → EndingFine e (counts_of o) → AskedBy (Does e) out (asked_end e out at s o)
  ended (Declare up_to) o h = with_first (AskedBy (Does (Declare up_to)) out) o.integers _ _ h (λ z n q. (Declare up_to, (refl, tt)))
  ended (DeclareArray t n) o h = (DeclareArray t n, (refl, tt))
  ended (DeclareTasks ts) o h = refl
  ended (DeclareObject n) o h = cells_asked n o.cells h
  ended Activated o h = refl
  ended Activate o h = refl
  ended Null o h = inl (Null, (refl, tt))
  ended Assign o h =
      with_first (AskedBy (Does Assign) out) o.targets _ _ h
      (λ t n q. with_first (AskedBy (Does Assign) out) o.integers _ _ q (λ z m r. (Assign, (refl, tt))))
  ended Put o h = (Put, (refl, tt))
  ended If o h = with_first (AskedBy (Does If) out) o.booleans _ _ h (λ b n q. inl (If, (refl, tt)))
  ended While o h = with_first (AskedBy (Does While) out) o.booleans _ _ h (λ b n q. inl (While, (refl, tt)))
  ended (Loop f) o h = with_both (AskedBy (Does (Loop f)) out) o.integers _ _ h (λ x y. refl)
  ended Exit o h = with_first (AskedBy (Does Exit) out) o.booleans _ _ h (λ b n q. exits b)
  ended Return o h = ((Return, refl), refl)
  ended ReturnValue o h = with_first (AskedBy (Does ReturnValue) out) o.integers _ _ h (λ z n q. ((ReturnValue, refl), refl))
  ended (Raising x) o h = (Raising x, refl)
  ended RaisingAgain o h = (RaisingAgain, refl)
  ended (Block region) o h = refl
  ended (Proc unit) o h = refl
  ended OwnCall o h = (OwnCall, refl)
  ended (Operation v unit) o h = (v, refl)
  ended (CallTask entry form) o h = with_first (AskedBy (Does (CallTask entry form)) out) o.names _ _ h (λ n m q. (form, refl))
  ended (CallObject v entry form) o h = (v, (form, refl))
  ended Delay o h = refl
  ended (Accept entry region) o h = (refl, refl)
  ended (Select has_else) o h = refl
  ended Abort o h = refl
  ended (RequeueTask entry formals abort) o h =
      with_first (AskedBy (Does (RequeueTask entry formals abort)) out) o.names _ _ h (λ n m q. ((RequeueTask entry formals abort, refl), refl))
  ended (RequeueObject v entry formals abort) o h = ((RequeueObject v entry formals abort, refl), refl)

  asked_by : (last : Last) (x : Ended) → NotLost (LastFine last) x → IsEnded x → AskedBy last out (asked_last last out at s x)
  asked_by (Does e) (Reached o) h k = ended e o h
  asked_by (Does e) (Marked o) h k = absurd k
  asked_by (Does e) (Raised raise) h k = raised e raise
  asked_by (Does e) Lost h k = absurd h
  asked_by (Continues f) x h k = refl
  asked_by (Guards gs) x h k = inr (gs, refl)
  asked_by (Ends c next) x h k = inl (c, (next, (refl, refl)))
  asked_by (Leaves n next) x h k = inr (next, refl)

pub asks : (code : Flat) → IsSound code → (s : Scene) (t : Spot) → IsStart code.lines t.place → AskedBy (end_at code t.place).last (loops_of (end_at code t.place).exit) (asked_at code None s t)
asks code sound s t start =
    let l = end_at code t.place in
    let is = instructions_at code t.place in
    asked_by (loops_of l.exit) l.at s l.last (eval false s is 0 no_operands)
    (not_lost (LastFine l.last) false s is 0 no_operands (sound.operands t.place start)) (is_ended s is 0 no_operands)

pub end_is : (lines : List FlatLine) (n : ℕ) (l : EndLine) → found_from lines ≡ Some l → end_from lines n ≡ l
end_is [] n l e = absurd cc
end_is (instructs i ∷ ls) n l e = end_is ls n l e
end_is (end x ∷ ls) n l e = same_Some x l e

-- a line stands where an ending is found
pub stands_at : (ls : List FlatLine) (l : EndLine) → found_from ls ≡ Some l → (k : ℕ) × (slice_get ls k ≡ Some (end l))
stands_at [] l e = absurd cc
stands_at (instructs i ∷ ls) l e = by (stands_at ls l e)
  where
    by : (k : ℕ) × (slice_get ls k ≡ Some (end l)) → (k : ℕ) × (slice_get (instructs i ∷ ls) k ≡ Some (end l))
    by s = (suc s.0, s.1)
stands_at (end x ∷ ls) l e = (0, ap (λ y. Some (end y)) (same_Some x l e))

pub line_of : (p : ℕ) (lines : List FlatLine) (l : EndLine) → found lines p ≡ Some l → (k : ℕ) × (slice_get lines k ≡ Some (end l))
line_of zero lines l e = stands_at lines l e
line_of (suc p) [] l e = absurd cc
line_of (suc p) (x ∷ xs) l e = by (line_of p xs l e)
  where
    by : (k : ℕ) × (slice_get xs k ≡ Some (end l)) → (k : ℕ) × (slice_get (x ∷ xs) k ≡ Some (end l))
    by s = (suc s.0, s.1)
