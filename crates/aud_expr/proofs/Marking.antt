-- Only an evaluation that ends at the mark does so.
use Rattle.std.proofs.Common.{◌≡◌, ℕ, zero, suc, List, [], ◌∷◌, drop, Bool, true, false, Result, Ok, Err, if◌then◌else◌, subst}
use Rattle.aud_text.specs.declared.raise.Raise.{Raise}
use Rattle.aud_meaning.specs.Control.{Scene}
use Rattle.aud_code.specs.Instruction.{Instruction, Push, Load, LoadElement, OnOne, OnTwo, Count, Check, Cell, PushTruth, Truth, Negate, Relate, Compare, Combine, PassIfFalse, PassIfTrue, IsCallable, IsTerminated, Find, FindElement, LoadFound, Pass, PassCopy, AppendText, AppendImage, AppendTruth, AppendNewLine, Name, Milliseconds, Seconds, BeginObject, Component, OpensAccept, OpensDelay, OpensTerminate, Mark, PassUnlessNext, SetTime, If, Operands, Ended, Reached, Marked, Raised, Lost}
use Rattle.aud_code.specs.Eval.{on_result, on_one, on_two, Then, act, eval, is_next}
use Rattle.aud_code.specs.Flat.{Last, Does, FlatLine, instructions_from}
use Rattle.aud_expr.specs.declared.evaluate.Outcome.{Outcome}
use Rattle.aud_expr.specs.declared.evaluate.Outcome.TheVariants.{Reaches, Fails}
use Rattle.aud_code.specs.Sound.{Counts, counts_of, Takes, LastFine, TakesTruth}
use Rattle.aud_expr.specs.Flow.{ended, evaluated_in, step_end, FitsIn, HasTruth, IsMarked}

IsElsewhere : Ended → Type 0
IsElsewhere (Reached o) = Unit {0}
IsElsewhere (Marked o) = ⊥
IsElsewhere (Raised raise) = Unit {0}
IsElsewhere Lost = Unit {0}

module _ (s : Scene) where
  result : {A : Type 0} (r : Result A Raise) (go : A → Ended) → ((x : A) → IsElsewhere (go x)) → IsElsewhere (on_result r go)
  unfolding IsElsewhere
  result (Ok x) go h = h x
  result (Err raise) go h = tt

  one : {A : Type 0} (xs : List A) (go : A → List A → Ended) → ((x : A) (rest : List A) → IsElsewhere (go x rest)) → IsElsewhere (on_one xs go)
  unfolding IsElsewhere
  one [] go h = tt
  one (x ∷ rest) go h = h x rest

  two : {A : Type 0} (xs : List A) (go : A → A → List A → Ended) → ((x y : A) (rest : List A) → IsElsewhere (go x y rest)) → IsElsewhere (on_two xs go)
  unfolding IsElsewhere
  two [] go h = tt
  two (y ∷ []) go h = tt
  two (y ∷ x ∷ rest) go h = h x y rest

  either : (b : Bool) (x y : Ended) → IsElsewhere x → IsElsewhere y → IsElsewhere (if b then x else y)
  either true x y h k = h
  either false x y h k = k

  module _ (go : Then) (k : (n : ℕ) (o : Operands) → IsElsewhere (go n o)) where
    goes : (i : Instruction) (o : Operands) → IsElsewhere (act false s i go o)
    goes (Push z) o = k 0 _
    goes (Load v) o = k 0 _
    goes (LoadElement a) o = one o.integers _ (λ x rest. result _ _ (λ v. k 0 _))
    goes (OnOne operator) o = one o.integers _ (λ x rest. result _ _ (λ v. k 0 _))
    goes (OnTwo operator) o = two o.integers _ (λ x y rest. result _ _ (λ v. k 0 _))
    goes (Count v entry) o = k 0 _
    goes (Check t) o = one o.integers _ (λ x rest. result _ _ (λ v. k 0 _))
    goes Cell o = one o.booleans _ (λ x rest. k 0 _)
    goes (PushTruth b) o = k 0 _
    goes Truth o = one o.integers _ (λ x rest. k 0 _)
    goes Negate o = one o.booleans _ (λ x rest. k 0 _)
    goes (Relate operator) o = two o.integers _ (λ x y rest. k 0 _)
    goes (Compare operator) o = two o.booleans _ (λ x y rest. k 0 _)
    goes (Combine operator) o = two o.booleans _ (λ x y rest. k 0 _)
    goes (PassIfFalse n) o = one o.booleans _ (λ b rest. either b _ _ (k 0 _) (k n _))
    goes (PassIfTrue n) o = one o.booleans _ (λ b rest. either b _ _ (k n _) (k 0 _))
    goes IsCallable o = one o.integers _ (λ x rest. k 0 _)
    goes IsTerminated o = one o.integers _ (λ x rest. k 0 _)
    goes (Find v t) o = k 0 _
    goes (FindElement a t) o = one o.integers _ (λ x rest. result _ _ (λ v. k 0 _))
    goes LoadFound o = one o.targets _ (λ x rest. k 0 _)
    goes Pass o = one o.integers _ (λ x rest. k 0 _)
    goes (PassCopy n) o = one o.integers _ (λ x rest. one o.targets _ (λ t targets. k 0 _))
    goes (AppendText text) o = k 0 _
    goes AppendImage o = one o.integers _ (λ x rest. k 0 _)
    goes AppendTruth o = one o.booleans _ (λ x rest. k 0 _)
    goes AppendNewLine o = k 0 _
    goes Name o = one o.integers _ (λ x rest. k 0 _)
    goes (Milliseconds n) o = k 0 _
    goes Seconds o = one o.integers _ (λ x rest. k 0 _)
    goes BeginObject o = k 0 _
    goes Component o = one o.integers _ (λ x rest. k 0 _)
    goes (OpensAccept a) o = one o.booleans _ (λ x rest. k 0 _)
    goes (OpensDelay n) o = one o.booleans _ (λ x rest. k 0 _)
    goes OpensTerminate o = one o.booleans _ (λ x rest. k 0 _)
    goes Mark o = k 0 _
    goes (PassUnlessNext n m) o = either (is_next n o.waits.delays) _ _ (k 0 _) (k m _)
    goes (SetTime n) o = k 0 _

  elsewhere : (is : List Instruction) (n : ℕ) (o : Operands) → IsElsewhere (eval false s is n o)
  unfolding IsElsewhere
  elsewhere [] n o = tt
  elsewhere (i ∷ is) (suc n) o = elsewhere is n o
  elsewhere (i ∷ is) zero o = goes (eval false s is) (λ m p. elsewhere is m p) i o

  at_mark : (x : Ended) (o : Operands) → Marked o ≡ x → IsElsewhere x → ⊥
  unfolding IsElsewhere
  at_mark (Reached p) o e h = cc
  at_mark (Marked p) o e h = h
  at_mark (Raised raise) o e h = cc
  at_mark Lost o e h = cc

pub not_marked : (lines : List FlatLine) (first : ℕ) (s : Scene) (o : Operands) → Marked o ≡ evaluated_in false lines first s → ⊥
not_marked lines first s o e = at_mark s (evaluated_in false lines first s) o e (elsewhere s (instructions_from (drop first lines)) 0 _)

-- one that ended elsewhere did not reach it
pub unmarked : (outcome : Outcome) (o : Operands) (x : Ended) → ended outcome o ≡ x → IsMarked false o x
unmarked (Reaches place) o x e = subst (IsMarked false o) e tt
unmarked (Fails raise) o x e = subst (IsMarked false o) e tt

-- the ending of a barrier finds its truth value
truth_left : (last : Last) (c : Counts) → TakesTruth last → LastFine last c → Takes c.booleans (λ n. Unit {0})
truth_left (Does If) c t h = h
truth_left last c t h = absurd t

pub has_truth : (outcome : Outcome) (lines : List FlatLine) (o : Operands) → TakesTruth (step_end lines 0).last → FitsIn outcome lines 0 o → HasTruth outcome (counts_of o)
has_truth (Reaches place) lines o t h = truth_left (step_end lines 0).last (counts_of o) t h
has_truth (Fails raise) lines o t h = tt
