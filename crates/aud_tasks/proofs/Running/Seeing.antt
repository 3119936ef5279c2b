-- An evaluation executes as many instructions wherever the same is seen.
use Rattle.std.proofs.Common.{◌≡◌, ℕ, zero, suc, List, [], ◌∷◌, Option, Some, None, Bool, true, false, refl, sym, ap, ◌∙◌}
use Rattle.std.specs.Prelude.{if◌then◌else◌, Result, Ok, Err}
use Rattle.aud_text.specs.declared.raise.Raise.{Raise}
use Rattle.aud_meaning.specs.declared.state.Pending.{Pending}
use Rattle.aud_meaning.specs.Configuration.{Frame}
use Rattle.aud_meaning.specs.Evaluation.{unary_of, binary_of, in_range, element_at}
use Rattle.aud_meaning.specs.Control.{Scene}
use Rattle.aud_code.specs.Places.{Spot}
use Rattle.aud_code.specs.Instruction.{Instruction, Push, Load, LoadElement, OnOne, OnTwo, Count, Check, Cell, PushTruth, Truth, Negate, Relate, Compare, Combine, PassIfFalse, PassIfTrue, IsCallable, IsTerminated, Find, FindElement, LoadFound, Pass, PassCopy, AppendText, AppendImage, AppendTruth, AppendNewLine, Name, Milliseconds, Seconds, BeginObject, Component, OpensAccept, OpensDelay, OpensTerminate, Mark, PassUnlessNext, SetTime, Operands, no_operands, Ended, Reached, Marked}
use Rattle.aud_code.specs.Eval.{Then, on_result, on_one, on_two, is_next, act}
use Rattle.aud_code.specs.Flat.{Flat, instructions_at}
use Rattle.aud_expr.specs.Ticks.{passed_at, ticks_behind, ticks_of}
use Rattle.aud_over.specs.Looks.{SeesSame, with_frames}
use Rattle.aud_over.proofs.Coding.{Found, act_same}
use Rattle.aud_state.specs.Fast.{executed_at}

module _ (f : ℕ → Operands → ℕ) where
  -- A number is told where the evaluation goes on. It is that of the instructions that are passed and of the operands.
  abbrev Says : Ended → Ended → Ended → Type 0
  Says told passed reached = passed_at told ≡ ticks_behind (f (passed_at passed)) reached

  one_says : {A : Type 0} (xs : List A) (told passed reached : A → List A → Ended) → ((x : A) (rest : List A) → Says (told x rest) (passed x rest) (reached x rest)) → Says (on_one xs told) (on_one xs passed) (on_one xs reached)
  one_says [] told passed reached h = refl
  one_says (x ∷ rest) told passed reached h = h x rest

  two_says : {A : Type 0} (xs : List A) (told passed reached : A → A → List A → Ended) → ((x y : A) (rest : List A) → Says (told x y rest) (passed x y rest) (reached x y rest)) → Says (on_two xs told) (on_two xs passed) (on_two xs reached)
  two_says [] told passed reached h = refl
  two_says (y ∷ []) told passed reached h = refl
  two_says (y ∷ x ∷ rest) told passed reached h = h x y rest

  result_says : {A : Type 0} (r : Result A Raise) (told passed reached : A → Ended) → ((x : A) → Says (told x) (passed x) (reached x)) → Says (on_result r told) (on_result r passed) (on_result r reached)
  result_says (Ok x) told passed reached h = h x
  result_says (Err raise) told passed reached h = refl

  if_says : (b : Bool) (x y x' y' x'' y'' : Ended) → Says x x' x'' → Says y y' y'' → Says (if b then x else y) (if b then x' else y') (if b then x'' else y'')
  if_says true x y x' y' x'' y'' h g = h
  if_says false x y x' y' x'' y'' h g = g

  abbrev telling : Then
  telling n o = Reached (record no_operands { delay = f n o })

abbrev passing : Then
passing n o = Reached (record no_operands { delay = n })

abbrev reaching : Then
reaching n o = Reached o

module _ (f : ℕ → Operands → ℕ) (stops : Bool) (s : Scene) where
  says : (i : Instruction) (o : Operands) → Says f (act stops s i (telling f) o) (act stops s i passing o) (act stops s i reaching o)
  says (Push z) o = refl
  says (Load v) o = refl
  says (LoadElement a) o = one_says f o.integers _ _ _ (λ i rest. result_says f (element_at a i) _ _ _ (λ v. refl))
  says (OnOne operator) o = one_says f o.integers _ _ _ (λ x rest. result_says f (unary_of operator x) _ _ _ (λ z. refl))
  says (OnTwo operator) o = two_says f o.integers _ _ _ (λ x y rest. result_says f (binary_of operator x y) _ _ _ (λ z. refl))
  says (Count v entry) o = refl
  says (Check t) o = one_says f o.integers _ _ _ (λ x rest. result_says f (in_range t x) _ _ _ (λ z. refl))
  says Cell o = one_says f o.booleans _ _ _ (λ b rest. refl)
  says (PushTruth b) o = refl
  says Truth o = one_says f o.integers _ _ _ (λ x rest. refl)
  says Negate o = one_says f o.booleans _ _ _ (λ b rest. refl)
  says (Relate operator) o = two_says f o.integers _ _ _ (λ x y rest. refl)
  says (Compare operator) o = two_says f o.booleans _ _ _ (λ x y rest. refl)
  says (Combine operator) o = two_says f o.booleans _ _ _ (λ x y rest. refl)
  says (PassIfFalse n) o = one_says f o.booleans _ _ _ (λ b rest. if_says f b _ _ _ _ _ _ refl refl)
  says (PassIfTrue n) o = one_says f o.booleans _ _ _ (λ b rest. if_says f b _ _ _ _ _ _ refl refl)
  says IsCallable o = one_says f o.integers _ _ _ (λ x rest. refl)
  says IsTerminated o = one_says f o.integers _ _ _ (λ x rest. refl)
  says (Find v t) o = refl
  says (FindElement a t) o = one_says f o.integers _ _ _ (λ i rest. result_says f (element_at a i) _ _ _ (λ v. refl))
  says LoadFound o = one_says f o.targets _ _ _ (λ t rest. refl)
  says Pass o = one_says f o.integers _ _ _ (λ z rest. refl)
  says (PassCopy n) o = one_says f o.integers _ _ _ (λ z rest. one_says f o.targets _ _ _ (λ t targets. refl))
  says (AppendText more) o = refl
  says AppendImage o = one_says f o.integers _ _ _ (λ z rest. refl)
  says AppendTruth o = one_says f o.booleans _ _ _ (λ b rest. refl)
  says AppendNewLine o = refl
  says Name o = one_says f o.integers _ _ _ (λ z rest. refl)
  says (Milliseconds n) o = refl
  says Seconds o = one_says f o.integers _ _ _ (λ z rest. refl)
  says BeginObject o = refl
  says Component o = one_says f o.integers _ _ _ (λ z rest. refl)
  says (OpensAccept a) o = one_says f o.booleans _ _ _ (λ b rest. refl)
  says (OpensDelay n) o = one_says f o.booleans _ _ _ (λ b rest. refl)
  says OpensTerminate o = one_says f o.booleans _ _ _ (λ b rest. refl)
  says Mark o = if_says f stops (Marked o) (telling f 0 o) (Marked o) (passing 0 o) (Marked o) (reaching 0 o) refl refl
  says (PassUnlessNext n k) o = if_says f (is_next n o.waits.delays) _ _ _ _ _ _ refl refl
  says (SetTime n) o = refl

module _ (stops : Bool) (s : Scene) (fs : List Frame) (h : SeesSame s.sight fs) where
  abbrev there : Scene
  there = record s { sight = with_frames fs s.sight }

  abbrev told : ℕ → Ended
  told n = Reached (record no_operands { delay = n })

  ticks_same : (is : List Instruction) (n : ℕ) (o : Operands) → Found stops s fs h o.targets → ticks_of stops s is n o ≡ ticks_of stops there is n o
  ticks_same [] n o e = refl
  ticks_same (i ∷ is) (suc n) o e = ticks_same is n o e
  ticks_same (i ∷ is) zero o e =
      let here = ticks_of stops s is in
      let behind = ticks_of stops there is in
      ap suc
      (sym (says here stops s i o)
      ∙ ap passed_at (act_same stops s fs h i (telling here) (telling behind) o e (λ n p found. ap told (ticks_same is n p found)))
      ∙ says behind stops there i o)

pub executed_seen : (code : Flat) (pending : Option Pending) (s : Scene) (fs : List Frame) (t : Spot) → SeesSame s.sight fs → executed_at code pending s t ≡ executed_at code pending (record s { sight = with_frames fs s.sight }) t
executed_seen code None s fs t h = ticks_same false s fs h (instructions_at code t.place) 0 no_operands tt
executed_seen code (Some p) s fs t h = refl
