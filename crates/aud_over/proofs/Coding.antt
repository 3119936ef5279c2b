-- Code looks at variables only through what is seen.
use Rattle.std.proofs.Common.{◌≡◌, ℕ, zero, suc, ◌+◌, ℤ, pos, nat_abs, List, [], ◌∷◌, ◌++◌, length, slice_index_or, Option, Some, None, Bool, true, false, refl, ap, ◌∙◌, subst}
use Rattle.std.specs.Prelude.{if◌then◌else◌, not, Result, Ok, Err, slice_index}
use Rattle.aud_text.specs.declared.place.Pos.{Pos}
use Rattle.aud_text.specs.declared.raise.Raise.{Raise}
use Rattle.aud_text.specs.Integer as integer
use Rattle.aud_typed.specs.declared.program.Variable.{Variable}
use Rattle.aud_typed.specs.declared.program.Subtype.{Subtype}
use Rattle.aud_typed.specs.Tree.{Plan}
use Rattle.aud_meaning.specs.declared.state.Owner.TheVariants as owner
use Rattle.aud_meaning.specs.declared.state.Pending.{Pending}
use Rattle.aud_meaning.specs.Configuration.{Frame, Target}
use Rattle.aud_meaning.specs.Evaluation.{Facts, Sight, cell, number_in, cell_of, truth_of, unary_of, binary_of, related, logical_of, in_range, element_at, image_of_truth, target_at}
use Rattle.aud_meaning.specs.Control.{starting, Scene}
use Rattle.aud_meaning.specs.Control as asked
use Rattle.aud_meaning.specs.Parts.{unit_of}
use Rattle.aud_code.specs.Places.{Spot, loops_of}
use Rattle.aud_code.specs.Instruction.{Instruction, Push, Load, LoadElement, OnOne, OnTwo, Count, Check, Cell, PushTruth, Truth, Negate, Relate, Compare, Combine, PassIfFalse, PassIfTrue, IsCallable, IsTerminated, Find, FindElement, LoadFound, Pass, PassCopy, AppendText, AppendImage, AppendTruth, AppendNewLine, Name, Milliseconds, Seconds, BeginObject, Component, OpensAccept, OpensDelay, OpensTerminate, Mark, PassUnlessNext, SetTime, Ending, Declare, DeclareArray, DeclareTasks, DeclareObject, Activated, Activate, Null, Assign, Put, If, While, Loop, Exit, Return, ReturnValue, Raising, RaisingAgain, Block, Proc, OwnCall, Operation, CallTask, CallObject, Delay, Accept, Select, Abort, Operands, no_operands, Ended, Reached, Marked, Raised, Lost, RequeueTask, RequeueObject}
use Rattle.aud_code.specs.Eval.{seen_in, Then, on_result, on_one, on_two, held, seconds_of, one_cell_more, opens_accept, opens_delay, opens_terminate, is_next, later, act, eval, newest, passed_in, called_with, asked_end, asked_ended, coming_end, again_on}
use Rattle.aud_code.specs.Flat.{Last, Does, Continues, Guards, Ends, Leaves, Flat, asked_last, coming_last, no_scene, decided_by, instructions_at, end_at, asked_at, coming_at, flat_controls}
use Rattle.aud_over.specs.Looks.{SeesSame, Looks, with_frames}
use Rattle.aud_over.proofs.Evaluating.{Alike, alike, alike_extended, behind_same, at_levels, IsSame, first_same, new_same}

on_one_same : {A : Type 0} (xs : List A) (f g : A → List A → Ended) → ((x : A) (rest : List A) → f x rest ≡ g x rest) → on_one xs f ≡ on_one xs g
on_one_same [] f g h = refl
on_one_same (x ∷ rest) f g h = h x rest

on_two_same : {A : Type 0} (xs : List A) (f g : A → A → List A → Ended) → ((x y : A) (rest : List A) → f x y rest ≡ g x y rest) → on_two xs f ≡ on_two xs g
on_two_same [] f g h = refl
on_two_same (y ∷ []) f g h = refl
on_two_same (y ∷ x ∷ rest) f g h = h x y rest

result_same : {A : Type 0} (r : Result A Raise) (f g : A → Ended) → ((x : A) → f x ≡ g x) → on_result r f ≡ on_result r g
result_same (Ok x) f g h = h x
result_same (Err raise) f g h = refl

if_same : (b : Bool) (x y x' y' : Ended) → x ≡ x' → y ≡ y' → (if b then x else y) ≡ (if b then x' else y')
if_same true x y x' y' h g = h
if_same false x y x' y' h g = g

module _ (stops : Bool) (s : Scene) (fs : List Frame) (h : SeesSame s.sight fs) where
  abbrev there : Scene
  there = record s { sight = with_frames fs s.sight }

  abbrev pub Found : List Target → Type 0
  Found [] = Unit {0}
  Found (t ∷ ts) = IsSame s.sight fs h t.frame × Found ts

  sees_alike : (c : Option (List ℤ)) → Alike (seen_in c s.sight) (seen_in c there.sight)
  sees_alike None = alike s.sight fs h
  sees_alike (Some cells) = alike_extended cells s.sight fs h

  target_same : (c : Option (List ℤ)) (t : Subtype) (v : Variable) → target_at t v (seen_in c s.sight) ≡ target_at t v (seen_in c there.sight)
  target_same None t v = refl
  target_same (Some cells) t v = ap (λ n. let x : Target = record { frame = slice_index (s.sight.display ++ n ∷ []) v.level; index = v.index; subtype = t } in x) h.many

  target_found : (c : Option (List ℤ)) (t : Subtype) (v : Variable) → IsSame s.sight fs h (target_at t v (seen_in c there.sight)).frame
  target_found None t v = h.at v.level
  target_found (Some cells) t v = subst (λ n. IsSame s.sight fs h (slice_index (s.sight.display ++ n ∷ []) v.level)) h.many
      (at_levels (IsSame s.sight fs h) s.sight.display (length s.sight.frames) (first_same s.sight fs h) (new_same s.sight fs h) h.at v.level)

  held_same : (c : Option (List ℤ)) (t : Target) → IsSame s.sight fs h t.frame → held t (seen_in c s.sight).frames ≡ held t (seen_in c there.sight).frames
  held_same None t e = ap (λ f. slice_index_or f t.index (pos 0)) e
  held_same (Some cells) t e = ap (λ f. slice_index_or f t.index (pos 0)) (behind_same s.sight.frames fs cells h.many t.frame e)

  on_found : (ts : List Target) (f g : Target → List Target → Ended) → Found ts → ((t : Target) (rest : List Target) → IsSame s.sight fs h t.frame → Found rest → f t rest ≡ g t rest) → on_one ts f ≡ on_one ts g
  on_found [] f g e k = refl
  on_found (t ∷ ts) f g e k = k t ts e.0 e.1

  abbrev Goes : Then → Then → Type 0
  Goes go on = (n : ℕ) (o : Operands) → Found o.targets → go n o ≡ on n o

  pub act_same : (i : Instruction) (go on : Then) (o : Operands) → Found o.targets → Goes go on → act stops s i go o ≡ act stops there i on o
  act_same (Push z) go on o e k = k 0 (record o { integers = z ∷ o.integers }) e
  act_same (Load v) go on o e k =
      ap (λ z. go 0 (record o { integers = z ∷ o.integers })) ((sees_alike o.cells).cells v)
      ∙ k 0 (record o { integers = cell v (seen_in o.cells there.sight) ∷ o.integers }) e
  act_same (LoadElement x) go on o e k =
      on_one_same o.integers _ _ (λ i rest. result_same (element_at x i) _ _ (λ v.
      ap (λ z. go 0 (record o { integers = z ∷ rest })) ((sees_alike o.cells).cells v) ∙ k 0 (record o { integers = cell v (seen_in o.cells there.sight) ∷ rest }) e))
  act_same (OnOne operator) go on o e k = on_one_same o.integers _ _ (λ x rest. result_same (unary_of operator x) _ _ (λ z. k 0 (record o { integers = z ∷ rest }) e))
  act_same (OnTwo operator) go on o e k = on_two_same o.integers _ _ (λ x y rest. result_same (binary_of operator x y) _ _ (λ z. k 0 (record o { integers = z ∷ rest }) e))
  act_same (Count v entry) go on o e k =
      ap (λ (f : Facts). go 0 (record o { integers = pos (f.count (number_in v (seen_in o.cells s.sight)) entry) ∷ o.integers })) (sees_alike o.cells).facts
      ∙ ap (λ z. go 0 (record o { integers = pos ((seen_in o.cells there.sight).facts.count (nat_abs z) entry) ∷ o.integers })) ((sees_alike o.cells).cells v)
      ∙ k 0 (record o { integers = pos ((seen_in o.cells there.sight).facts.count (number_in v (seen_in o.cells there.sight)) entry) ∷ o.integers }) e
  act_same (Check t) go on o e k = on_one_same o.integers _ _ (λ x rest. result_same (in_range t x) _ _ (λ z. k 0 (record o { integers = z ∷ rest }) e))
  act_same Cell go on o e k = on_one_same o.booleans _ _ (λ b rest. k 0 (record o { booleans = rest; integers = cell_of b ∷ o.integers }) e)
  act_same (PushTruth b) go on o e k = k 0 (record o { booleans = b ∷ o.booleans }) e
  act_same Truth go on o e k = on_one_same o.integers _ _ (λ x rest. k 0 (record o { integers = rest; booleans = truth_of x ∷ o.booleans }) e)
  act_same Negate go on o e k = on_one_same o.booleans _ _ (λ b rest. k 0 (record o { booleans = not b ∷ rest }) e)
  act_same (Relate operator) go on o e k = on_two_same o.integers _ _ (λ x y rest. k 0 (record o { integers = rest; booleans = related operator x y ∷ o.booleans }) e)
  act_same (Compare operator) go on o e k = on_two_same o.booleans _ _ (λ x y rest. k 0 (record o { booleans = related operator (cell_of x) (cell_of y) ∷ rest }) e)
  act_same (Combine operator) go on o e k = on_two_same o.booleans _ _ (λ x y rest. k 0 (record o { booleans = logical_of operator x y ∷ rest }) e)
  act_same (PassIfFalse n) go on o e k =
      on_one_same o.booleans _ _ (λ b rest. if_same b (go 0 (record o { booleans = rest })) (go n (record o { booleans = false ∷ rest })) (on 0 (record o { booleans = rest })) (on n (record o { booleans = false ∷ rest }))
      (k 0 (record o { booleans = rest }) e) (k n (record o { booleans = false ∷ rest }) e))
  act_same (PassIfTrue n) go on o e k =
      on_one_same o.booleans _ _ (λ b rest. if_same b (go n (record o { booleans = true ∷ rest })) (go 0 (record o { booleans = rest })) (on n (record o { booleans = true ∷ rest })) (on 0 (record o { booleans = rest }))
      (k n (record o { booleans = true ∷ rest }) e) (k 0 (record o { booleans = rest }) e))
  act_same IsCallable go on o e k =
      on_one_same o.integers _ _ (λ x rest. ap (λ (f : Facts). go 0 (record o { integers = rest; booleans = f.callable (nat_abs x) ∷ o.booleans })) (sees_alike o.cells).facts
      ∙ k 0 (record o { integers = rest; booleans = (seen_in o.cells there.sight).facts.callable (nat_abs x) ∷ o.booleans }) e)
  act_same IsTerminated go on o e k =
      on_one_same o.integers _ _ (λ x rest. ap (λ (f : Facts). go 0 (record o { integers = rest; booleans = f.terminated (nat_abs x) ∷ o.booleans })) (sees_alike o.cells).facts
      ∙ k 0 (record o { integers = rest; booleans = (seen_in o.cells there.sight).facts.terminated (nat_abs x) ∷ o.booleans }) e)
  act_same (Find v t) go on o e k =
      ap (λ x. go 0 (record o { targets = x ∷ o.targets })) (target_same o.cells t v)
      ∙ k 0 (record o { targets = target_at t v (seen_in o.cells there.sight) ∷ o.targets }) (target_found o.cells t v, e)
  act_same (FindElement x t) go on o e k =
      on_one_same o.integers _ _ (λ i rest. result_same (element_at x i) _ _ (λ v.
      ap (λ y. go 0 (record o { integers = rest; targets = y ∷ o.targets })) (target_same o.cells t v)
      ∙ k 0 (record o { integers = rest; targets = target_at t v (seen_in o.cells there.sight) ∷ o.targets }) (target_found o.cells t v, e)))
  act_same LoadFound go on o e k =
      on_found o.targets _ _ e (λ t rest same more. ap (λ z. go 0 (record o { integers = z ∷ o.integers })) (held_same o.cells t same)
      ∙ k 0 (record o { integers = held t (seen_in o.cells there.sight).frames ∷ o.integers }) e)
  act_same Pass go on o e k = on_one_same o.integers _ _ (λ z rest. k 0 (record o { integers = rest; values = o.values ++ z ∷ [] }) e)
  act_same (PassCopy n) go on o e k =
      on_one_same o.integers _ _ (λ z rest. on_found o.targets _ _ e (λ t targets same more.
      k 0 (record o { integers = rest; targets = targets; values = o.values ++ z ∷ []; backs = o.backs ++ record { formal = n; target = t } ∷ [] }) more))
  act_same (AppendText more) go on o e k = k 0 (record o { text = o.text ++ more }) e
  act_same AppendImage go on o e k = on_one_same o.integers _ _ (λ z rest. k 0 (record o { integers = rest; text = o.text ++ integer.image z }) e)
  act_same AppendTruth go on o e k = on_one_same o.booleans _ _ (λ b rest. k 0 (record o { booleans = rest; text = o.text ++ image_of_truth b }) e)
  act_same AppendNewLine go on o e k = k 0 (record o { text = o.text ++ 10 ∷ [] }) e
  act_same Name go on o e k = on_one_same o.integers _ _ (λ z rest. k 0 (record o { integers = rest; names = o.names ++ nat_abs z ∷ [] }) e)
  act_same (Milliseconds n) go on o e k = k 0 (record o { delay = n }) e
  act_same Seconds go on o e k = on_one_same o.integers _ _ (λ z rest. k 0 (record o { integers = rest; delay = seconds_of z }) e)
  act_same BeginObject go on o e k = k 0 (record o { cells = Some (pos s.objects ∷ []) }) e
  act_same Component go on o e k = on_one_same o.integers _ _ (λ z rest. k 0 (record o { integers = rest; cells = one_cell_more z o.cells }) e)
  act_same (OpensAccept a) go on o e k = on_one_same o.booleans _ _ (λ b rest. k 0 (record o { booleans = rest; waits = opens_accept a b o.waits }) e)
  act_same (OpensDelay n) go on o e k = on_one_same o.booleans _ _ (λ b rest. k 0 (record o { booleans = rest; waits = opens_delay n b o.waits }) e)
  act_same OpensTerminate go on o e k = on_one_same o.booleans _ _ (λ b rest. k 0 (record o { booleans = rest; waits = opens_terminate b o.waits }) e)
  act_same Mark go on o e k = if_same stops (Marked o) (go 0 o) (Marked o) (on 0 o) refl (k 0 o e)
  act_same (PassUnlessNext n m) go on o e k =
      let next : Operands = record o { waits = record o.waits { delays = later o.waits.delays } } in
      if_same (is_next n o.waits.delays) (go 0 next) (go m o) (on 0 next) (on m o) (k 0 next e) (k m o e)
  act_same (SetTime n) go on o e k = k 0 (record o { delay = 0; timed = o.timed ++ record { alternative = n; time = s.clock + o.delay } ∷ [] }) e

  eval_same : (is : List Instruction) → Goes (eval stops s is) (eval stops there is)
  eval_same [] n o e = refl
  eval_same (i ∷ is) zero o e = act_same i (eval stops s is) (eval stops there is) o e (eval_same is)
  eval_same (i ∷ is) (suc n) o e = eval_same is n o e

  -- What is asked then.

  v_same : (v : Variable) → number_in v s.sight ≡ number_in v there.sight
  v_same v = ap nat_abs ((alike s.sight fs h).cells v)

  end_same : (e : Ending) (loops : ℕ) (at : Pos) (o : Operands) → asked_end e loops at s o ≡ asked_end e loops at there o
  end_same (Operation v unit) loops at o = ap (λ n. asked.calls_operation at n unit (passed_in o) (newest o.targets)) (v_same v)
  end_same (CallObject v entry form) loops at o = ap (λ n. asked.calls_entry (owner.Object n) (called_with at entry form s o)) (v_same v)
  end_same (Declare up_to) loops at o = refl
  end_same (DeclareArray t n) loops at o = refl
  end_same (DeclareTasks ts) loops at o = refl
  end_same (DeclareObject n) loops at o = refl
  end_same Activated loops at o = refl
  end_same Activate loops at o = refl
  end_same Null loops at o = refl
  end_same Assign loops at o = refl
  end_same Put loops at o = refl
  end_same If loops at o = refl
  end_same While loops at o = refl
  end_same (Loop f) loops at o = refl
  end_same Exit loops at o = refl
  end_same Return loops at o = refl
  end_same ReturnValue loops at o = refl
  end_same (Raising x) loops at o = refl
  end_same RaisingAgain loops at o = refl
  end_same (Block region) loops at o = refl
  end_same (Proc unit) loops at o = refl
  end_same OwnCall loops at o = refl
  end_same (CallTask entry form) loops at o = refl
  end_same Delay loops at o = refl
  end_same (Accept entry region) loops at o = refl
  end_same (Select has_else) loops at o = refl
  end_same Abort loops at o = refl
  end_same (RequeueTask entry formals abort) loops at o = refl
  end_same (RequeueObject v entry formals abort) loops at o = ap (λ n. asked.requeues loops (again_on (owner.Object n) entry formals abort at)) (v_same v)

  ended_same : (e : Ending) (loops : ℕ) (at : Pos) (x : Ended) → asked_ended e loops at s x ≡ asked_ended e loops at there x
  ended_same e loops at (Reached o) = end_same e loops at o
  ended_same e loops at (Marked o) = refl
  ended_same e loops at (Raised raise) = refl
  ended_same e loops at Lost = refl

  last_same : (l : Last) (loops : ℕ) (at : Pos) (x : Ended) → asked_last l loops at s x ≡ asked_last l loops at there x
  last_same (Does e) loops at x = ended_same e loops at x
  last_same (Continues f) loops at x = refl
  last_same (Guards gs) loops at x = refl
  last_same (Ends c next) loops at x = refl
  last_same (Leaves n next) loops at x = refl

module _ (plan : Plan) (s : Sight) (fs : List Frame) (h : SeesSame s fs) where
  number_same : (v : Variable) → number_in v s ≡ number_in v (with_frames fs s)
  number_same v = ap nat_abs ((alike s fs h).cells v)

  coming_end_same : (e : Ending) (x : Ended) → coming_end plan e s x ≡ coming_end plan e (with_frames fs s) x
  coming_end_same (Operation v unit) x = ap (λ n. starting n (unit_of plan unit).is_function) (number_same v)
  coming_end_same (CallObject v entry form) x = ap (λ n. starting n false) (number_same v)
  coming_end_same (Declare up_to) x = refl
  coming_end_same (DeclareArray t n) x = refl
  coming_end_same (DeclareTasks ts) x = refl
  coming_end_same (DeclareObject n) x = refl
  coming_end_same Activated x = refl
  coming_end_same Activate x = refl
  coming_end_same Null x = refl
  coming_end_same Assign x = refl
  coming_end_same Put x = refl
  coming_end_same If x = refl
  coming_end_same While x = refl
  coming_end_same (Loop f) x = refl
  coming_end_same Exit x = refl
  coming_end_same Return x = refl
  coming_end_same ReturnValue x = refl
  coming_end_same (Raising y) x = refl
  coming_end_same RaisingAgain x = refl
  coming_end_same (Block region) x = refl
  coming_end_same (Proc unit) x = refl
  coming_end_same OwnCall x = refl
  coming_end_same (CallTask entry form) x = refl
  coming_end_same Delay x = refl
  coming_end_same (Accept entry region) x = refl
  coming_end_same (Select has_else) x = refl
  coming_end_same Abort x = refl
  coming_end_same (RequeueTask entry formals abort) x = refl
  coming_end_same (RequeueObject v entry formals abort) x = refl

  coming_last_same : (l : Last) (x : Ended) → coming_last plan l s x ≡ coming_last plan l (with_frames fs s) x
  coming_last_same (Does e) x = coming_end_same e x
  coming_last_same (Continues f) x = refl
  coming_last_same (Guards gs) x = refl
  coming_last_same (Ends c next) x = refl
  coming_last_same (Leaves n next) x = refl

module _ (plan : Plan) (code : Flat) where
  asks_same : (pending : Option Pending) (s : Scene) (fs : List Frame) (t : Spot) → SeesSame s.sight fs → asked_at code pending s t ≡ asked_at code pending (record s { sight = with_frames fs s.sight }) t
  asks_same None s fs t h =
      let l = end_at code t.place in
      ap (asked_last l.last (loops_of l.exit) l.at s) (eval_same false s fs h (instructions_at code t.place) 0 no_operands tt)
      ∙ last_same false s fs h l.last (loops_of l.exit) l.at (eval false (record s { sight = with_frames fs s.sight }) (instructions_at code t.place) 0 no_operands)
  asks_same (Some p) s fs t h = refl

  coming_same : (pending : Option Pending) (s : Sight) (fs : List Frame) (t : Spot) → SeesSame s fs → coming_at code plan pending s t ≡ coming_at code plan pending (with_frames fs s) t
  coming_same None s fs t h =
      let l = end_at code t.place in
      ap (coming_last plan l.last s) (eval_same true (no_scene s) fs h (instructions_at code t.place) 0 no_operands tt)
      ∙ coming_last_same plan s fs h l.last (eval true (no_scene (with_frames fs s)) (instructions_at code t.place) 0 no_operands)
  coming_same (Some p) s fs t h = refl

  pub code_looks : Looks (flat_controls plan code)
  code_looks = record {
    coming = coming_same;
    asks = asks_same;
    barrier = λ n s fs h. ap decided_by (eval_same false (no_scene s) fs h (slice_index_or code.barriers n (PushTruth true ∷ [])) 0 no_operands tt);
  }
