-- The laws of instructions, for all statements.
use Rattle.std.proofs.Common.{◌≡◌, ℕ, suc, ◌+◌, List, [], ◌∷◌, ◌++◌, Bool, true, false, Result, Ok, Err, refl, ap, ◌∙◌, arith}
use Rattle.aud_text.specs.declared.place.Pos.{Pos}
use Rattle.aud_text.specs.declared.raise.Raise.{Raise}
use Rattle.aud_typed.specs.Tree as tree
use Rattle.aud_typed.specs.Tree.{Callee, of_task, of_object, declare, declare_object, null, assign, put, if_then, while_loop, for_loop, exit, return_value, procedure_call, own_entry_call, operation_call, entry_call, delay, select, abort, Part, Alternatives, requeue}
use Rattle.aud_meaning.specs.declared.state.OpenDelay.{OpenDelay}
use Rattle.aud_meaning.specs.Configuration.{Waits}
use Rattle.aud_meaning.specs.Evaluation.{Sight, with_value, decided, task_named}
use Rattle.aud_meaning.specs.declared.state.StepKind.TheVariants as kind
use Rattle.aud_meaning.specs.Control.{Scene, Asked, simply}
use Rattle.aud_meaning.specs.Control as asked
use Rattle.aud_meaning.specs.Statements.{or_raises, has_else, guards_from, delay_expression, timed_from, waits_of, coming_call, open_or_none, task_or_none}
use Rattle.aud_code.specs.Instruction.{Name, Mark, Select, Operands, no_operands, Ended, Reached, Marked}
use Rattle.aud_code.specs.Eval.{on_result, eval, asked_ended, coming_end, accepts_in, named_in}
use Rattle.aud_layout.specs.Instructions.{condition_code, guards_code, delays_code, called_code, call_code, call_end, requeue_end}
use Rattle.aud_code.specs.Flat.{no_scene, decided_by}
use Rattle.aud_layout.specs.Asking.{AskedLaw, ComingLaw, BarrierLaw}
use Rattle.aud_layout.proofs.Asking.Evals.{Ends, eval_condition, eval_task}
use Rattle.aud_layout.proofs.Asking.Lists.{joined, eval_guards}
use Rattle.aud_layout.proofs.Asking.Delays.{Opens, IfWaits, guards_open, same_timed, left, eval_delays}
use Rattle.aud_layout.proofs.ByKind.Declaring.{declaration_law}
use Rattle.aud_layout.proofs.ByKind.Idling.{null_law}
use Rattle.aud_layout.proofs.ByKind.Assigning.{assignment_law}
use Rattle.aud_layout.proofs.ByKind.Putting.{put_law}
use Rattle.aud_layout.proofs.Asking.Statements.{at_end, asks_then, asks_object, asks_return, asks_delay, asks_abort, asks_for, asks_call, asks_requeue, asks_procedure, asks_operation, asks_own, asks_if, asks_while, asks_exit}

one_and : (k : ℕ) → 1 + k ≡ suc k
one_and k = omega arith

module _ (loops : ℕ) (at : Pos) (s : Scene) where
  -- guards, and then the delays of what is open
  waiting : Waits → Operands
  waiting w = record no_operands { waits = w }

  asks_select : (offered : Alternatives) (p : Part) → asked_ended (Select (has_else p)) loops at s (Ends false s (guards_code 1 offered ++ (Mark ∷ delays_code 1 offered)) no_operands) ≡ or_raises (waits_of offered s.clock s.sight) at (λ w. asked.selects (has_else p) w at)
  asks_select offered p = go (guards_from 1 offered s.sight) (guards_open offered 1 s.sight) (eval_guards false s offered 1 (Mark ∷ delays_code 1 offered) no_operands)
    where
      ask : Waits → Asked
      ask w = asked.selects (has_else p) w at

      go : (r : Result Waits Raise) → IfWaits (λ w. Opens 1 offered w.delays) r →
          Ends false s (guards_code 1 offered ++ (Mark ∷ delays_code 1 offered)) no_operands ≡ on_result r (λ w. Ends false s (Mark ∷ delays_code 1 offered) (record no_operands { waits = joined no_operands.waits w })) →
          asked_ended (Select (has_else p)) loops at s (Ends false s (guards_code 1 offered ++ (Mark ∷ delays_code 1 offered)) no_operands)
          ≡ or_raises (with_value r (λ w. with_value (timed_from w.delays offered s.clock s.sight) (λ ds. Ok (record w { delays = ds })))) at (λ w. asked.selects (has_else p) w at)
      go (Err raise) h is = ap (asked_ended (Select (has_else p)) loops at s) is
      go (Ok w) h is =
          let o = record no_operands { waits = w } in
          let code = delays_code 1 offered in
          let end = λ (ts : List OpenDelay). Ends false s [] (record (left false s [] o) { timed = ts }) in
          ap (asked_ended (Select (has_else p)) loops at s) is
          ∙ asks_then loops at s (Select (has_else p)) (λ raise. refl) (timed_from w.delays offered s.clock s.sight) (λ ds. Ok (record w { delays = ds })) (λ w. asked.selects (has_else p) w at) end _
          (at_end false s code o
          ∙ eval_delays false s offered 1 (λ k. delay_expression k offered) w.delays [] o h (λ k. ap (λ j. delay_expression j offered) (one_and k))
          ∙ ap (λ r. on_result r end) (same_timed w.delays offered s.clock s.sight))
          (λ ts. refl)

pub asked_law : AskedLaw
asked_law (declare at up_to e) loops s = declaration_law at up_to e loops s
asked_law (declare_object at n es) loops s = asks_object loops at s n es
asked_law (null at) loops s = null_law at loops s
asked_law (assign at r e) loops s = assignment_law at r e loops s
asked_law (put at t) loops s = put_law at t loops s
asked_law (if_then at e a p) loops s = asks_if loops at s e a p
asked_law (while_loop at e a) loops s = asks_while loops at s e a
asked_law (for_loop f a b body) loops s = asks_for loops f.at s f a b
asked_law (exit at n e) loops s = asks_exit loops at s n e
asked_law (return_value at e) loops s = asks_return loops at s e
asked_law (procedure_call at c) loops s = asks_procedure loops at s c
asked_law (own_entry_call at es form) loops s = asks_own loops at s es form
asked_law (operation_call at v c) loops s = asks_operation loops at s v c
asked_law (entry_call at c p q) loops s = asks_call loops at s c c.callee
asked_law (delay at e) loops s = asks_delay loops at s e
asked_law (select at offered p) loops s = asks_select loops at s offered p
asked_law (abort at ts) loops s = asks_abort loops at s ts
asked_law (requeue at r) loops s = asks_requeue loops at s r r.callee
asked_law a loops s = refl

coming_callee : (plan : tree.Plan) (c : tree.EntryCall) (callee : Callee) (s : Sight) → coming_end plan (call_end callee c.entry c.form) s (eval true (no_scene s) (call_code callee c.arguments c.form) 0 no_operands) ≡ coming_call c callee s
coming_callee plan c (of_object v) s = refl
coming_callee plan c (of_task t) s =
    let code = called_code c.arguments c.form in
    let end = λ (n : ℕ). Marked (record no_operands { names = n ∷ [] }) in
    ap (λ x. asked.calling (named_in x) c.entry) (eval_task true (no_scene s) t Name (Mark ∷ code) no_operands end (λ z. refl)) ∙ ap (λ x. asked.calling x c.entry) (named (task_named t s))
  where
    named : (r : Result ℕ Raise) → named_in (on_result r (λ n. Marked (record no_operands { names = n ∷ [] }))) ≡ task_or_none r
    named (Ok n) = refl
    named (Err raise) = refl

coming_requeue : (plan : tree.Plan) (r : tree.Requeue) (c : Callee) (s : Sight) (x : Ended) → coming_end plan (requeue_end c r) s x ≡ simply kind.Requeue
coming_requeue plan r (of_task t) s x = refl
coming_requeue plan r (of_object v) s x = refl

coming_select : (offered : Alternatives) (s : Sight) → accepts_in (eval true (no_scene s) (guards_code 1 offered ++ (Mark ∷ delays_code 1 offered)) 0 no_operands) ≡ open_or_none (guards_from 1 offered s)
coming_select offered s = ap accepts_in (eval_guards true (no_scene s) offered 1 (Mark ∷ delays_code 1 offered) no_operands) ∙ opened (guards_from 1 offered s)
  where
    opened : (r : Result Waits Raise) → accepts_in (on_result r (λ w. Marked (record no_operands { waits = joined no_operands.waits w }))) ≡ open_or_none r
    opened (Ok w) = refl
    opened (Err raise) = refl

pub coming_law : ComingLaw
coming_law plan (entry_call at c p q) s = coming_callee plan c c.callee s
coming_law plan (select at offered p) s = ap asked.selecting (coming_select offered s)
coming_law plan (requeue at r) s = coming_requeue plan r r.callee s _
coming_law plan a s = refl

pub barrier_law : BarrierLaw
barrier_law b s = ap decided_by (at_end false (no_scene s) (condition_code b) no_operands ∙ eval_condition false (no_scene s) b [] no_operands) ∙ told (decided b s)
  where
    told : (r : Result Bool Raise) → decided_by (on_result r (λ b. Reached (record no_operands { booleans = b ∷ [] }))) ≡ r
    told (Ok b) = refl
    told (Err raise) = refl
