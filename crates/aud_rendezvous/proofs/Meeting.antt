-- Calls of tasks' entries.
use Rattle.std.proofs.Common.{◌≡◌, true, false, ℕ, List, [], ◌∷◌, Bool, Option, Some, None, Result, if◌then◌else◌, refl, ap, ◌∙◌}
use Rattle.aud_text.specs.declared.place.Pos.{Pos}
use Rattle.aud_text.specs.declared.raise.Raise.{Raise}
use Rattle.aud_text.specs.declared.raise.Raise.TheVariants.{Program, Tasking}
use Rattle.aud_typed.specs.declared.program.Exception.TheVariants.{Predefined}
use Rattle.aud_typed.specs.Tree.{Plan}
use Rattle.aud_meaning.specs.declared.state.OpenAccept.{OpenAccept}
use Rattle.aud_meaning.specs.declared.state.Owner.TheVariants as owner
use Rattle.aud_meaning.specs.Configuration.{All, Call}
use Rattle.aud_meaning.specs.Evaluation.{Sight}
use Rattle.aud_meaning.specs.Orders.{Orders}
use Rattle.aud_meaning.specs.Parts.{Waiting, arrives, call_number, call_of, cancels, fails, in_action, is_callable, new_call, on_call, open_alternatives, own_of, raised_at, stands_at_call}
use Rattle.aud_meaning.specs.Tasks as effect
use Rattle.aud_calls.specs.Queues.{oldest}
use Rattle.aud_state.specs.Chosen.{chosen}

module _ {C : Type 0} (go : Orders C) (plan : Plan) (barrier : ℕ → Sight → Result Bool Raise) where
  -- where the entry is open, the alternative is known that takes the call
  abbrev pub by_choice : Option OpenAccept → Call → ℕ → All C → All C
  by_choice None call task c = effect.calls_open go plan barrier None [] call task c
  by_choice (Some a) call task c = effect.rendezvous go plan barrier a (call_number c) task (stands_at_call call.caller (call_number c) call.at (new_call call c))

  chosen_open : (alternative : Option ℕ) (xs : List OpenAccept) (call : Call) (task : ℕ) (c : All C) → by_choice (chosen alternative xs) call task c ≡ effect.calls_open go plan barrier alternative xs call task c
  chosen_open alternative [] call task c = refl
  chosen_open alternative (a ∷ more) call task c = refl

  pub called : (alternative : Option ℕ) (o : Option OpenAccept) (call : Call) (task : ℕ) (c : All C) → false ≡ in_action call.caller c → true ≡ is_callable (own_of task c) → o ≡ chosen alternative (open_alternatives (own_of task c) call.entry) →
      by_choice o call task c ≡ effect.calls_task go plan barrier alternative call task c
  called alternative o call task c apart callable picked =
      let open_ones = open_alternatives (own_of task c) call.entry in
      ap (λ p. by_choice p call task c) picked
      ∙ chosen_open alternative open_ones call task c
      ∙ ap (λ (b : Bool). if b then effect.calls_open go plan barrier alternative open_ones call task c else raised_at Tasking call.at call.caller c) callable
      ∙ ap (λ (b : Bool). if b then raised_at Program call.at call.caller c else if is_callable (own_of task c) then effect.calls_open go plan barrier alternative open_ones call task c else raised_at Tasking call.at call.caller c) apart

  -- a call that is made again on a task's entry: where that is open, the alternative is known that takes it
  abbrev pub by_again : Option OpenAccept → ℕ → ℕ → All C → All C
  by_again None id task c = arrives id c
  by_again (Some a) id task c = effect.rendezvous go plan barrier a id task c

  again_open : (alternative : Option ℕ) (xs : List OpenAccept) (id task : ℕ) (c : All C) → by_again (chosen alternative xs) id task c ≡ effect.made_again go plan barrier alternative xs id task c
  again_open alternative [] id task c = refl
  again_open alternative (a ∷ more) id task c = refl

  pub made_on : (alternative : Option ℕ) (o : Option OpenAccept) (at : Pos) (id task n : ℕ) (c : All C) → false ≡ effect.is_lost go plan barrier (call_of id c) c → true ≡ is_callable (own_of task c) →
      o ≡ chosen alternative (open_alternatives (own_of task c) (call_of id c).entry) →
      by_again o id task (on_call id (effect.called_of go plan barrier (owner.Task task)) c) ≡ effect.requeued_on go plan barrier alternative (owner.Task task) at id n c
  made_on alternative o at id task n c kept callable picked =
      let open_ones = open_alternatives (own_of task c) (call_of id c).entry in
      let d = on_call id (effect.called_of go plan barrier (owner.Task task)) c in
      let failed = effect.end_call go plan barrier (fails (Predefined Tasking)) id c in
      let again = effect.made_again go plan barrier alternative open_ones id task d in
      ap (λ p. by_again p id task d) picked
      ∙ again_open alternative open_ones id task d
      ∙ ap (λ (b : Bool). if b then again else failed) callable
      ∙ ap (λ (b : Bool). if b then cancels id c else if is_callable (own_of task c) then again else failed) kept

  -- the oldest call is accepted, if there is one
  abbrev pub by_oldest : Option ℕ → OpenAccept → ℕ → All C → All C
  by_oldest None a n c = effect.accepts_oldest go plan barrier a [] n c
  by_oldest (Some id) a n c = effect.rendezvous go plan barrier a id n c

  pub accepted : (a : OpenAccept) (ws : List Waiting) (n : ℕ) (c : All C) → by_oldest (oldest ws) a n c ≡ effect.accepts_oldest go plan barrier a ws n c
  accepted a [] n c = refl
  accepted a (w ∷ ws) n c = refl
