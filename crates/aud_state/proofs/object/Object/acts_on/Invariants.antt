use Rattle.std.proofs.Common.{◌≡◌, drop, nat_eq}
use Rattle.aud_meaning.specs.declared.state.Action.{Action}
use Rattle.aud_meaning.specs.Parts.{any}
use Rattle.aud_state.proofs.object.Object.acts_on.Given as goal

abbrev pub invariant-loop-action : goal.invariant-loop-action
invariant-loop-action l = any (λ (a : Action). nat_eq a.task l.task) (drop l.action-index l.self.actions.items) ≡ any (λ (a : Action). nat_eq a.task l.task) l.self.actions.items
