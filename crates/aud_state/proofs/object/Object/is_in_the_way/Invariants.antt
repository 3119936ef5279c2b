use Rattle.std.proofs.Common.{◌≡◌, drop, nat_eq, not}
use Rattle.std.specs.Prelude.{◌&&◌}
use Rattle.aud_meaning.specs.declared.state.Action.{Action}
use Rattle.aud_meaning.specs.Parts.{any}
use Rattle.aud_state.proofs.object.Object.is_in_the_way.Given as goal

abbrev pub invariant-loop-action : goal.invariant-loop-action
invariant-loop-action l = any (λ (a : Action). not (nat_eq a.task l.task) && not (l.reading && a.reading)) (drop l.action-index l.self.actions.items) ≡ any (λ (a : Action). not (nat_eq a.task l.task) && not (l.reading && a.reading)) l.self.actions.items
