use Rattle.std.proofs.Common.{◌≡◌, ℕ, drop}
use Rattle.aud_meaning.specs.Parts.{any, contains}
use Rattle.aud_state.proofs.task.Task.is_under_any.Given as goal

abbrev pub invariant-loop-master : goal.invariant-loop-master
invariant-loop-master l = any (λ (m : ℕ). contains m l.self.masters.items) (drop l.master-index l.masters) ≡ any (λ (m : ℕ). contains m l.self.masters.items) l.masters
