use Rattle.std.proofs.Common.{◌≡◌, ℕ, drop}
use Rattle.std.specs.Prelude.{◌||◌}
use Rattle.aud_meaning.specs.Parts.{any, contains}
use Rattle.aud_calls.specs.declared.queues.Queue.{Queue}
use Rattle.aud_calls.proofs.queues.Queues.all.Given as goal

abbrev pub invariant-loop-queue : goal.invariant-loop-queue
invariant-loop-queue l =
    (id : ℕ) → (contains id l.ids.items || any (λ (q : Queue). contains id q.calls.items) (drop l.queue-index l.self.queues.items)) ≡ any (λ (q : Queue). contains id q.calls.items) l.self.queues.items
