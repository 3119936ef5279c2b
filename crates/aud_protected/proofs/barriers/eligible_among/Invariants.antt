use Rattle.std.proofs.Common.{◌≡◌, ◌≤◌, ◌+◌, drop}
use Rattle.aud_protected.specs.Counting.{costs as all_costs}
use Rattle.aud_protected.proofs.Picking.{found_from, joined}
use Rattle.aud_protected.proofs.barriers.eligible_among.Given as goal

abbrev pub invariant-loop-n : goal.invariant-loop-n
invariant-loop-n g l = record {
  of_one : g.B.Barriers.plan l.barriers ≡ g.B.Barriers.plan l.fn.barriers;
  kept : g.B.Barriers.barrier l.barriers ≡ g.B.Barriers.barrier l.fn.barriers;
  costs : g.B.Barriers.cost l.barriers ≡ g.B.Barriers.cost l.fn.barriers;
  few : g.B.Barriers.spent l.barriers + all_costs (g.B.Barriers.cost l.fn.barriers) (drop l.n l.entries) ≤ g.B.Barriers.spent l.fn.barriers + all_costs (g.B.Barriers.cost l.fn.barriers) l.entries;
  found : joined l.found.items (found_from (g.B.Barriers.plan l.fn.barriers) (g.B.Barriers.barrier l.fn.barriers) l.object l.state (l.n + 1) (drop l.n l.entries)) ≡ found_from (g.B.Barriers.plan l.fn.barriers) (g.B.Barriers.barrier l.fn.barriers) l.object l.state 1 l.entries;
}
