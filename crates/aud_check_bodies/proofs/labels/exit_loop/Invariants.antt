use Rattle.std.proofs.Common.{◌≡◌, ◌≤◌, drop}
use Rattle.aud_check_bodies.specs.Labels.{loop_from, exit_loop}
use Rattle.aud_check_bodies.specs.Ties.Labels.{plain_labels}
use Rattle.aud_check_bodies.proofs.labels.exit_loop.Given as goal

abbrev pub invariant-loop-label : goal.invariant-loop-label
invariant-loop-label l = record {
  found : loop_from l.further_out l.name (plain_labels (drop l.label-index l.labels)) ≡ exit_loop l.name (plain_labels l.labels);
  within : l.further_out ≤ l.label-index;
}
