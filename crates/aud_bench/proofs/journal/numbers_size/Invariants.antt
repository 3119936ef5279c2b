use Rattle.std.proofs.Common.{◌≡◌, ◌*◌, ◌≤◌, take}
use Rattle.aud_bench.specs.Size.{numbers_size}
use Rattle.aud_bench.proofs.journal.numbers_size.Given as goal

abbrev pub invariant-loop-number : goal.invariant-loop-number
invariant-loop-number l = record {
  size : l.size ≡ numbers_size (take l.number-index l.numbers);
  few : l.size ≤ 5 * l.number-index;
}
