use Rattle.std.proofs.Common.{◌≡◌, ◌<◌, ◌≤◌, ◌^◌, length, drop}
use Rattle.aud_lines.specs.Lines.{digits_value}
use Rattle.aud_lines.proofs.lines.number.Given as goal

abbrev pub invariant-loop-byte : goal.invariant-loop-byte
invariant-loop-byte l = record {
  short : length l.word ≤ 10;
  below : l.value < 10 ^ l.byte-index;
  rest : digits_value l.value (drop l.byte-index l.word) ≡ digits_value 0 l.word;
}
