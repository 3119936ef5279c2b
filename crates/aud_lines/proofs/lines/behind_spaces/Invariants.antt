use Rattle.std.proofs.Common.{◌≡◌, length}
use Rattle.aud_lines.specs.Lines.{words_of}
use Rattle.aud_lines.proofs.lines.behind_spaces.Given as goal

abbrev pub invariant-loop-rest : goal.invariant-loop-rest
invariant-loop-rest l = words_of l.rest ≡ words_of l.line

abbrev pub decreases-loop-rest : goal.decreases-loop-rest
decreases-loop-rest l = length l.rest
