use Rattle.std.proofs.Common.{◌≡◌, ℕ, ◌≤◌, ◌-◌, List, ◌++◌, length}
use Rattle.aud_lines.specs.Lines.{lines_of}
use Rattle.aud_lines.specs.Requests.{gathered, requests_from}
use Rattle.aud_lines.proofs.requests.gather.Given as goal

abbrev pub invariant-loop-done : goal.invariant-loop-done
invariant-loop-done l = record {
  rest :
      (before more : List ℕ) → gathered (l.lines - l.done) (before ++ l.source.items) l.fault (requests_from (lines_of (l.rest ++ more))) ≡ gathered l.lines before l.fn.fault (requests_from (lines_of (l.bytes ++ more)));
  shorter : length l.rest ≤ length l.bytes;
}
