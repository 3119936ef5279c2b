use Rattle.std.proofs.Common.{◌≡◌, ℕ, List, [], length}
use Rattle.aud_text.specs.declared.limits.TheConstants.{CHOICE}
use Rattle.aud_lines.specs.Lines.{words_of}
use Rattle.aud_lines.specs.Requests.{Command, numbers_behind}
use Rattle.aud_lines.proofs.commands.choices_of.Given as goal

abbrev pub invariant-loop-word : goal.invariant-loop-word
invariant-loop-word l =
    (use_of : List ℕ → Command) → numbers_behind 0 CHOICE l.choices (words_of l.rest) use_of ≡ numbers_behind 0 CHOICE [] (words_of l.arguments) use_of

abbrev pub decreases-loop-word : goal.decreases-loop-word
decreases-loop-word l = length (words_of l.rest)
