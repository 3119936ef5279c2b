use Rattle.std.proofs.Common.{◌≡◌, ◌++◌, take}
use Rattle.aud_sequential.proofs.progress.Progress.choose.Given as goal

abbrev pub invariant-loop-choice : goal.invariant-loop-choice
invariant-loop-choice l = record {
  waiting : l.self-inside.choices.items ≡ l.initial.self-inside.choices.items ++ take l.choice-index l.choices;
  others : l.self-inside ≡ record l.initial.self-inside { choices = l.self-inside.choices };
}
