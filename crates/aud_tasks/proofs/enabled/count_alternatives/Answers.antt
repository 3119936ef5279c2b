use Rattle.std.proofs.Common.{length, ap, sym, ◌∙◌}
use Rattle.aud_tasks.specs.Enabled.{each_or_one}
use Rattle.aud_tasks.proofs.MoveLaws.Alternatives.{many_each, no_number}
use Rattle.aud_tasks.proofs.enabled.count_alternatives.Goals as goal

pub returns-then-is_empty : goal.returns-then-is_empty
returns-then-is_empty c = λ task. sym (ap (λ ns. length (each_or_one task ns)) (no_number c.args.numbers.now (sym c.is_empty.ensures ∙ c.if-is_empty.true)))

pub returns-else-is_empty : goal.returns-else-is_empty
returns-else-is_empty c = λ task. sym (many_each task c.args.numbers.now (sym c.is_empty.ensures ∙ c.if-is_empty.false))
