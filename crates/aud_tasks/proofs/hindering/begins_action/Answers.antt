use Rattle.std.proofs.Common.{sym, ◌∙◌}
use Rattle.aud_tasks.proofs.StepLaws.Going.{where_none}
use Rattle.aud_tasks.proofs.hindering.begins_action.Goals as goal

pub returns-in-Running : goal.returns-in-Running
returns-in-Running c = λ none runs. where_none c.start_at.result _ (sym c.is_some.ensures ∙ none) c.start_at.ensures.none
