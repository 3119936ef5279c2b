use Rattle.std.proofs.Common.{◌++◌, ap, ◌∙◌}
use Rattle.aud_lines.proofs.feed.fed.Goals as goal

pub returns-clause-whole : goal.returns-clause-whole
returns-clause-whole c = λ more. c.in_ok-requests.ensures.whole more ∙ ap (λ rs. c.in_ok-requests.field-0.requests.items ++ rs) (c.in_ok-next.ensures.whole more)
