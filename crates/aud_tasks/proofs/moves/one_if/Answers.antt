use Rattle.std.proofs.Common.{ap, sym}
use Rattle.aud_tasks.specs.Moving.{alone_if}
use Rattle.aud_tasks.proofs.moves.one_if.Goals as goal

pub returns-then-is_enabled : goal.returns-then-is_enabled
returns-then-is_enabled c = λ task clock. sym (ap (λ b. alone_if b task) c.if-is_enabled.true)

pub returns-else-is_enabled : goal.returns-else-is_enabled
returns-else-is_enabled c = λ task clock. sym (ap (λ b. alone_if b task) c.if-is_enabled.false)
