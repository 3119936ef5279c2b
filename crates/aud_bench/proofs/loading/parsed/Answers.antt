use Rattle.std.proofs.Common.{sym, subst}
use Rattle.aud_bench.specs.Loading.{after_parsing}
use Rattle.aud_bench.specs.Ties.Loads.{Gives}
use Rattle.aud_bench.proofs.loading.parsed.Goals as goal

pub returns-in-Ok-clause-answer : goal.returns-in-Ok-clause-answer
returns-in-Ok-clause-answer c = subst (λ read. Gives (after_parsing c.args.source.now c.args.tokens.now read) c.checked.result) (sym c.in-Ok.ensures) c.checked.ensures.answer

pub returns-in-Err-clause-answer : goal.returns-in-Err-clause-answer
returns-in-Err-clause-answer c = c.syntax_refusal.ensures _ c.in-Err.ensures
