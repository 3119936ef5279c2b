use Rattle.std.proofs.Common.{sym, subst}
use Rattle.aud_grammar.specs.Parsed as syntax
use Rattle.aud_bench.specs.Loading.{after_lexing, after_parsing}
use Rattle.aud_bench.specs.Ties.Loads.{Gives}
use Rattle.aud_bench.proofs.loading.read.Goals as goal

pub returns-in-Ok-clause-answer : goal.returns-in-Ok-clause-answer
returns-in-Ok-clause-answer c =
    subst (λ read. Gives (after_lexing c.args.source.now read) c.parsed.result) (sym c.in-Ok.ensures)
    (subst (λ ts. Gives (after_parsing c.args.source.now ts (syntax.parsed ts)) c.parsed.result) c.deref.ensures.value c.parsed.ensures.answer)
