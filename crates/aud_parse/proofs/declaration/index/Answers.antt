use Rattle.std.proofs.Common.{refl}
use Rattle.aud_grammar.specs.Grammar as g
use Rattle.aud_grammar.specs.Ties.Outcome.{o_rule}
use Rattle.aud_cursor.proofs.Passing.{level_on, no_level}
use Rattle.aud_parse.proofs.declaration.index.Goals as goal

pub returns-in_err-deeper : goal.returns-in_err-deeper
returns-in_err-deeper c = no_level _ g.Index g.InIndex _ c.args.start _ _ _ refl c.from_residual.ensures.1 c.in_err-deeper.ensures c.is.ensures

pub returns : goal.returns
returns c = record { reads = level_on _ c.args.start _ _ c.in_ok-deeper.ensures (c.in_index.ensures.reads _) (λ k ds v o. o_rule o); shorter = c.in_index.ensures.shorter }
