use Rattle.std.proofs.Common.{ap, ⊎_elim}
use Rattle.aud_connective.proofs.Connecting.{second, not_again, one_word, two_words}
use Rattle.aud_connective.proofs.connective.again.Goals as goal

pub returns-in_err-rest : goal.returns-in_err-rest
returns-in_err-rest c = not_again c.args.operator _ _ c.first_word.ensures c.from_residual.ensures.1 c.in_err-rest.ensures.reads

pub returns-in-AndThen : goal.returns-in-AndThen
returns-in-AndThen c = two_words c.args.operator c.word-in-AndThen.result c.first_word.ensures (ap second c.in-AndThen.is) c.in_ok-rest.ensures.reads c.in_ok-rest.ensures.shorter c.word-in-AndThen.ensures

pub returns-in-OrElse : goal.returns-in-OrElse
returns-in-OrElse c = two_words c.args.operator c.word-in-OrElse.result c.first_word.ensures (ap second c.in-OrElse.is) c.in_ok-rest.ensures.reads c.in_ok-rest.ensures.shorter c.word-in-OrElse.ensures

pub returns-in-And : goal.returns-in-And
returns-in-And c = one_word c.args.operator c.first_word.ensures (⊎_elim (λ i. ap second i) (λ k. ⊎_elim (λ i. ap second i) (λ i. ap second i) k) c.in-And.is) c.in_ok-rest.ensures.reads c.in_ok-rest.ensures.shorter
