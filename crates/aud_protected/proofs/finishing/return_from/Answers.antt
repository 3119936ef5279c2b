use Rattle.std.proofs.Common.{ap, sym, ◌∙◌}
use Rattle.aud_meaning.specs.Tasks as effect
use Rattle.aud_code.specs.Control.{going}
use Rattle.aud_store.specs.Ties.Stored.{returning_by}
use Rattle.aud_protected.proofs.finishing.return_from.Goals as goal

pub returns-in_ok-return_from-in-None : goal.returns-in_ok-return_from-in-None
returns-in_ok-return_from-in-None c = λ plan barrier.
    let go = going c.args.code.now in
    c.in_ok-return_from-in-None.ensures plan barrier
    ∙ ap (λ p. effect.returned_or go plan barrier p (returning_by c.args.returns c.args.backs.now) c.args.inner.frame c.args.inner.at c.args.n c.args.state.now) (sym c.in-None.is)
