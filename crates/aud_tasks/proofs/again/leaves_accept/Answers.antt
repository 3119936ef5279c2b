use Rattle.std.proofs.Common.{ap, sym, ◌∙◌}
use Rattle.aud_tasks.specs.Choices.{is_accept, leaves_accept}
use Rattle.aud_tasks.proofs.MoveLaws.Again.{is_for_accept}
use Rattle.aud_tasks.proofs.again.leaves_accept.Goals as goal

pub returns-in-Some : goal.returns-in-Some
returns-in-Some c =
    c.is_accept.ensures
    ∙ is_for_accept c.in-Some.inner.purpose c.in-Some.ensures.1.0
    ∙ ap leaves_accept (sym c.in-Some.ensures.1.1.1)

pub returns-in-None : goal.returns-in-None
returns-in-None c = ap leaves_accept (sym c.in-None.ensures)
