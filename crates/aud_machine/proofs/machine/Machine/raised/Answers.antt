use Rattle.aud_machine.proofs.Bridges.{raised_shown}
use Rattle.aud_machine.proofs.machine.Machine.raised.Goals as goal

pub returns : goal.returns
returns c =
    let inside = c.self.inside in
    rw (← c.self.view_is) (λ shown h.
    raised_shown inside.program inside.code c.self.invariant.0 inside.limits inside.spent inside.state shown h c.raised.result c.raised.ensures)
