use Rattle.aud_machine.proofs.Bridges.{state_shown}
use Rattle.aud_machine.proofs.machine.Machine.state.Goals as goal

pub returns : goal.returns
returns c =
    let inside = c.self.inside in
    let told = rw (c.compiled.ensures.program, c.compiled.ensures.code, ← c.self.view_is) at c.state_of.ensures in
    rw (← c.self.view_is) (λ shown h.
    state_shown inside.program inside.code c.self.invariant.0 inside.limits inside.spent inside.state shown h c.state_of.result told)
