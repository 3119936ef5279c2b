use Rattle.std.proofs.Common.{refl}
use Rattle.aud_machine.proofs.Bridges.{opening_shown}
use Rattle.aud_machine.proofs.Framed.{opening_comes}
use Rattle.aud_machine.proofs.Missed.{opening_misses}
use Rattle.aud_machine.proofs.machine.Machine.reset.Goals as goal

pub returns-clause-shows : goal.returns-clause-shows
returns-clause-shows c =
    let inside = c.self.inside in
    rw (← c.self.view_is) (record {
      alive = refl;
      through = c.in_ok-self-inside.field-0;
      all = opening_shown inside.program inside.code c.self.invariant.0 c.in_ok-self-inside.field-0 c.in_ok-self-inside.ensures.opening;
      left = refl;
    })

pub invariant_of-self-2 : goal.invariant_of-self-2
invariant_of-self-2 c =
    let inside = c.self.inside in
    let new = c.in_ok-self-inside.ensures in
    (c.self.invariant.0, c.self.invariant.1, λ alive. new.spots, λ alive. new.within, λ alive. opening_misses inside.program inside.code c.self.invariant.0 inside.limits c.in_ok-self-inside.field-0 new.opening, c.self.invariant.5, λ alive. opening_comes inside.program inside.code inside.limits c.in_ok-self-inside.field-0 new.opening)
