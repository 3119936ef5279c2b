use Rattle.aud_machine.proofs.Bridges.{owns_shown, shared_shown}
use Rattle.aud_machine.proofs.Framed.{holds_frames, opens_seen}
use Rattle.aud_machine.proofs.Missed.{none_shown}
use Rattle.aud_machine.proofs.Views.{view_shown}
use Rattle.aud_machine.proofs.machine.Machine.parts.Goals as goal

pub returns-clause-missed : goal.returns-clause-missed
returns-clause-missed c =
    let inside = c.self.inside in
    rw (← c.self.view_is) (λ alive. none_shown inside.program inside.code c.self.invariant.0 inside.limits inside.spent inside.state (c.self.invariant.4 alive))

pub returns-clause-framed : goal.returns-clause-framed
returns-clause-framed c =
    let inside = c.self.inside in
    rw (← c.self.view_is) (λ alive meets. holds_frames inside.program inside.code inside.limits inside.spent inside.state c.len.ensures.sound c.len.ensures.plain c.self.invariant.5 (c.self.invariant.6 alive) meets)

pub returns-clause-left : goal.returns-clause-left
returns-clause-left c =
    let inside = c.self.inside in
    rw (← c.self.view_is) (λ alive meets direct. opens_seen inside.program inside.code inside.limits inside.spent inside.state c.len.ensures.sound c.len.ensures.plain c.self.invariant.5 (c.self.invariant.6 alive) meets direct)

pub returns-clause-tasks : goal.returns-clause-tasks
returns-clause-tasks c =
    let inside = c.self.inside in
    rw (← c.self.view_is) (λ shown h. owns_shown inside.program inside.code c.self.invariant.0 inside.limits inside.spent inside.state shown h)

pub returns-clause-shared : goal.returns-clause-shared
returns-clause-shared c =
    let inside = c.self.inside in
    rw (← c.self.view_is) (λ shown h. shared_shown inside.program inside.code c.self.invariant.0 inside.limits inside.spent inside.state shown h)

pub returns-clause-view : goal.returns-clause-view
returns-clause-view c =
    let inside = c.self.inside in
    rw (← c.self.view_is) (λ shown h. view_shown inside.program inside.code c.self.invariant.0 inside.limits inside.spent inside.state shown h)
