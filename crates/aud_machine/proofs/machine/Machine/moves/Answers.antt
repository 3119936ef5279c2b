use Rattle.std.proofs.lemmas.Result.{IfOk-weaker}
use Rattle.aud_machine.proofs.Bridges.{moves_listed}
use Rattle.aud_machine.proofs.machine.Machine.moves.Goals as goal

pub returns-clause-shown : goal.returns-clause-shown
returns-clause-shown c =
    let inside = c.self.inside in
    let told = rw (c.compiled.ensures.program, c.compiled.ensures.code, ← c.self.view_is) at c.moves.ensures in
    IfOk-weaker c.moves.result _ _ (λ moves told. rw (← c.self.view_is) (λ shown h.
    moves_listed inside.program inside.code c.self.invariant.0 inside.limits inside.spent inside.state shown h moves.items told)) told

pub returns-clause-parts : goal.returns-clause-parts
returns-clause-parts c =
    let told = rw (c.compiled.ensures.program, c.compiled.ensures.code, ← c.self.view_is) at c.moves.ensures in
    rw (← c.self.view_is) told
