use Rattle.std.proofs.Common.{sym, subst}
use Rattle.aud_typed.specs.Ties.View.{plain_program}
use Rattle.aud_meaning.specs.Configuration.{All}
use Rattle.aud_code.specs.Places.{Spot}
use Rattle.aud_code.specs.Starts.{AreSpots}
use Rattle.aud_machine.proofs.Bridges.{advanced_shown, within_advanced}
use Rattle.aud_machine.proofs.Framed.{advanced_comes}
use Rattle.aud_machine.proofs.Missed.{advanced_misses}
use Rattle.aud_machine.proofs.machine.Machine.advance.Goals as goal

pub returns-clause-shows : goal.returns-clause-shows
returns-clause-shows c =
    let inside = c.self.inside in
    rw (← c.self.view_is) (λ shown h.
    advanced_shown inside.program inside.code c.self.invariant.0 inside.limits inside.spent inside.state shown h c.args.milliseconds c.advance.new.self c.advance.ensures)

pub invariant_of-self : goal.invariant_of-self
invariant_of-self c =
    let inside = c.self.inside in
    let milliseconds = c.args.milliseconds in
    let new = c.advance.new.self in
    let told = c.advance.ensures in
    (c.self.invariant.0, c.self.invariant.1, λ alive. subst (λ (a : All Spot). AreSpots inside.code.lines a.tasks) (sym told) (c.self.invariant.2 alive), λ alive one. within_advanced (plain_program inside.program).plan inside.code inside.limits milliseconds inside.state new told (c.self.invariant.3 alive one), λ alive. advanced_misses inside.program inside.code c.self.invariant.0 inside.limits inside.spent inside.state (c.self.invariant.4 alive) milliseconds new told, c.self.invariant.5, λ alive. advanced_comes inside.program inside.code inside.limits milliseconds inside.state new told (c.self.invariant.6 alive))
