use Rattle.std.proofs.Common.{sym, subst}
use Rattle.aud_typed.specs.Ties.View.{plain_program}
use Rattle.aud_meaning.specs.Configuration.{All}
use Rattle.aud_code.specs.Places.{Spot}
use Rattle.aud_code.specs.Starts.{AreSpots}
use Rattle.aud_machine.proofs.Bridges.{supplied_shown, within_supplied}
use Rattle.aud_machine.proofs.Framed.{supplied_comes}
use Rattle.aud_machine.proofs.Missed.{supplied_misses}
use Rattle.aud_machine.proofs.machine.Machine.choose.Goals as goal

pub returns-clause-shows : goal.returns-clause-shows
returns-clause-shows c =
    let inside = c.self.inside in
    rw (← c.self.view_is) (λ shown h.
    supplied_shown inside.program inside.code c.self.invariant.0 inside.limits inside.spent inside.state shown h c.args.choices.now c.choose.new.self c.in_ok-choose.ensures)

pub invariant_of-self-2 : goal.invariant_of-self-2
invariant_of-self-2 c =
    let inside = c.self.inside in
    let choices = c.args.choices.now in
    let new = c.choose.new.self in
    let told = c.in_ok-choose.ensures in
    (c.self.invariant.0, c.self.invariant.1, λ alive. subst (λ (a : All Spot). AreSpots inside.code.lines a.tasks) (sym told) (c.self.invariant.2 c.if-self.false), λ alive one. within_supplied (plain_program inside.program).plan inside.code inside.limits choices inside.state new told (c.self.invariant.3 c.if-self.false one), λ alive. supplied_misses inside.program inside.code c.self.invariant.0 inside.limits inside.spent inside.state (c.self.invariant.4 c.if-self.false) choices new told, c.self.invariant.5, λ alive. supplied_comes inside.program inside.code inside.limits choices inside.state new told (c.self.invariant.6 c.if-self.false))
