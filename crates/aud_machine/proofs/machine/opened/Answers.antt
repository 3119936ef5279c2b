use Rattle.std.proofs.Common.{ap, sym}
use Rattle.aud_typed.specs.Ties.View.{plain_program}
use Rattle.aud_sequential.specs.Shown.{plans_of}
use Rattle.aud_machine.proofs.Bridges.{opening_spots, within_opening}
use Rattle.aud_machine.proofs.machine.opened.Goals as goal

pub returns-clause-opening : goal.returns-clause-opening
returns-clause-opening c = c.in_ok-state.ensures (plain_program c.args.program.now).plan (ap plans_of (sym c.deref.ensures.value))

pub returns-clause-spots : goal.returns-clause-spots
returns-clause-spots c =
    let plan = (plain_program c.args.program.now).plan in
    opening_spots plan c.args.code.now c.args.program.now.name c.in_ok-state.state c.start.result c.start.ensures.value c.start.ensures.begins (c.in_ok-state.ensures plan (ap plans_of (sym c.deref.ensures.value)))

pub returns-clause-within : goal.returns-clause-within
returns-clause-within c =
    let plan = (plain_program c.args.program.now).plan in
    within_opening plan c.args.code.now c.args.limits c.args.program.now.name c.in_ok-state.state (c.in_ok-state.ensures plan (ap plans_of (sym c.deref.ensures.value)))
