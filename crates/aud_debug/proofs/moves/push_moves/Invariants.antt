use Rattle.std.proofs.Common.{drop}
use Rattle.aud_typed.specs.Ties.View.{plain_program}
use Rattle.aud_debug.specs.Ties.Rows.{each_line}
use Rattle.aud_debug.proofs.Pages.{Comes}
use Rattle.aud_debug.proofs.moves.push_moves.Given as goal

abbrev pub invariant-loop-index : goal.invariant-loop-index
invariant-loop-index l =
    let plan = (plain_program l.compiled.program.now).plan in
    Comes l.page l.initial.page (each_line plan l.compiled.code.now l.index (drop l.index l.moves) l.state) (each_line plan l.compiled.code.now 0 l.moves l.state)
