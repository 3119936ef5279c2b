use Rattle.std.proofs.Common.{Some, None, slice_get, ◌∙◌}
use Rattle.aud_meaning.specs.Parts.{own_of}
use Rattle.aud_state.specs.Reads.{coming_by}
use Rattle.aud_masters.proofs.Leaving.{freely_by}
use Rattle.aud_masters.proofs.ending.can_leave.Goals as goal

pub returns-in-Some : goal.returns-in-Some
returns-in-Some c = λ plan s.
    let state = c.args.state.now in
    let n = c.args.task in
    c.closable.ensures
    ∙ freely_by (own_of n state) (Some c.in-Some.master) (coming_by c.args.code.now plan s (slice_get state.tasks n)) state (c.in-Some.ensures plan s)

pub returns-in-None : goal.returns-in-None
returns-in-None c = λ plan s.
    let state = c.args.state.now in
    let n = c.args.task in
    freely_by (own_of n state) None (coming_by c.args.code.now plan s (slice_get state.tasks n)) state (c.in-None.ensures plan s)
