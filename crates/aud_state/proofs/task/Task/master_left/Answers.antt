use Rattle.aud_sequential.specs.Parked.{acting, no_part}
use Rattle.aud_code.specs.Flat.{coming_at}
use Rattle.aud_state.specs.View.{plain_task}
use Rattle.aud_state.proofs.TaskLaws.Reading.{leaves_own}
use Rattle.aud_state.proofs.task.Task.master_left.Goals as goal

pub returns : goal.returns
returns c = λ plan s.
    let t = plain_task c.args.self.now in
    leaves_own t.own c.master_left.result (coming_at c.args.code.now plan t.own.pending s t.control)
    (c.master_left.ensures (acting c.args.self.now.parked no_part) (c.standing.ensures no_part) plan s)
