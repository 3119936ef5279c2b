use Rattle.aud_sequential.specs.Parked.{acting, no_part}
use Rattle.aud_code.specs.Flat.{coming_at}
use Rattle.aud_state.specs.View.{plain_task}
use Rattle.aud_state.proofs.TaskLaws.Reading.{kind_own}
use Rattle.aud_state.proofs.task.Task.next_kind.Goals as goal

pub returns : goal.returns
returns c = λ plan s.
    let t = plain_task c.args.self.now in
    kind_own t.own c.next_kind.result (coming_at c.args.code.now plan t.own.pending s t.control)
    (c.next_kind.ensures (acting c.args.self.now.parked no_part) (c.standing.ensures no_part) plan s)
