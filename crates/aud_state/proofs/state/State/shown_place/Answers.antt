use Rattle.std.proofs.Common.{◌≡◌, refl, arith}
use Rattle.aud_state.specs.Reads.{place_by}
use Rattle.aud_state.proofs.TaskLaws.Reading.{read_at, read_none}
use Rattle.aud_state.proofs.state.State.shown_place.Goals as goal

pub returns-then-task-len : goal.returns-then-task-len
returns-then-task-len c =
    let e = c.self.inside in
    read_at (λ o t. c.shown_place.result ≡ place_by c.args.code.now t) e.tasks.items e.progress e.calls e.objects.items c.args.task c.index-found.result.now c.args.self.now (omega arith) c.index-found.ensures c.self.view_is
    c.shown_place.ensures

pub returns : goal.returns
returns c =
    let e = c.self.inside in
    read_none (λ o t. record { line = 0; col = 0 } ≡ place_by c.args.code.now t) e.tasks.items e.progress e.calls e.objects.items c.args.task c.args.self.now (omega arith) c.self.view_is refl
