use Rattle.aud_bench.proofs.service.take.Goals as goal

pub returns-in-Ok : goal.returns-in-Ok
returns-in-Ok c = rw c.in-Ok.ensures.answer c.begin.ensures
