use Rattle.aud_bench.proofs.Serving.{is_reset}
use Rattle.aud_bench.proofs.service.begin_anew.Goals as goal

pub returns : goal.returns
returns c =
    is_reset c.args.machine.now c.reset.new.self (c.in_ok-reset.ensures.leaves.limits, c.in_ok-reset.ensures.leaves.program) c.in_ok-reset.ensures.shows
