use Rattle.std.proofs.Common.{List, false, ap}
use Rattle.aud_bench.specs.declared.request.Request.{Request}
use Rattle.aud_bench.specs.Alone.{cost}
use Rattle.aud_bench.specs.Seen.{Seen}
use Rattle.aud_bench.specs.Ties.Standing.{units_done}
use Rattle.aud_bench.proofs.bench.Bench.new.Goals as goal

pub returns : goal.returns
unfolding cost
returns c =
    let seen : List Request → Seen = λ journal. record { limits = c.args.limits; journal = journal; units = units_done c.args.limits journal 0 0; taken = 0; spent = false } in
    ap seen c.new.ensures.items
