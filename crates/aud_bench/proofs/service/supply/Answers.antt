use Rattle.std.proofs.Common.{arith}
use Rattle.aud_bench.proofs.Serving.{no_room, is_supplied}
use Rattle.aud_bench.proofs.service.supply.Goals as goal

pub returns-then-waiting : goal.returns-then-waiting
returns-then-waiting c = no_room c.args.choices.now c.args.machine.now c.choices.result c.choices.ensures.shown (omega arith)

pub returns : goal.returns
returns c =
    is_supplied c.args.choices.now c.args.machine.now c.choices.result c.choices.ensures.shown c.choose.new.self c.choices-2.result
    (c.in_ok-choose.ensures.leaves.limits, c.in_ok-choose.ensures.leaves.program) c.in_ok-choose.ensures.shows c.choices-2.ensures.shown (omega arith)
