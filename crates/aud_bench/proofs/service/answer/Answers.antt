use Rattle.std.proofs.Common.{[], ◌∷◌, Option, subst}
use Rattle.aud_bench.specs.declared.request.Answer.{Answer}
use Rattle.aud_bench.specs.Ties.Serving.{ServesBy}
use Rattle.aud_bench.proofs.Standing.{opens}
use Rattle.aud_bench.proofs.service.answer.Goals as goal

pub returns : goal.returns
returns c =
    λ loaded room loads.
    let limits = c.args.limits in
    let r = c.args.request.now in
    let s = c.in_ok-answer.field-0 in
    let serves = c.in_ok-answer.ensures.serves loaded room (opens limits loaded (r ∷ []) c.args.machine.now loads) in
    (subst (λ (a : Option Answer). ServesBy a limits r loaded 0 18446744073709551615 s.cost s.progress c.serve.new.machine) c.in-Some.is serves).0
