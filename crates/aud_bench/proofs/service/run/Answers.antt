use Rattle.std.proofs.Common.{◌+◌, Some, None, inl, inr, arith}
use Rattle.aud_meaning.specs.Configuration.{Configuration}
use Rattle.aud_meaning.specs.Run.{run}
use Rattle.aud_bench.specs.declared.request.Answer.TheVariants as answer
use Rattle.aud_bench.proofs.Serving.{of_program, goes_on, is_done}
use Rattle.aud_bench.proofs.service.run.Goals as goal
use Rattle.aud_bench.proofs.service.run.Goals.{else-now-wanted-via-then-now-wanted+else-has_more, else-now-wanted-via-else-now-wanted}

pub returns-then-has_more-clause-serves : goal.returns-then-has_more-clause-serves
returns-then-has_more-clause-serves c =
    λ bounds. of_program bounds c.args.steps c.args.progress c.args.units c.args.machine.now
    (record { answer = None; progress = c.args.progress + c.in_ok-ran.ran.steps; cost = c.args.units }) (Some c.slice.new.self)
    (λ loaded under.
    let here : Configuration = run bounds loaded.program c.args.progress loaded.now in
    let steps = c.steps-left.ensures.shown here under.is_behind.shows in
    goes_on bounds c.args.steps c.args.progress loaded c.args.machine.now under c.min-wanted.result c.within-now.result c.args.units c.slice.new.self c.in_ok-ran.ran
    (omega (arith, steps, c.if-left-eq0.false)) (omega (arith, steps, c.saturating_sub.ensures, c.min-wanted.ensures)) c.within-now.ensures
    (c.in_ok-ran.ensures.leaves.limits, c.in_ok-ran.ensures.leaves.program) (c.in_ok-ran.ensures.runs here under.is_behind.shows) c.if-now-wanted.true (c.has_more.ensures.yes c.if-has_more.true))

pub returns-clause-serves : goal.returns-clause-serves
returns-clause-serves c =
    λ bounds. of_program bounds c.args.steps c.args.progress c.args.units c.args.machine.now
    (record { answer = Some (answer.Ran c.in_ok-report.report); progress = 0; cost = c.from.result })
    (Some c.slice.new.self)
    (λ loaded under.
    let here : Configuration = run bounds loaded.program c.args.progress loaded.now in
    let steps = c.steps-left.ensures.shown here under.is_behind.shows in
    is_done bounds c.args.steps c.args.progress loaded c.args.machine.now under c.min-wanted.result c.within-now.result c.args.units c.slice.new.self c.in_ok-ran.ran
    (omega (arith, steps, c.if-left-eq0.false)) (omega (arith, steps, c.saturating_sub.ensures, c.min-wanted.ensures)) c.within-now.ensures
    (c.in_ok-ran.ensures.leaves.limits, c.in_ok-ran.ensures.leaves.program) (c.in_ok-ran.ensures.runs here under.is_behind.shows)
    (elim c.else-now-wanted.branch [ else-now-wanted-via-then-now-wanted+else-has_more w ↦ inr (w.has_more.ensures.no w.if-has_more.false) | else-now-wanted-via-else-now-wanted w ↦ inl w.if-now-wanted.false ])
    c.in_ok-report.report c.in_ok-report.ensures c.from.result (omega (arith, c.from.ensures, c.max.ensures)))
