use Rattle.std.proofs.Common.{Option, subst, arith}
use Rattle.std.specs.Prelude.{slice_get}
use Rattle.aud_meaning.specs.Run.{moves_in}
use Rattle.aud_machine.specs.Shown.{program_in}
use Rattle.aud_machine.specs.Shows.{Ran, Takes, IfShows}
use Rattle.aud_bench.proofs.Serving.{no_step, no_move, is_taken}
use Rattle.aud_bench.proofs.service.take_move.Goals as goal

pub returns-then-steps-ge-STEPS : goal.returns-then-steps-ge-STEPS
returns-then-steps-ge-STEPS c = no_step c.args.nth c.args.machine.now c.steps.result c.steps.ensures.shown (omega arith)

pub returns-in_default : goal.returns-in_default
returns-in_default c =
    let old = c.args.machine.now in
    no_move c.args.nth old c.steps.result c.steps.ensures.shown (omega arith) c.take.new.self
    (subst (λ (taken : Option Ran). IfShows old (λ c'. Takes old.limits (program_in old) c' (slice_get (moves_in (program_in old) c') c.args.nth) old c.take.new.self taken)) c.in_default.is c.in_ok-ran.ensures.takes)

pub returns : goal.returns
returns c =
    let old = c.args.machine.now in
    is_taken c.args.nth old c.steps.result c.steps.ensures.shown (omega arith) c.take.new.self c.in-Some.ran (c.in_ok-ran.ensures.leaves.limits, c.in_ok-ran.ensures.leaves.program)
    (subst (λ (taken : Option Ran). IfShows old (λ c'. Takes old.limits (program_in old) c' (slice_get (moves_in (program_in old) c') c.args.nth) old c.take.new.self taken)) c.in-Some.is c.in_ok-ran.ensures.takes)
    c.in_ok-report.field-0 c.in_ok-report.ensures
