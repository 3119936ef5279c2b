use Rattle.std.proofs.Common.{ℕ, List, sym, subst}
use Rattle.aud_bench.specs.declared.request.Request.TheVariants as request
use Rattle.aud_bench.specs.Alone.{load_reply, choose_reply}
use Rattle.aud_bench.specs.Loading.{program_of}
use Rattle.aud_bench.specs.Ties.Serving.{IsLoaded, Replies}
use Rattle.aud_bench.specs.Ties.Times.{HasRoom}
use Rattle.aud_bench.proofs.Serving.{load_costs, reset_costs, step_costs, choose_costs, advance_costs, clock_costs, list_costs, clock_keeps, list_keeps, served_at_once}
use Rattle.aud_bench.proofs.service.serve.Goals as goal

pub returns-in_ok-take-in-Load-clause-serves : goal.returns-in_ok-take-in-Load-clause-serves
returns-in_ok-take-in-Load-clause-serves c =
    λ loaded room. served_at_once c.args.limits c.args.request.now (request.Load c.in-Load.source) c.in-Load.is loaded c.args.progress c.args.units c.args.machine.now c.take.new.machine
    c.in_ok-take-in-Load.field-0 c.answered.result c.answered.ensures (load_costs loaded (program_of c.args.limits c.in-Load.source))
    (λ under.
    subst (λ (bytes : List ℕ). Replies c.args.limits c.in_ok-take-in-Load.field-0 c.take.new.machine (load_reply (program_of c.args.limits bytes) loaded)) c.as_bytes.ensures
    (c.in_ok-take-in-Load.ensures loaded under.is_behind))

pub returns-in_ok-reset-in-Reset-clause-serves : goal.returns-in_ok-reset-in-Reset-clause-serves
returns-in_ok-reset-in-Reset-clause-serves c =
    λ loaded room. served_at_once c.args.limits c.args.request.now (request.Reset) c.in-Reset.is loaded c.args.progress c.args.units c.args.machine.now c.reset.new.machine
    c.in_ok-reset-in-Reset.field-0 c.answered-in-Reset.result c.answered-in-Reset.ensures (reset_costs loaded)
    (λ under. c.in_ok-reset-in-Reset.ensures c.args.limits loaded under.is_behind)

pub returns-in_ok-step-in-Step-clause-serves : goal.returns-in_ok-step-in-Step-clause-serves
returns-in_ok-step-in-Step-clause-serves c =
    λ loaded room. served_at_once c.args.limits c.args.request.now (request.Step c.in-Step.nth) c.in-Step.is loaded c.args.progress c.args.units c.args.machine.now c.step.new.machine
    c.in_ok-step-in-Step.field-0 c.answered-in-Step.result c.answered-in-Step.ensures (step_costs c.args.limits c.in-Step.nth loaded)
    (λ under. c.in_ok-step-in-Step.ensures c.args.limits loaded under.is_behind)

pub returns-in_ok-choose-in-Choose-clause-serves : goal.returns-in_ok-choose-in-Choose-clause-serves
returns-in_ok-choose-in-Choose-clause-serves c =
    λ loaded room. served_at_once c.args.limits c.args.request.now (request.Choose c.in-Choose.choices) c.in-Choose.is loaded c.args.progress c.args.units c.args.machine.now c.choose.new.machine
    c.in_ok-choose-in-Choose.field-0 c.answered-in-Choose.result c.answered-in-Choose.ensures (choose_costs c.in-Choose.choices loaded)
    (λ under.
    subst (λ (numbers : List ℕ). Replies c.args.limits c.in_ok-choose-in-Choose.field-0 c.choose.new.machine (choose_reply numbers loaded)) c.as_slice.ensures.value
    (c.in_ok-choose-in-Choose.ensures c.args.limits loaded under.is_behind))

pub returns-in-Advance-clause-serves : goal.returns-in-Advance-clause-serves
returns-in-Advance-clause-serves c =
    λ loaded room. served_at_once c.args.limits c.args.request.now (request.Advance c.in-Advance.wait) c.in-Advance.is loaded c.args.progress c.args.units c.args.machine.now c.advance.new.machine
    c.advance.result c.answered-in-Advance.result c.answered-in-Advance.ensures (advance_costs c.in-Advance.wait loaded)
    (λ under. c.advance.ensures c.args.limits loaded (subst (λ r. HasRoom r loaded) c.in-Advance.is room) under.is_behind)

pub returns-in-Clock-clause-serves : goal.returns-in-Clock-clause-serves
returns-in-Clock-clause-serves c =
    λ loaded room. served_at_once c.args.limits c.args.request.now (request.Clock) c.in-Clock.is loaded c.args.progress c.args.units c.args.machine.now c.args.machine.now
    c.clock.result c.answered-in-Clock.result c.answered-in-Clock.ensures (clock_costs loaded)
    (λ under. record { answer_is = c.clock.ensures c.args.limits loaded under.is_behind; loaded = subst (λ l. IsLoaded c.args.limits c.args.machine.now l) (sym (clock_keeps loaded)) under.is_behind })

pub returns-in_ok-listed-in-List-clause-serves : goal.returns-in_ok-listed-in-List-clause-serves
returns-in_ok-listed-in-List-clause-serves c =
    λ loaded room. served_at_once c.args.limits c.args.request.now (request.List c.in-List.listing) c.in-List.is loaded c.args.progress c.args.units c.args.machine.now c.args.machine.now
    c.in_ok-listed-in-List.field-0 c.answered-in-List.result c.answered-in-List.ensures (list_costs c.in-List.listing loaded)
    (λ under. record { answer_is = c.in_ok-listed-in-List.ensures c.args.limits loaded under.is_behind; loaded = subst (λ l. IsLoaded c.args.limits c.args.machine.now l) (sym (list_keeps c.in-List.listing loaded)) under.is_behind })
