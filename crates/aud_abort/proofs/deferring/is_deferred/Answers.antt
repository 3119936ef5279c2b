use Rattle.std.proofs.Common.{true, if◌then◌else◌, ap, sym, ◌∙◌}
use Rattle.aud_abort.specs.Deferring.{bound_in}
use Rattle.aud_abort.proofs.deferring.is_deferred.Goals as goal

pub returns-then-in_action : goal.returns-then-in_action
returns-then-in_action c = λ plan.
    sym (ap (λ b. if b then true else bound_in plan c.args.code.now c.args.n c.args.state.now) (sym c.in_action.ensures ∙ c.if-in_action.true))

pub returns : goal.returns
returns c = λ plan.
    c.is_bound.ensures plan
    ∙ sym (ap (λ b. if b then true else bound_in plan c.args.code.now c.args.n c.args.state.now) (sym c.in_action.ensures ∙ c.if-in_action.false))
