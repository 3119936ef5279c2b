use Rattle.aud_syntax.specs.Ties.View.{handler_list}
use Rattle.aud_check_bodies.specs.Handlers.{none_chosen, all_choices_faults}
use Rattle.aud_check_bodies.proofs.Shown.{choices_ahead}
use Rattle.aud_check_bodies.proofs.handler.all_choices.Goals as goal

pub loop-handler-preserved : goal.loop-handler-preserved
loop-handler-preserved c =
    choices_ahead c.args.scope.now c.args.faults.now c.loop-handler.faults c.choices.new.faults c.loop-handler.chosen c.choices.new.self (all_choices_faults (handler_list c.args.handlers.now) none_chosen c.args.scope.now) c.in-Some.handler.now c.loop-handler.rest.now c.in-Some.others.now c.is_empty.result c.in-Some.ensures.cases.0 c.is_empty.ensures c.loop-handler.invariant c.in_ok-choices.ensures.chosen c.in_ok-choices.ensures.noted
