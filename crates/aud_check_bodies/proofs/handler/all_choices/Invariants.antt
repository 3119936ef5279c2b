use Rattle.std.proofs.Common.{◌≡◌, length}
use Rattle.aud_syntax.specs.Ties.View.{handler_list}
use Rattle.aud_fault.specs.Least.{noted}
use Rattle.aud_check_bodies.specs.Handlers.{none_chosen, all_choices_faults}
use Rattle.aud_check_bodies.proofs.handler.all_choices.Given as goal

abbrev pub invariant-loop-handler : goal.invariant-loop-handler
invariant-loop-handler l = noted l.faults (all_choices_faults (handler_list l.rest) l.chosen l.scope) ≡ noted l.fn.faults (all_choices_faults (handler_list l.handlers) none_chosen l.scope)

abbrev pub decreases-loop-handler : goal.decreases-loop-handler
decreases-loop-handler l = length l.rest
