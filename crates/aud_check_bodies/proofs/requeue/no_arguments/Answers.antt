use Rattle.std.proofs.Common.{ap, ◌∙◌}
use Rattle.aud_syntax.specs.Plain.{Args}
use Rattle.aud_fault.specs.Least.{noted}
use Rattle.aud_check_bodies.specs.Calls.{no_argument}
use Rattle.aud_check_bodies.proofs.requeue.no_arguments.Goals as goal

pub returns : goal.returns
returns c = c.no_argument.ensures ∙ ap (λ (xs : Args). noted c.args.faults.now (no_argument xs c.args.at)) c.last_args.ensures
