use Rattle.std.proofs.Common.{ap, ◌∙◌}
use Rattle.aud_syntax.specs.Plain.{Args}
use Rattle.aud_fault.specs.Least.{noted}
use Rattle.aud_typing.specs.Ties.Typing.{plain_typed}
use Rattle.aud_check_bodies.specs.Calls.{array_called}
use Rattle.aud_check_bodies.proofs.requeue.array_named.Goals as goal

pub returns : goal.returns
returns c = c.array_called.ensures ∙ ap (λ (xs : Args). noted c.args.faults.now (array_called xs c.args.at (plain_typed c.args.last.now))) c.last_args.ensures
