use Rattle.std.proofs.Common.{sym, ap, ◌∙◌}
use Rattle.aud_fault.specs.Least.{noted}
use Rattle.aud_typing.specs.Ties.Typing.{plain_typed}
use Rattle.aud_check_bodies.proofs.Called.{other_texts}
use Rattle.aud_check_bodies.proofs.call.one_text.Goals as goal

pub returns-then-args-ne1 : goal.returns-then-args-ne1
returns-then-args-ne1 c = c.wrong_number_of_arguments.ensures ∙ ap (λ z. noted c.args.faults.now z) (sym (other_texts c.args.args.now c.args.at (plain_typed c.args.last.now) c.if-args-ne1.true))
