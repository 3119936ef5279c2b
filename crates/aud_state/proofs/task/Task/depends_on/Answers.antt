use Rattle.std.proofs.Common.{not, ◌&&◌, nat_eq, ap, ◌∙◌}
use Rattle.std.specs.List.{list_any}
use Rattle.aud_meaning.specs.Parts.{contains}
use Rattle.aud_calls.proofs.Lists.{contains_same}
use Rattle.aud_state.proofs.task.Task.depends_on.Goals as goal

pub returns-then-not-is_terminated : goal.returns-then-not-is_terminated
returns-then-not-is_terminated c =
    let masters = c.args.self.now.masters.items in
    c.contains.ensures.value
    ∙ ap (list_any (λ m. nat_eq m c.args.master)) c.deref.ensures.value
    ∙ contains_same c.args.master masters
    ∙ ap (λ b. not b && contains c.args.master masters) c.if-not-is_terminated.ensures
