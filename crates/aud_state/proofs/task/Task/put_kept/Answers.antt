use Rattle.std.proofs.Common.{◌≡◌, ◌++◌, ap, ◌∙◌, subst}
use Rattle.std.specs.Prelude.{◌||◌}
use Rattle.aud_meaning.specs.Parts.{contains, is_terminated}
use Rattle.aud_meaning.specs.Ties.Named.{opened_name}
use Rattle.aud_meaning.specs.Ties.Stack.{Stack}
use Rattle.aud_over.specs.Over.{own_names}
use Rattle.aud_state.specs.View.{plain_task}
use Rattle.aud_state.proofs.Giving.{kept_more}
use Rattle.aud_state.proofs.task.Task.put_kept.Goals as goal

pub returns : goal.returns
returns c = λ frame.
    let before = c.args.kept.now.items in
    let named = c.names.new.into.items in
    kept_more frame before named c.extend_from_slice.new.self.items c.args.self.now.masters.items (own_names frame (plain_task c.args.self.now).own) (is_terminated c.args.self.now.condition.status)
    (subst (λ (s : Stack). contains frame named ≡ (contains frame before || (contains frame s.display || opened_name frame s.opened))) c.stack.ensures (c.in_ok-names.ensures frame))
    (c.in_ok-extend_from_slice.ensures.items ∙ ap (λ l. named ++ l) c.masters_held.ensures)
