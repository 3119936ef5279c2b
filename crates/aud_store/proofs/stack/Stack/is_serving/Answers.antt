use Rattle.std.proofs.Common.{reverse, sym, ◌∙◌}
use Rattle.aud_store.proofs.Opened.{any_served}
use Rattle.aud_store.proofs.stack.Stack.is_serving.Goals as goal

pub returns : goal.returns
returns c = rw (← c.self.view_is) (λ plan barrier. (rw c.deref.ensures.value at c.is_any_served.ensures) ∙ sym (any_served plan barrier c.self.inside.display (reverse c.self.inside.opened.items) c.self.inside.backs.items))
