use Rattle.std.proofs.Common.{reverse, sym, ◌∙◌}
use Rattle.aud_store.proofs.Opened.{served_plain}
use Rattle.aud_store.proofs.stack.Stack.served.Goals as goal

pub returns : goal.returns
returns c = rw (← c.self.view_is) ((rw c.deref.ensures.value at c.in_ok-calls.ensures) ∙ sym (served_plain c.self.inside.display (reverse c.self.inside.opened.items) c.self.inside.backs.items))
