use Rattle.std.proofs.Common.{reverse, sym, ◌∙◌}
use Rattle.aud_store.proofs.Opened.{live_plain}
use Rattle.aud_store.proofs.stack.Stack.live.Goals as goal

pub returns : goal.returns
returns c = rw (← c.self.view_is) ((rw c.deref.ensures.value at c.count_live.ensures) ∙ sym (live_plain c.self.inside.display (reverse c.self.inside.opened.items) c.self.inside.backs.items))
