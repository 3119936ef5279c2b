use Rattle.std.proofs.Common.{reverse, sym, ◌∙◌}
use Rattle.aud_store.proofs.Numbers.{frames_plain}
use Rattle.aud_store.proofs.stack.Stack.frames.Goals as goal

pub returns : goal.returns
returns c = rw (← c.self.view_is) ((rw c.deref.ensures.value at c.in_ok-frames.ensures) ∙ sym (frames_plain c.self.inside.display (reverse c.self.inside.opened.items) c.self.inside.backs.items))
