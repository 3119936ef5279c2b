use Rattle.std.proofs.Common.{sym}
use Rattle.aud_store.proofs.Numbers.{outermost_got}
use Rattle.aud_store.proofs.stack.Stack.outermost.Goals as goal

pub returns-in-Some : goal.returns-in-Some
returns-in-Some c = rw (← c.self.view_is) (sym (outermost_got c.self.inside.display c.self.inside.opened.items c.in-Some.open.now c.self.inside.backs.items (sym (rw c.deref.ensures.value at c.in-Some.ensures.value))))
