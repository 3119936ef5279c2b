use Rattle.std.proofs.Common.{arith}
use Rattle.std.proofs.lemmas.Bool.Decides.{nat_tests}
use Rattle.aud_store.proofs.Opened.{live_few}
use Rattle.aud_store.proofs.stack.Stack.has_room.Goals as goal

pub returns-then-len : goal.returns-then-len
returns-then-len c = rw (← c.self.view_is) (
    let few = live_few c.self.inside.display c.self.inside.opened.items c.self.inside.backs.items in
    grind (arith, nat_tests, few))
