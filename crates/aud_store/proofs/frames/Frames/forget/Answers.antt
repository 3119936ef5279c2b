use Rattle.aud_store.proofs.Framed.{only_left}
use Rattle.aud_store.proofs.frames.Frames.forget.Goals as goal

pub invariant_of-self : goal.invariant_of-self
invariant_of-self c = c.retain.ensures.shelf c.self.inside.made c.self.invariant

pub returns : goal.returns
returns c =
    only_left c.self.inside.made c.self.inside.first.items c.self.inside.shelf c.retain.new.self c.args.named.now c.sort_unstable.new.self c.args.self.now c.self.view_is
    c.sort_unstable.ensures.permutation c.retain.ensures.named
