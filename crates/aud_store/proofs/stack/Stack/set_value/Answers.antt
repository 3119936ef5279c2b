use Rattle.std.proofs.Common.{ap, reverse, subst, sym, ◌∙◌}
use Rattle.aud_store.specs.Ties.Display.{seen}
use Rattle.aud_store.specs.Ties.Stored.{plain_opened, ArePlaced}
use Rattle.aud_store.proofs.Opened.{stack_of}
use Rattle.aud_store.proofs.Valued.{valued_placed, valued_plain}
use Rattle.aud_store.proofs.stack.Stack.set_value.Goals as goal

pub invariant_of-self : goal.invariant_of-self
invariant_of-self c = subst (ArePlaced c.self.inside.display) (sym c.give_value.ensures) (valued_placed c.args.value c.self.inside.display (reverse c.self.inside.opened.items) c.self.invariant)

pub returns : goal.returns
returns c = rw (← c.self.view_is) (
    let d = c.self.inside.display in
    let bs = c.self.inside.backs.items in
    ap (λ os. stack_of (seen d) (plain_opened d os bs)) c.give_value.ensures
    ∙ ap (stack_of (seen d)) (valued_plain c.args.value d (reverse c.self.inside.opened.items) bs))
