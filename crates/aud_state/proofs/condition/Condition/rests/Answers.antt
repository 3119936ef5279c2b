use Rattle.std.proofs.Common.{subst}
use Rattle.std.proofs.lemmas.Bool.{ltb-true}
use Rattle.aud_state.specs.Condition.{Condition, RestsAt}
use Rattle.aud_state.proofs.condition.Condition.rests.Goals as goal

pub returns : goal.returns
returns c = λ is.
    subst (λ (s : Condition). RestsAt s.status c.args.clock s) c.self.view_is (c.self.invariant c.args.clock (ltb-true c.args.clock c.self.inside.wakes is))
