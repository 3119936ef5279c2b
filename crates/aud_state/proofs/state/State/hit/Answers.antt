use Rattle.std.proofs.lemmas.Result.{IfOk-weaker}
use Rattle.aud_state.proofs.state.State.hit.Goals as goal

pub returns : goal.returns
returns c =
    IfOk-weaker c.hit_among.result _ _ (λ ns h go plan barrier. rw (← c.self.view_is) (rw c.deref.ensures.value at (h go plan barrier))) c.hit_among.ensures
