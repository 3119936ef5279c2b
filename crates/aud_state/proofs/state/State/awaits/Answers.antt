use Rattle.aud_state.proofs.state.State.awaits.Goals as goal

pub returns : goal.returns
returns c = λ go plan barrier. rw (← c.self.view_is) (rw c.deref.ensures.value at (c.is_awaiting.ensures go plan barrier))
