use Rattle.std.proofs.Common.{ap, sym, ◌∙◌}
use Rattle.aud_meaning.specs.Listings.{is_served, serves_now}
use Rattle.aud_meaning.specs.Parts.{any}
use Rattle.aud_meaning.specs.Ties.Stack.{Stack}
use Rattle.aud_state.proofs.task.Task.is_servicing.Goals as goal

pub returns-in-None : goal.returns-in-None
returns-in-None c = λ plan barrier.
    c.is_serving.ensures plan barrier
    ∙ ap (λ (s : Stack). any (is_served plan barrier) s.opened) c.stack.ensures
    ∙ sym (ap (λ x. serves_now plan barrier x c.args.self.now.parked.stack.opened) (sym c.serving.ensures ∙ c.in-None.is))
