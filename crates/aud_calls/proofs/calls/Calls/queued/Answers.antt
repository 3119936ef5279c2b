use Rattle.std.proofs.Common.{map, ap, ◌∙◌}
use Rattle.aud_meaning.specs.Parts.{Waiting, queue}
use Rattle.aud_calls.specs.View.{Kept}
use Rattle.aud_calls.proofs.calls.Calls.queued.Goals as goal

pub returns : goal.returns
returns c =
    let o = c.args.owner in
    let e = c.args.entry in
    c.calls.ensures
    ∙ c.self.invariant.lines o e
    ∙ ap (λ (w : Kept). map (λ (x : Waiting). x.call) (queue o e w.calls)) c.self.view_is
