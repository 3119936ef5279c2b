use Rattle.std.proofs.Common.{length, ap, ◌∙◌}
use Rattle.std.proofs.lemmas.List.{length-map}
use Rattle.aud_meaning.specs.Parts.{Waiting, queue}
use Rattle.aud_calls.specs.View.{Kept}
use Rattle.aud_calls.proofs.calls.Calls.count.Goals as goal

pub returns : goal.returns
returns c =
    let o = c.args.owner in
    let e = c.args.entry in
    ap length (c.calls.ensures ∙ c.self.invariant.lines o e)
    ∙ length-map _ (λ (w : Waiting). w.call)
    ∙ ap (λ (w : Kept). length (queue o e w.calls)) c.self.view_is
