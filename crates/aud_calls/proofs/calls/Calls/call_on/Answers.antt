use Rattle.std.proofs.Common.{List, ap, refl, ◌∙◌}
use Rattle.aud_meaning.specs.declared.state.CallState.TheVariants.{Selected}
use Rattle.aud_meaning.specs.Configuration as meaning
use Rattle.aud_meaning.specs.Parts.{changed}
use Rattle.aud_meaning.specs.Tasks as effect
use Rattle.aud_calls.specs.View.{Kept}
use Rattle.aud_calls.proofs.CallLaws.InLine.{changed_twice, idle_now}
use Rattle.aud_calls.proofs.calls.Calls.call_on.Goals as goal

pub give_to-requires : goal.give_to-requires
give_to-requires c = rw c.settle.ensures (idle_now (λ a. record a { state = Selected }) c.args.id c.args.self.now.calls (λ a. refl))

pub returns : goal.returns
returns c = λ go plan barrier.
    let old = c.args.self.now in
    let f : meaning.Call → meaning.Call = effect.called_of go plan barrier c.args.owner in
    c.in_ok-give_to.ensures go plan barrier
    ∙ ap (λ (w : Kept). record w { calls = changed c.args.id f w.calls }) c.settle.ensures
    ∙ ap (λ (cs : List meaning.Call). record old { calls = cs }) (changed_twice f (λ a. record a { state = Selected }) c.args.id old.calls)
