use Rattle.std.proofs.Common.{ap, ◌∙◌}
use Rattle.aud_meaning.specs.Configuration.{All}
use Rattle.aud_meaning.specs.Parts.{on_call}
use Rattle.aud_meaning.specs.Tasks as effect
use Rattle.aud_code.specs.Places.{Spot}
use Rattle.aud_calls.specs.View.{Kept}
use Rattle.aud_state.specs.View.{all_of}
use Rattle.aud_state.proofs.state.State.call_on.Goals as goal

pub returns : goal.returns
returns c = λ go plan barrier.
    let i = c.self.inside in
    ap (λ (k : Kept). all_of i.tasks.items i.progress k i.objects.items) (c.in_ok-call_on.ensures go plan barrier)
    ∙ ap (λ (s : All Spot). on_call c.args.id (effect.called_of go plan barrier c.args.owner) s) c.self.view_is
