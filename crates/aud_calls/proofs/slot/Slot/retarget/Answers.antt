use Rattle.std.proofs.Common.{ap, ◌∙◌}
use Rattle.aud_meaning.specs.Configuration as meaning
use Rattle.aud_meaning.specs.Tasks as effect
use Rattle.aud_calls.proofs.slot.Slot.retarget.Goals as goal

pub returns-clause-does : goal.returns-clause-does
returns-clause-does c = λ go plan barrier.
    c.retarget_kept.ensures.does go plan barrier
    ∙ ap (λ (a : meaning.Call). effect.retargeted go plan barrier c.args.again c.args.values.items a) c.keep.ensures.same
