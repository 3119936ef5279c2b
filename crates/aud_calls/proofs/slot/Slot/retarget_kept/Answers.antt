use Rattle.std.proofs.Common.{ap, sym, ◌∙◌}
use Rattle.aud_meaning.specs.Tasks as effect
use Rattle.aud_calls.specs.declared.calls.Call.{Call}
use Rattle.aud_calls.specs.declared.slot.Slot.{Slot}
use Rattle.aud_calls.specs.View.{plain_call, plain_slot}
use Rattle.aud_calls.proofs.slot.Slot.retarget_kept.Goals as goal

pub returns-in-Kept-clause-does : goal.returns-in-Kept-clause-does
returns-in-Kept-clause-does c = λ go plan barrier.
    let vs = c.args.values.items in
    c.retarget.ensures.does go plan barrier
    ∙ ap (λ (a : Call). effect.retargeted go plan barrier c.args.again vs (plain_call a)) c.deref_mut.ensures.value
    ∙ ap (λ (s : Slot). effect.retargeted go plan barrier c.args.again vs (plain_slot s)) (sym c.in-Kept.is)
