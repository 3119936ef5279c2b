use Rattle.std.proofs.Common.{◌≡◌, ap, sym, ◌∙◌}
use Rattle.aud_meaning.specs.Parts.{call_of, cancels, on_own}
use Rattle.aud_meaning.specs.Tasks as effect
use Rattle.aud_abort.proofs.Withdrawals.{from_task}
use Rattle.aud_abort.proofs.aborting.lose_call.Goals.{in-Object, in-Task}
use Rattle.aud_abort.proofs.aborting.lose_call.Goals as goal

pub returns : goal.returns
returns c = λ go plan barrier.
    let old = c.args.state.now in
    let n = c.args.task in
    let told : c.match-call_owner.state ≡ on_own n (effect.withdraws_from go plan barrier (call_of c.args.id old).owner) old =
    elim c.match-call_owner.branch [
      | in-Task w ↦
          w.state-is
          ∙ sym (from_task go plan barrier w.in-Task.field-0 n old)
          ∙ ap (λ o. on_own n (effect.withdraws_from go plan barrier o) old) (sym w.in-Task.is ∙ c.call_owner.ensures)
      | in-Object w ↦
          w.state-is
          ∙ w.set_withdraw.ensures
          ∙ ap (λ o. on_own n (effect.withdraws_from go plan barrier o) old) (sym w.in-Object.is ∙ c.call_owner.ensures)
    ] in
    c.cancel.ensures ∙ ap (cancels c.args.id) told
