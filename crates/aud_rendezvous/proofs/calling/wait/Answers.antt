use Rattle.std.proofs.Common.{Bool, if◌then◌else◌, ap, sym, ◌∙◌}
use Rattle.aud_meaning.specs.Parts.{arrives, call_number, new_call, on_control, stands_at_call}
use Rattle.aud_code.specs.Control.{going}
use Rattle.aud_calls.specs.View.{made_call}
use Rattle.aud_rendezvous.proofs.calling.wait.Goals as goal

pub returns-then-is_conditional : goal.returns-then-is_conditional
returns-then-is_conditional c = λ plan barrier alternative task.
    let go = going c.args.code.now in
    let call = made_call c.args.call in
    let old = c.args.state.now in
    let queued = arrives (call_number old) (stands_at_call call.caller (call_number old) call.at (new_call call old)) in
    c.take.ensures
    ∙ ap (λ (b : Bool). if b then on_control call.caller (go.takes 1) old else queued) (sym c.if-is_conditional.true ∙ c.is_conditional.ensures go plan barrier)

pub returns : goal.returns
returns c = λ plan barrier alternative task.
    let go = going c.args.code.now in
    let call = made_call c.args.call in
    let old = c.args.state.now in
    let queued = arrives (call_number old) (stands_at_call call.caller (call_number old) call.at (new_call call old)) in
    c.in_ok-arrive.ensures
    ∙ ap (λ s. arrives c.in_ok-id.id s) c.stand_at_call.ensures
    ∙ ap (λ s. arrives c.in_ok-id.id (stands_at_call call.caller c.in_ok-id.id call.at s)) c.in_ok-id.ensures.made
    ∙ ap (λ i. arrives i (stands_at_call call.caller i call.at (new_call call old))) c.in_ok-id.ensures.number
    ∙ ap (λ (b : Bool). if b then on_control call.caller (go.takes 1) old else queued) (sym c.if-is_conditional.false ∙ c.is_conditional.ensures go plan barrier)
