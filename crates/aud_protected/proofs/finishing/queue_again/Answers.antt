use Rattle.std.proofs.Common.{Bool, if◌then◌else◌, ap, sym, ◌∙◌}
use Rattle.aud_meaning.specs.declared.state.Owner.TheVariants as owner
use Rattle.aud_meaning.specs.Configuration.{All}
use Rattle.aud_meaning.specs.Parts.{arrives, cancels, on_call}
use Rattle.aud_meaning.specs.Tasks as effect
use Rattle.aud_code.specs.Control.{going}
use Rattle.aud_code.specs.Places.{Spot}
use Rattle.aud_protected.proofs.finishing.queue_again.Goals as goal

pub returns-then-is_lost : goal.returns-then-is_lost
returns-then-is_lost c = λ plan barrier.
    let go = going c.args.code.now in
    let id = c.args.id in
    let old = c.args.state.now in
    let queued = arrives id (on_call id (effect.called_of go plan barrier (owner.Object c.args.object)) old) in
    c.cancel_call.ensures
    ∙ ap (λ (b : Bool). if b then cancels id old else queued) (sym c.if-is_lost.true ∙ c.is_lost.ensures go plan barrier)

pub returns : goal.returns
returns c = λ plan barrier.
    let go = going c.args.code.now in
    let id = c.args.id in
    let old = c.args.state.now in
    let queued = arrives id (on_call id (effect.called_of go plan barrier (owner.Object c.args.object)) old) in
    c.in_ok-arrive.ensures
    ∙ ap (λ (s : All Spot). arrives id s) (c.in_ok-call_on.ensures go plan barrier)
    ∙ ap (λ (b : Bool). if b then cancels id old else queued) (sym c.if-is_lost.false ∙ c.is_lost.ensures go plan barrier)
