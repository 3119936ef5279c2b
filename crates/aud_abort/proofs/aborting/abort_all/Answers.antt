use Rattle.std.proofs.Common.{ap, ◌∙◌}
use Rattle.aud_meaning.specs.Tasks as effect
use Rattle.aud_code.specs.Control.{going}
use Rattle.aud_abort.specs.Aborting.{each_cancelled}
use Rattle.aud_abort.proofs.aborting.abort_all.Goals as goal

pub returns : goal.returns
returns c = λ plan barrier.
    let go = going c.args.code.now in
    let hit = c.args.hit.now in
    c.in_ok-terminate_created.ensures plan barrier
    ∙ ap (λ s. effect.each go plan barrier (effect.terminates_created go plan barrier) hit s)
    (c.in_ok-refuse_all.ensures plan barrier
    ∙ ap (λ s. effect.each go plan barrier (effect.refuse_queues go plan barrier) hit s)
    (c.in_ok-cancel_all.ensures go plan barrier
    ∙ ap (λ s. each_cancelled go plan barrier hit s) (c.mark_all.ensures go plan barrier)))
