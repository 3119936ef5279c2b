use Rattle.std.proofs.Common.{◌≡◌, List, ℕ, if◌then◌else◌, ap, sym, ◌∙◌}
use Rattle.aud_text.specs.declared.raise.Raise.TheVariants.{Program}
use Rattle.aud_meaning.specs.Configuration.{All}
use Rattle.aud_meaning.specs.Parts.{on_control, raised_at}
use Rattle.aud_meaning.specs.Tasks as effect
use Rattle.aud_code.specs.Control.{going}
use Rattle.aud_code.specs.Places.{Spot}
use Rattle.aud_abort.proofs.aborting.abort.Goals as goal

pub returns : goal.returns
returns c = λ plan barrier.
    let go = going c.args.code.now in
    let old = c.args.state.now in
    let n = c.args.n in
    let named = c.args.named.now in
    let bodies = effect.bodies_of go plan barrier named old in
    let hit : List ℕ = effect.hit_from go plan barrier named bodies 0 old.tasks in
    let passed : All Spot = on_control n (go.takes 0) old in
    let found : c.deref-2.result.now ≡ hit =
    c.deref-2.ensures.value ∙ c.in_ok-hit.ensures go plan barrier
    ∙ ap (λ bs. effect.hit_from go plan barrier named bs 0 old.tasks) (c.deref.ensures.value ∙ c.in_ok-bodies.ensures go plan barrier) in
    c.in_ok-abort_all.ensures plan barrier
    ∙ ap (λ s. effect.aborted go plan barrier c.deref-2.result.now s) c.take.ensures
    ∙ ap (λ ns. effect.aborted go plan barrier ns passed) found
    ∙ sym (ap (λ b. if b then raised_at Program c.args.at n old else effect.aborted go plan barrier hit passed) (sym c.in_action.ensures ∙ c.if-in_action.false))
