use Rattle.std.proofs.Common.{◌≡◌, ℕ, List, [], false, ap, sym, ◌∙◌, subst, rules}
use Rattle.aud_meaning.specs.declared.state.Status.TheVariants.{Activating}
use Rattle.aud_meaning.specs.Effects.{innermost}
use Rattle.aud_meaning.specs.Parts.{blocks, no_waits, on_own, own_of}
use Rattle.aud_meaning.specs.Tasks as effect
use Rattle.aud_code.specs.Control.{going}
use Rattle.aud_masters.proofs.Beginning.{activates_some}
use Rattle.aud_masters.proofs.activation.begin_activation.Goals as goal

pub returns : goal.returns
returns c = λ plan has barrier.
    let go = going c.args.code.now in
    let old = c.args.state.now in
    let n = c.args.task in
    let ns : List ℕ = effect.not_activated go plan barrier (innermost (own_of n old).opened) old in
    let found : c.in_ok-created.created.items ≡ ns = c.in_ok-created.ensures ∙ ap (λ p. effect.not_activated go plan barrier p old) c.innermost-part.ensures in
    let some : c.in_ok-created.created.items ≡ [] → ⊥ = λ e. search rules in
    c.in_ok-begin_all.ensures go plan has barrier
    ∙ ap (λ s. effect.begin_all go plan barrier n c.deref.result.now s) c.block_activating.ensures
    ∙ ap (λ ms. effect.begin_all go plan barrier n ms (on_own n (λ own. record (blocks Activating c.args.at no_waits own) { failed = false }) old)) (c.deref.ensures.value ∙ found)
    ∙ sym (activates_some go plan barrier c.args.at n ns old (subst (λ ms. ms ≡ [] → ⊥) found some))
