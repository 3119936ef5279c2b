use Rattle.std.proofs.Common.{◌≡◌, List, None, ap, ◌∙◌, map}
use Rattle.std.specs.Prelude.{◌&&◌, is_some, nat_eq}
use Rattle.aud_text.specs.declared.raise.Raise.TheVariants.{Tasking}
use Rattle.aud_meaning.specs.declared.state.Status.TheVariants.{Completed}
use Rattle.aud_meaning.specs.Configuration.{All, Opened, TaskAt}
use Rattle.aud_meaning.specs.Parts.{any, is_created, no_waits, numbers, on_own, own_of}
use Rattle.aud_meaning.specs.Tasks as effect
use Rattle.aud_code.specs.Control.{going}
use Rattle.aud_code.specs.Places.{Spot}
use Rattle.aud_masters.proofs.Beginning.{created_same}
use Rattle.aud_masters.proofs.completion.complete.Goals as goal

pub returns : goal.returns
returns c = λ plan barrier.
    let go = going c.args.code.now in
    let old = c.args.state.now in
    let n = c.args.task in
    let opened : List Opened = (own_of n old).opened in
    let done : All Spot = on_own n (λ own. record own { status = Completed; pending = None; raised = c.args.raised; waits = no_waits }) old in
    let accepts : c.deref-2.result.now ≡ effect.accepts_under_way go plan barrier opened = c.deref-2.ensures.value ∙ c.in_ok-accepts.ensures go plan barrier in
    let parts : c.deref.result.now ≡ map (λ (o : Opened). o.frame) opened = c.deref.ensures.value ∙ c.in_ok-parts.ensures in
    let created : c.deref-3.result.now ≡ numbers (effect.created_in go plan barrier opened) 0 old.tasks =
    c.deref-3.ensures.value ∙ c.in_ok-created.ensures
    ∙ ap (λ ps. numbers (λ (t : TaskAt Spot). is_created t.own.status && any (λ p. nat_eq p t.own.part) ps) 0 old.tasks) parts
    ∙ created_same go plan barrier opened old.tasks 0 in
    c.end_activation.ensures plan barrier
    ∙ ap (λ b. effect.activation_ended go plan barrier b n c.terminate_all.new.state) c.is_some.ensures
    ∙ ap (λ s. effect.activation_ended go plan barrier (is_some c.args.raised) n s)
    (c.in_ok-terminate_all.ensures plan barrier
    ∙ ap (λ s. effect.terminate_all go plan barrier c.deref-3.result.now s)
    (c.in_ok-refuse_queues.ensures plan barrier
    ∙ ap (λ s. effect.refuse_queues go plan barrier n s)
    (c.refuse.ensures plan barrier
    ∙ ap (λ s. effect.refuse go plan barrier Tasking c.deref-2.result.now s) c.complete_own.ensures
    ∙ ap (λ ids. effect.refuse go plan barrier Tasking ids done) accepts))
    ∙ ap (λ ns. effect.terminate_all go plan barrier ns (effect.refuse_queues go plan barrier n (effect.refuse go plan barrier Tasking (effect.accepts_under_way go plan barrier opened) done))) created)
