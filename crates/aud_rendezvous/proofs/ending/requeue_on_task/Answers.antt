use Rattle.std.proofs.Common.{Bool, None, Some, if◌then◌else◌, ap, sym, ◌∙◌}
use Rattle.aud_text.specs.declared.raise.Raise.TheVariants.{Tasking}
use Rattle.aud_typed.specs.declared.program.Exception.TheVariants.{Predefined}
use Rattle.aud_meaning.specs.declared.state.Owner.TheVariants as owner
use Rattle.aud_meaning.specs.Configuration.{All}
use Rattle.aud_meaning.specs.Parts.{arrives, call_of, cancels, fails, is_callable, on_call, open_alternatives, own_of}
use Rattle.aud_meaning.specs.Tasks as effect
use Rattle.aud_code.specs.Control.{going}
use Rattle.aud_code.specs.Places.{Spot}
use Rattle.aud_state.specs.Chosen.{chosen}
use Rattle.aud_rendezvous.proofs.Meeting.{made_on}
use Rattle.aud_rendezvous.proofs.ending.requeue_on_task.Goals as goal

pub returns-then-is_lost : goal.returns-then-is_lost
returns-then-is_lost c = λ plan barrier at n.
    let go = going c.args.code.now in
    let id = c.args.id in
    let task = c.args.task in
    let old = c.args.state.now in
    let again = effect.made_again go plan barrier c.args.alternative (open_alternatives (own_of task old) (call_of id old).entry) id task (on_call id (effect.called_of go plan barrier (owner.Task task)) old) in
    let failed = effect.end_call go plan barrier (fails (Predefined Tasking)) id old in
    c.cancel.ensures
    ∙ ap (λ (b : Bool). if b then cancels id old else if is_callable (own_of task old) then again else failed) (sym c.if-is_lost.true ∙ c.is_lost.ensures go plan barrier)

pub returns-then-not-is_callable : goal.returns-then-not-is_callable
returns-then-not-is_callable c = λ plan barrier at n.
    let go = going c.args.code.now in
    let id = c.args.id in
    let task = c.args.task in
    let old = c.args.state.now in
    let again = effect.made_again go plan barrier c.args.alternative (open_alternatives (own_of task old) (call_of id old).entry) id task (on_call id (effect.called_of go plan barrier (owner.Task task)) old) in
    let failed = effect.end_call go plan barrier (fails (Predefined Tasking)) id old in
    c.caller_fails.ensures plan barrier
    ∙ ap (λ (b : Bool). if b then again else failed) (sym c.if-not-is_callable.true ∙ c.is_callable.ensures)
    ∙ ap (λ (b : Bool). if b then cancels id old else if is_callable (own_of task old) then again else failed) (sym c.if-is_lost.false ∙ c.is_lost.ensures go plan barrier)

pub returns-in_ok-arrive-in-None : goal.returns-in_ok-arrive-in-None
returns-in_ok-arrive-in-None c = λ plan barrier at n.
    let go = going c.args.code.now in
    let id = c.args.id in
    let task = c.args.task in
    let old = c.args.state.now in
    c.in_ok-arrive-in-None.ensures
    ∙ ap (λ (s : All Spot). arrives id s) (c.in_ok-call_on.ensures go plan barrier)
    ∙ made_on go plan barrier c.args.alternative None at id task n old
    (sym c.if-is_lost.false ∙ c.is_lost.ensures go plan barrier) (sym c.if-not-is_callable.false ∙ c.is_callable.ensures)
    (sym c.in-None.is ∙ c.open_alternative-accept.ensures ∙ ap (λ e. chosen c.args.alternative (open_alternatives (own_of task old) e)) c.call_entry.ensures)

pub returns-in_ok-meet-in-Some : goal.returns-in_ok-meet-in-Some
returns-in_ok-meet-in-Some c = λ plan barrier at n.
    let go = going c.args.code.now in
    let id = c.args.id in
    let task = c.args.task in
    let old = c.args.state.now in
    let a = c.in-Some.accept in
    c.in_ok-meet-in-Some.ensures plan barrier
    ∙ ap (λ (s : All Spot). effect.rendezvous go plan barrier a id task s) (c.in_ok-call_on.ensures go plan barrier)
    ∙ made_on go plan barrier c.args.alternative (Some a) at id task n old
    (sym c.if-is_lost.false ∙ c.is_lost.ensures go plan barrier) (sym c.if-not-is_callable.false ∙ c.is_callable.ensures)
    (sym c.in-Some.is ∙ c.open_alternative-accept.ensures ∙ ap (λ e. chosen c.args.alternative (open_alternatives (own_of task old) e)) c.call_entry.ensures)
