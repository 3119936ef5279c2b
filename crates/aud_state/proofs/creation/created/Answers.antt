use Rattle.std.proofs.Common.{◌≡◌, ◌++◌, List, None, false, filter, map, ap, sym, ◌∙◌}
use Rattle.aud_typed.specs.Tree.{UnitPlan}
use Rattle.aud_typed.specs.Ties.View.{plain_tasks}
use Rattle.aud_meaning.specs.declared.state.Status.TheVariants.{Created}
use Rattle.aud_meaning.specs.Configuration.{Opened, Own, Waits}
use Rattle.aud_meaning.specs.Effects.{innermost}
use Rattle.aud_meaning.specs.Parts.{is_master, masters_under_way, no_waits, task_name}
use Rattle.aud_meaning.specs.Ties.Stack.{Stack}
use Rattle.aud_sequential.specs.Parked.{Parked, created}
use Rattle.aud_sequential.specs.Shown.{plans_of}
use Rattle.aud_state.specs.Condition.{Condition}
use Rattle.aud_state.specs.View.{element_name, plain_task}
use Rattle.aud_state.proofs.TaskLaws.Creating.{made}
use Rattle.aud_state.proofs.creation.created.Goals as goal

pub returns : goal.returns
returns c = λ plan has typed barrier.
    let ts = plain_tasks c.args.tasks.now in
    let creator = c.args.creator.now in
    let own : Own = (plain_task creator).own in
    let type = c.args.tasks.now.task_type in
    let code = c.args.code.now in
    let named = task_name ts c.args.index in
    let stack : c.stack-stack.result.now ≡ creator.parked.stack = c.stack-stack.ensures in
    let name : element_name c.in_ok-name.name c.element_of-element.result ≡ named = ap (λ n. element_name n c.element_of-element.result) c.in_ok-name.ensures ∙ c.element_of-element.ensures in
    let part : c.innermost_number-part.result ≡ innermost own.opened = c.innermost_number-part.ensures ∙ ap (λ (s : Stack). innermost s.opened) stack in
    let under_way : c.in_ok-masters.masters.items ≡ map (λ (o : Opened). o.frame) (filter is_master own.opened) = c.in_ok-masters.ensures ∙ ap (λ (s : Stack). map (λ (o : Opened). o.frame) (filter is_master s.opened)) stack in
    let masters : c.extend_from_slice.new.self.items ≡ masters_under_way own =
    c.in_ok-extend_from_slice.ensures.items ∙ ap (λ ms. c.in_ok-masters.masters.items ++ ms) c.deref.ensures.value ∙ ap (λ ms. ms ++ creator.masters.items) under_way in
    let parked : c.in_ok-parked.parked ≡ created code (plans_of c.args.units.now) c.args.unit own.display =
    c.in_ok-parked.ensures ∙ ap (created code (plans_of c.args.units.now) c.args.unit) (c.display.ensures ∙ ap (λ (s : Stack). s.display) stack) in
    let fresh : Condition = record { status = Created; waits = no_waits; serving = None; abnormal = false } in
    let condition : c.new-condition.result ≡ fresh = c.new-condition.ensures ∙ ap (λ (w : Waits). record { status = Created; waits = w; serving = None; abnormal = false }) c.none-waits.ensures in
    ap (λ n. made n type c.args.unit c.in_ok-parked.parked c.extend_from_slice.new.self.items c.innermost_number-part.result c.new-condition.result) name
    ∙ ap (λ (p : Parked). made named type c.args.unit p c.extend_from_slice.new.self.items c.innermost_number-part.result c.new-condition.result) parked
    ∙ ap (λ ms. made named type c.args.unit (created code (plans_of c.args.units.now) c.args.unit own.display) ms c.innermost_number-part.result c.new-condition.result) masters
    ∙ ap (λ k. made named type c.args.unit (created code (plans_of c.args.units.now) c.args.unit own.display) (masters_under_way own) k c.new-condition.result) part
    ∙ ap (λ (d : Condition). made named type c.args.unit (created code (plans_of c.args.units.now) c.args.unit own.display) (masters_under_way own) (innermost own.opened) d) condition
    ∙ ap (λ (us : List UnitPlan). made named type c.args.unit (created code us c.args.unit own.display) (masters_under_way own) (innermost own.opened) fresh) (sym has)
    ∙ ap (λ u. made named type u (created code plan.units u own.display) (masters_under_way own) (innermost own.opened) fresh) (sym typed)
