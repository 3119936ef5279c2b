use Rattle.std.specs.Prelude.{[]}
use Rattle.std.proofs.Common.{◌≡◌, refl, sym, ap, subst, ◌∙◌}
use Rattle.aud_syntax.specs.Plain as m
use Rattle.aud_syntax.specs.Ties.View.{plain_delay, plain_other, plain_others, plain_statements}
use Rattle.aud_syntax.proofs.Opened.{or_delay_open, or_else_open}
use Rattle.aud_typed.specs.Tree as tree
use Rattle.aud_typed.specs.Ties.View.{plain_delay as plain_typed_delay, plain_form}
use Rattle.aud_typing.specs.Ties.Typing.{in_box, Leaves}
use Rattle.aud_typing.proofs.Notes.{leaves_box}
use Rattle.aud_check_bodies.specs.Delays.{delay_faults, typed_delay}
use Rattle.aud_check_bodies.specs.Selects.{form_faults, form_of}
use Rattle.aud_check_bodies.proofs.select.form_of.Goals as goal

pub returns-in_ok-waited-in-Delay : goal.returns-in_ok-waited-in-Delay
returns-in_ok-waited-in-Delay c =
    let place = c.args.scope.now in
    let old = c.args.faults.now in
    let new = c.delay.new.faults in
    let e = c.in-Delay in
    let d = plain_delay e.source in
    let waited = c.in_ok-waited-in-Delay in
    let opened : plain_other c.args.otherwise.now ≡ m.or_delay d (plain_others e.field-1.items) = ap plain_other e.is ∙ or_delay_open e.source e.field-1 in
    subst (λ z. Leaves (in_box plain_form) c.boxed.result old new (form_faults z place) (form_of z place)) (sym opened)
    (leaves_box plain_form c.boxed.result old new (delay_faults d place) _ (tree.timed (typed_delay d place)) waited.ensures.0 c.boxed.ensures (ap (λ w. tree.timed (plain_typed_delay w)) c.into_inner.ensures ∙ ap tree.timed waited.ensures.1))

pub returns-in-Else : goal.returns-in-Else
returns-in-Else c =
    let place = c.args.scope.now in
    let old = c.args.faults.now in
    let e = c.in-Else in
    let result = c.boxed-in-Else.result in
    let opened : plain_other c.args.otherwise.now ≡ m.or_else (plain_statements e.field-0) = ap plain_other e.is ∙ or_else_open e.field-0 in
    subst (λ z. Leaves (in_box plain_form) result old old (form_faults z place) (form_of z place)) (sym opened)
    (leaves_box plain_form result old old [] _ tree.conditionally refl c.boxed-in-Else.ensures refl)
