use Rattle.std.proofs.Common.{Bool, sym, ◌∙◌, arith}
use Rattle.std.proofs.lemmas.List.{at_drop_all}
use Rattle.aud_meaning.specs.Parts.{acts_on, any}
use Rattle.aud_state.specs.declared.object.Object.{Object}
use Rattle.aud_state.specs.View.{plain_object}
use Rattle.aud_state.proofs.Numbered.{any_here, any_map}
use Rattle.aud_state.proofs.found.is_acting.Goals as goal

pub returns-then-acts_on : goal.returns-then-acts_on
returns-then-acts_on c =
    let p : Object → Bool = λ o. acts_on c.args.task (plain_object o) in
    sym (any_map plain_object (acts_on c.args.task) c.args.objects.now
    ∙ sym c.loop-object.invariant
    ∙ any_here p c.args.objects.now c.loop-object.object-index c.object-item.result c.loop-object-test.true c.object-item.is (sym c.acts_on.ensures ∙ c.if-acts_on.true))

pub returns : goal.returns
returns c =
    let p : Object → Bool = λ o. acts_on c.args.task (plain_object o) in
    sym (any_map plain_object (acts_on c.args.task) c.args.objects.now
    ∙ sym c.loop-object.invariant
    ∙ at_drop_all (any p) c.args.objects.now c.loop-object.object-index (omega arith))
