use Rattle.std.proofs.Common.{Bool, ap, sym, ◌∙◌, arith}
use Rattle.std.specs.Prelude.{◌||◌}
use Rattle.aud_meaning.specs.Parts.{contains}
use Rattle.aud_over.specs.Over.{object_names}
use Rattle.aud_calls.proofs.Lists.{all_more, around_more, one_more}
use Rattle.aud_state.specs.declared.object.Object.{Object}
use Rattle.aud_state.specs.View.{plain_object}
use Rattle.aud_state.proofs.Numbered.{any_map}
use Rattle.aud_state.proofs.forget.put_around.Goals as goal

pub loop-object-preserved : goal.loop-object-preserved
loop-object-preserved c = λ frame.
    let p : Object → Bool = λ z. object_names frame (plain_object z) in
    one_more p c.args.objects.now c.loop-object.object-index c.object-item.result (contains frame c.loop-object.kept.items) (contains frame c.extend_from_slice.new.self.items) (omega arith) c.object-item.is
    (around_more frame c.loop-object.kept.items c.deref.result.now c.extend_from_slice.new.self.items c.object-item.result.display.items c.in_ok-extend_from_slice.ensures.items c.deref.ensures.value)
    ∙ c.loop-object.invariant frame

pub returns : goal.returns
returns c = λ frame.
    let p : Object → Bool = λ z. object_names frame (plain_object z) in
    sym (all_more p c.args.objects.now c.loop-object.object-index (contains frame c.loop-object.kept.items) (omega arith))
    ∙ c.loop-object.invariant frame
    ∙ ap (λ b. contains frame c.args.kept.now.items || b) (sym (any_map plain_object (object_names frame) c.args.objects.now))
