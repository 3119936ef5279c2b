use Rattle.std.proofs.Common.{◌≡◌, drop}
use Rattle.aud_meaning.specs.Parts.{acts_on, any}
use Rattle.aud_state.specs.declared.object.Object.{Object}
use Rattle.aud_state.specs.View.{plain_object}
use Rattle.aud_state.proofs.found.is_acting.Given as goal

abbrev pub invariant-loop-object : goal.invariant-loop-object
invariant-loop-object l = any (λ (o : Object). acts_on l.task (plain_object o)) (drop l.object-index l.objects) ≡ any (λ (o : Object). acts_on l.task (plain_object o)) l.objects
