use Rattle.std.proofs.Common.{◌≡◌, Bool, true, false, not, Option, None, Some, refl, sym, subst, ◌∙◌, arith}
use Rattle.std.specs.Option.{is_some}
use Rattle.std.specs.Prelude.{slice_get}
use Rattle.aud_typed.specs.Tree.{Plan}
use Rattle.aud_meaning.specs.Evaluation.{Sight}
use Rattle.aud_state.specs.Reads.{coming_by, LeavesBy}
use Rattle.aud_meaning.specs.declared.state.Pending.{Pending}
use Rattle.aud_meaning.specs.Parts.{own_of}
use Rattle.aud_tasks.proofs.Running.Leaving.{leaving_there}
use Rattle.aud_tasks.proofs.StepLaws.Stepping.{task_there}
use Rattle.aud_tasks.proofs.leaving.leaves_alone.Goals as goal

none_pending : (p : Option Pending) → is_some p ≡ false → p ≡ None
none_pending None h = refl
none_pending (Some p) h = absurd cc

free : (b : Bool) → not b ≡ true → b ≡ false
free false is = refl
free true is = absurd cc

pub returns-clause-leaves : goal.returns-clause-leaves
returns-clause-leaves c = λ yes.
    let s = c.args.state.now in
    let t = task_there s.tasks c.args.task (omega arith) in
    leaving_there c.args.code.now s c.args.task t.0 t.1
    (sym c.pending.ensures ∙ none_pending c.pending.result (sym c.is_some.ensures ∙ c.if-is_some.false))
    (sym c.is_cut.ensures ∙ c.if-is_cut.false) c.len-2.ensures.plain
    c.place-place.result (c.place-place.ensures t.0 t.1) c.in-Some.end.now c.in-Some.ensures.some (c.ends_construct.ensures c.if-not-ends_construct.false)
    c.in-Some-master_left.master (subst (λ m. (plan : Plan) (v : Sight) → LeavesBy (own_of c.args.task s) m (coming_by c.args.code.now plan v (slice_get s.tasks c.args.task))) c.in-Some-master_left.is c.master_left.ensures) (sym c.has_dependents.ensures ∙ free c.has_dependents.result yes)
