use Rattle.std.proofs.Common.{Bool, drop, sym, ap, ◌∙◌, arith}
use Rattle.std.specs.Prelude.{◌≡◌}
use Rattle.aud_meaning.specs.Configuration.{TaskAt}
use Rattle.aud_meaning.specs.Parts.{any, depends}
use Rattle.aud_code.specs.Places.{Spot}
use Rattle.aud_state.specs.declared.task.Task.{Task}
use Rattle.aud_state.specs.View.{plain_task}
use Rattle.aud_state.proofs.Numbered.{any_map, any_there}
use Rattle.aud_state.proofs.found.depend.Goals as goal

pub returns-then-depends_on : goal.returns-then-depends_on
returns-then-depends_on c =
    let p : Task → Bool = λ z. depends c.args.master (plain_task z).own in
    sym (any_map plain_task (λ (t : TaskAt Spot). depends c.args.master t.own) c.args.tasks.now
    ∙ any_there p c.args.tasks.now _ c.index-tasks-n.result (omega arith) c.index-tasks-n.is (sym c.depends_on.ensures ∙ c.if-depends_on.true))

pub returns : goal.returns
returns c =
    let p : Task → Bool = λ z. depends c.args.master (plain_task z).own in
    let none : c.loop-n.n ≡ 0 = omega arith in
    sym (any_map plain_task (λ (t : TaskAt Spot). depends c.args.master t.own) c.args.tasks.now
    ∙ ap (λ k. any p (drop k c.args.tasks.now)) (sym none)
    ∙ c.loop-n.invariant)
