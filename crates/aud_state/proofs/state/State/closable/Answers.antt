use Rattle.std.proofs.Common.{Bool, ap, not, sym, ◌∙◌, arith}
use Rattle.std.specs.Prelude.{◌&&◌}
use Rattle.aud_meaning.specs.Configuration.{TaskAt}
use Rattle.aud_meaning.specs.Parts.{Closable, depends, may_terminate}
use Rattle.aud_code.specs.Places.{Spot}
use Rattle.aud_state.specs.declared.task.Task.{Task}
use Rattle.aud_state.specs.View.{plain_task}
use Rattle.aud_state.proofs.Numbered.{any_map, any_there}
use Rattle.aud_state.proofs.state.State.closable.Goals as goal

pub returns-then-holds : goal.returns-then-holds
returns-then-holds c =
    let s = c.self.inside in
    let p : Task → Bool = λ z. depends c.args.master (plain_task z).own && not (may_terminate (plain_task z).own) in
    sym (ap not (any_map plain_task (λ (t : TaskAt Spot). depends c.args.master t.own && not (may_terminate t.own)) s.tasks.items
    ∙ any_there p s.tasks.items s.last_mover c.index.result.now (omega arith) c.index.ensures (sym c.holds.ensures ∙ c.if-holds.true)))
    ∙ ap (Closable c.args.master) c.self.view_is
