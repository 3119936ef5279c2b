use Rattle.std.proofs.Common.{ap, ◌∙◌}
use Rattle.std.specs.Prelude.{◌||◌}
use Rattle.aud_meaning.specs.Parts.{any, contains}
use Rattle.aud_store.specs.Ties.Stored.{served_in}
use Rattle.aud_over.specs.Over.{is_for, is_made_again}
use Rattle.aud_meaning.specs.Configuration.{Opened}
use Rattle.aud_calls.proofs.Lists.{around_more}
use Rattle.aud_state.specs.View.{plain_task}
use Rattle.aud_state.proofs.CallsGiven.{serves_same}
use Rattle.aud_state.proofs.Giving.{turned_behind}
use Rattle.aud_state.proofs.task.Task.put_served.Goals as goal

pub returns : goal.returns
returns c = λ id.
    let opened = (plain_task c.args.self.now).own.opened in
    let before = contains id c.args.served.now.items in
    let again = is_made_again id c.args.self.now.restart in
    c.in_ok-put_restart.ensures id
    ∙ ap (λ b. b || again) (around_more id c.args.served.now.items c.deref.result.now c.extend_from_slice.new.self.items (served_in opened) c.in_ok-extend_from_slice.ensures.items (c.deref.ensures.value ∙ (rw c.stack.ensures at c.in_ok-own.ensures))
    ∙ ap (λ b. before || b) (serves_same id opened))
    ∙ turned_behind before (any (λ (o : Opened). is_for id o.purpose) opened) again
