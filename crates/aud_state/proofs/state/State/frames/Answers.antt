use Rattle.std.proofs.Common.{ap, sym, ◌∙◌, arith, map}
use Rattle.aud_meaning.specs.Configuration.{Opened, Own}
use Rattle.aud_state.proofs.TaskLaws.Changed.{own_at, own_none}
use Rattle.aud_state.proofs.state.State.frames.Goals as goal

pub returns-then-task-len : goal.returns-then-task-len
returns-then-task-len c = rw (own_at c.self.inside.tasks.items c.self.inside.progress c.self.inside.calls c.self.inside.objects.items c.args.task c.index-found.result.now c.args.self.now (omega arith) c.index-found.ensures c.self.view_is) (rw c.stack.ensures at c.frames.ensures)

pub returns : goal.returns
returns c = c.new.ensures.items ∙ ap (λ (o : Own). map (λ (x : Opened). x.frame) o.opened) (sym (own_none c.self.inside.tasks.items c.self.inside.progress c.self.inside.calls c.self.inside.objects.items c.args.task c.args.self.now (omega arith) c.self.view_is))
