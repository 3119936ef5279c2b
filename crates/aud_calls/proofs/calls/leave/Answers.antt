use Rattle.std.proofs.Common.{ap, sym, ◌∙◌}
use Rattle.aud_meaning.specs.Parts.{owner_number}
use Rattle.aud_calls.specs.Queues.{waiting}
use Rattle.aud_calls.specs.View.{plain_slot}
use Rattle.aud_calls.proofs.CallLaws.InLine.{leaves, stays}
use Rattle.aud_calls.proofs.calls.leave.Goals as goal

pub returns-then-is_queued : goal.returns-then-is_queued
returns-then-is_queued c = λ o e.
    leaves o e c.args.id c.number_of.result (plain_slot c.args.slot.now) (waiting o e c.args.queues.now) (waiting o e c.leave.new.self) (sym c.is_queued.ensures ∙ c.if-is_queued.true) (c.number_of.ensures ∙ ap owner_number c.owner.ensures) (rw c.entry.ensures at (c.leave.ensures o e))

pub returns-else-is_queued : goal.returns-else-is_queued
returns-else-is_queued c = λ o e.
    stays o e c.args.id (plain_slot c.args.slot.now) (waiting o e c.args.queues.now) (sym c.is_queued.ensures ∙ c.if-is_queued.false)
