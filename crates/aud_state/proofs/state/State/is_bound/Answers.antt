use Rattle.std.proofs.Common.{Bool, ⊎_elim, ap, sym, ◌∙◌}
use Rattle.std.specs.Prelude.{◌||◌, ◌&&◌}
use Rattle.aud_meaning.specs.declared.state.CallState.{CallState}
use Rattle.aud_meaning.specs.Parts.{call_of, is_queued, is_selected}
use Rattle.aud_state.proofs.state.State.is_bound.Goals as goal

-- so far, of a call that stays or not
abbrev bound : Bool → CallState → Bool
bound stays s = is_selected s || (is_queued s && stays)

pub returns-in-Selected : goal.returns-in-Selected
returns-in-Selected c = ap (bound (call_of c.args.id c.args.self.now).stays) (sym c.in-Selected.is ∙ c.call_state.ensures)

pub returns-in-Queued : goal.returns-in-Queued
returns-in-Queued c = c.stays.ensures ∙ ap (bound (call_of c.args.id c.args.self.now).stays) (sym c.in-Queued.is ∙ c.call_state.ensures)

pub returns-in-Done : goal.returns-in-Done
returns-in-Done c =
    ⊎_elim (λ i. ap (bound (call_of c.args.id c.args.self.now).stays) (sym i ∙ c.call_state.ensures))
    (λ i. ap (bound (call_of c.args.id c.args.self.now).stays) (sym i ∙ c.call_state.ensures)) c.in-Done.is
