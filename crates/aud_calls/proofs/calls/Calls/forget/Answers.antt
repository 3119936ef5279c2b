use Rattle.std.proofs.Common.{List, map, ap, sym, subst, ◌∙◌}
use Rattle.aud_meaning.specs.Configuration as meaning
use Rattle.aud_meaning.specs.Parts.{contains}
use Rattle.aud_over.specs.Over.{calls_left}
use Rattle.aud_calls.specs.Queues.{AreInLine}
use Rattle.aud_calls.specs.View.{Kept, plain_slot}
use Rattle.aud_calls.proofs.CallLaws.InLine.{left_lines}
use Rattle.aud_calls.proofs.calls.Calls.forget.Goals as goal

pub invariant_of-self : goal.invariant_of-self
invariant_of-self c =
    let i = c.self.inside in
    subst (λ cs. AreInLine cs i.arrivals i.queues) (sym c.give_back.ensures)
    (left_lines (map plain_slot i.calls.items) i.arrivals i.queues c.self.invariant (λ n. contains n c.args.served.now))

pub returns : goal.returns
returns c =
    let i = c.self.inside in
    let with : List meaning.Call → Kept = λ cs. record { calls = cs; arrivals = i.arrivals } in
    ap with c.give_back.ensures
    ∙ ap (λ (w : Kept). record w { calls = calls_left (λ n. contains n c.args.served.now) 0 w.calls }) c.self.view_is
