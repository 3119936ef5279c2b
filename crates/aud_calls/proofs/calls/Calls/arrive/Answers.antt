use Rattle.std.proofs.Common.{List, suc, ap, refl, ◌∙◌}
use Rattle.aud_meaning.specs.declared.state.CallState.TheVariants.{Done, Queued}
use Rattle.aud_meaning.specs.Configuration as meaning
use Rattle.aud_meaning.specs.Parts.{changed}
use Rattle.aud_calls.specs.View.{Kept}
use Rattle.aud_calls.proofs.CallLaws.InLine.{changed_twice, idle_now}
use Rattle.aud_calls.proofs.calls.Calls.arrive.Goals as goal

pub put_last-requires : goal.put_last-requires
put_last-requires c = rw c.settle.ensures (idle_now (λ a. record a { state = Done }) c.args.id c.args.self.now.calls (λ a. refl))

pub returns : goal.returns
returns c =
    let old = c.args.self.now in
    let arrives : meaning.Call → meaning.Call = λ a. record a { state = Queued; arrival = old.arrivals } in
    c.in_ok-put_last.ensures
    ∙ ap (λ (w : Kept). record w { calls = changed c.args.id (λ a. record a { state = Queued; arrival = w.arrivals }) w.calls; arrivals = suc w.arrivals }) c.settle.ensures
    ∙ ap (λ (cs : List meaning.Call). record old { calls = cs; arrivals = suc old.arrivals }) (changed_twice arrives (λ a. record a { state = Done }) c.args.id old.calls)
