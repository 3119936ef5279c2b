use Rattle.std.proofs.Common.{◌++◌, ap, sym, subst, ◌∙◌, append-nil}
use Rattle.aud_text.specs.Ties.Adds.{Adds}
use Rattle.aud_meaning.specs.Listings.Waits.{times}
use Rattle.aud_debug.proofs.Waiting.{behind_none, behind_some}
use Rattle.aud_debug.proofs.waits.push_soonest.Goals as goal

pub returns-in-Some : goal.returns-in-Some
returns-in-Some c =
    let ts = times c.args.delays.now in
    subst (Adds c.push_until.result c.args.out.now c.push_until.new.out) (sym (behind_some ts c.in-Some.time (sym c.soonest.ensures ∙ c.in-Some.is))) c.push_until.ensures

pub returns-in-None : goal.returns-in-None
returns-in-None c =
    let out = c.args.out.now.items in
    let ts = times c.args.delays.now in
    sym (ap (λ l. out ++ l) (behind_none ts (sym c.soonest.ensures ∙ c.in-None.is)) ∙ append-nil out)
