use Rattle.std.proofs.Common.{refl, sym, ap, subst}
use Rattle.aud_hall.specs.Ties.Said.{is_memory, said, said_answers}
use Rattle.aud_worlds.specs.declared.event.Event.{Event as Call}
use Rattle.aud_worlds.specs.declared.event.Event.TheVariants as call
use Rattle.aud_worlds.specs.World.{World, Claim, Submit, Collect, Free, in_hall}
use Rattle.aud_worlds.specs.Ties.Runs.{seen, Makes}
use Rattle.aud_worlds.proofs.run.happen.Goals as goal

pub returns-in-Claim : goal.returns-in-Claim
returns-in-Claim c =
    let before : World = seen c.args.hall.now c.args.out.now.items in
    let after : World = seen c.claim.new.self c.args.out.now.items in
    let made : Makes (call.Claim c.in-Claim.seat) before c.accepted.result after =
    record { event = Claim c.in-Claim.seat (is_memory c.claim.result); reply = said c.claim.result; call_is = refl; happens_is = ap (in_hall before) c.claim.ensures.claims; tells = c.accepted.ensures } in
    subst (λ (e : Call). Makes e before c.accepted.result after) (sym c.in-Claim.is) made

pub returns-in-Submit : goal.returns-in-Submit
returns-in-Submit c =
    let before : World = seen c.args.hall.now c.args.out.now.items in
    let after : World = seen c.submit.new.self c.args.out.now.items in
    let made : Makes (call.Submit c.in-Submit.seat c.in-Submit.request) before c.accepted-in-Submit.result after =
    record { event = Submit c.in-Submit.seat c.in-Submit.request (is_memory c.submit.result); reply = said c.submit.result; call_is = refl; happens_is = ap (in_hall before) c.submit.ensures.submits; tells = c.accepted-in-Submit.ensures } in
    subst (λ (e : Call). Makes e before c.accepted-in-Submit.result after) (sym c.in-Submit.is) made

pub returns-in-Collect : goal.returns-in-Collect
returns-in-Collect c =
    let before : World = seen c.args.hall.now c.args.out.now.items in
    let after : World = seen c.args.hall.now c.args.out.now.items in
    let made : Makes (call.Collect c.in-Collect.seat c.in-Collect.from) before c.collected.result after =
    record { event = Collect c.in-Collect.seat c.in-Collect.from (is_memory c.collect.result); reply = said_answers c.collect.result; call_is = refl; happens_is = ap (in_hall before) c.collect.ensures.collects; tells = c.collected.ensures } in
    subst (λ (e : Call). Makes e before c.collected.result after) (sym c.in-Collect.is) made

pub returns-in-Free : goal.returns-in-Free
returns-in-Free c =
    let before : World = seen c.args.hall.now c.args.out.now.items in
    let after : World = seen c.free.new.self c.args.out.now.items in
    let made : Makes (call.Free c.in-Free.seat) before c.accepted-in-Free.result after =
    record { event = Free c.in-Free.seat; reply = said c.free.result; call_is = refl; happens_is = ap (in_hall before) c.free.ensures.frees; tells = c.accepted-in-Free.ensures } in
    subst (λ (e : Call). Makes e before c.accepted-in-Free.result after) (sym c.in-Free.is) made
