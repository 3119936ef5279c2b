use Rattle.std.proofs.Common.{◌≡◌, List, Some, None, sym, ap, ◌∙◌, subst}
use Rattle.aud_bench.specs.declared.request.Request.{Request}
use Rattle.aud_hall.specs.Halls.{place_at}
use Rattle.aud_hall.specs.Ties.Places.{asked_at, limits_at}
use Rattle.aud_pass.specs.declared.fault.DeskFault.TheVariants.{NotThisDesk}
use Rattle.aud_pass.specs.Passed.{Passed}
use Rattle.aud_pass.specs.Sections.{parted, or_parted, not_there}
use Rattle.aud_pass.proofs.Places.{others, own}
use Rattle.aud_pass.proofs.sections.not_there.Goals as goal

pub returns-then-ne-clause-why : goal.returns-then-ne-clause-why
returns-then-ne-clause-why c =
    let p : Passed = record { seat = c.pass.inside.seat; limits = c.pass.inside.limits; sent = c.pass.inside.sent.items; got = c.pass.inside.got.items } in
    let o = place_at c.args.hall.now c.pass.inside.seat in
    let limits : limits_at o ≡ Some c.in-Some.limits = sym c.limits_at.ensures ∙ c.in-Some.is in
    let asked : asked_at o ≡ Some c.in-Some-asked.stored.now = c.in-Some-asked.ensures.requests in
    subst (λ (x : Passed). Some (NotThisDesk 0) ≡ not_there x (place_at c.args.hall.now x.seat)) c.pass.view_is
    (others p o c.in-Some.limits c.in-Some-asked.stored.now limits asked c.ne.result c.ne.ensures c.if-ne.true)

pub returns-in-Some-parted-clause-why : goal.returns-in-Some-parted-clause-why
returns-in-Some-parted-clause-why c =
    let p : Passed = record { seat = c.pass.inside.seat; limits = c.pass.inside.limits; sent = c.pass.inside.sent.items; got = c.pass.inside.got.items } in
    let o = place_at c.args.hall.now c.pass.inside.seat in
    let limits : limits_at o ≡ Some c.in-Some.limits = sym c.limits_at.ensures ∙ c.in-Some.is in
    let asked : asked_at o ≡ Some c.in-Some-asked.stored.now = c.in-Some-asked.ensures.requests in
    let place : Some c.in-Some-parted.place ≡ parted p.sent c.in-Some-asked.stored.now = sym c.in-Some-parted.is ∙ c.parted.ensures ∙ ap (λ (rs : List Request). parted rs c.in-Some-asked.stored.now) c.deref.ensures.value in
    subst (λ (x : Passed). Some (NotThisDesk c.in-Some-parted.place) ≡ not_there x (place_at c.args.hall.now x.seat)) c.pass.view_is
    (ap or_parted place ∙ own p o c.in-Some.limits c.in-Some-asked.stored.now limits asked c.ne.result c.ne.ensures c.if-ne.false)

pub returns-in-None-clause-why : goal.returns-in-None-clause-why
returns-in-None-clause-why c =
    let p : Passed = record { seat = c.pass.inside.seat; limits = c.pass.inside.limits; sent = c.pass.inside.sent.items; got = c.pass.inside.got.items } in
    let o = place_at c.args.hall.now c.pass.inside.seat in
    let limits : limits_at o ≡ Some c.in-Some.limits = sym c.limits_at.ensures ∙ c.in-Some.is in
    let asked : asked_at o ≡ Some c.in-Some-asked.stored.now = c.in-Some-asked.ensures.requests in
    let same : None ≡ parted p.sent c.in-Some-asked.stored.now = sym c.in-None.is ∙ c.parted.ensures ∙ ap (λ (rs : List Request). parted rs c.in-Some-asked.stored.now) c.deref.ensures.value in
    subst (λ (x : Passed). None ≡ not_there x (place_at c.args.hall.now x.seat)) c.pass.view_is
    (ap or_parted same ∙ own p o c.in-Some.limits c.in-Some-asked.stored.now limits asked c.ne.result c.ne.ensures c.if-ne.false)
