use Rattle.std.proofs.Common.{◌≡◌, get_or, true, false, Err, sym, ap, ◌∙◌, subst, arith}
use Rattle.aud_bench.specs.declared.request.Request.{Request}
use Rattle.aud_bench.specs.declared.bench.GiveFault.{GiveFault}
use Rattle.aud_bench.specs.Seen.{Seen as Bench, is_closed, fits_behind, with_request}
use Rattle.aud_hall.proofs.Giving.{one_given, next_fits}
use Rattle.aud_hall.proofs.seat.give_rest.Goals as goal

pub unreachable-requires : goal.unreachable-requires
unreachable-requires c =
    let requests = c.args.requests.now in
    let i = c.loop-next.next in
    let r : Request = c.in-Ok.request in
    let is : r ≡ get_or requests i r = subst (λ (x : Request). x ≡ get_or requests i x) (sym c.in-Ok.ensures) c.index-requests-next.is in
    let fitting = next_fits requests c.args.bench.now c.requires.kept c.requires.open i r c.loop-next.invariant.1 (omega arith) is in
    let fits : fits_behind c.loop-next.bench r ≡ true = ap (λ (b : Bench). fits_behind b r) c.loop-next.invariant.0 ∙ fitting.1 in
    let never : true ≡ false = sym fits ∙ c.give.ensures.room (c.in-Err-Full.is ∙ ap (λ (f : GiveFault). Err f) c.in-Err-Full.field-0-is) in
    cc

pub unreachable-requires-in-Err-Closed : goal.unreachable-requires-in-Err-Closed
unreachable-requires-in-Err-Closed c =
    let requests = c.args.requests.now in
    let i = c.loop-next.next in
    let r : Request = c.in-Ok.request in
    let is : r ≡ get_or requests i r = subst (λ (x : Request). x ≡ get_or requests i x) (sym c.in-Ok.ensures) c.index-requests-next.is in
    let fitting = next_fits requests c.args.bench.now c.requires.kept c.requires.open i r c.loop-next.invariant.1 (omega arith) is in
    let open_still : is_closed c.loop-next.bench ≡ false = ap (λ (b : Bench). is_closed b) c.loop-next.invariant.0 ∙ fitting.0 in
    let never : false ≡ true = sym open_still ∙ c.give.ensures.open (c.in-Err-Closed.is ∙ ap (λ (f : GiveFault). Err f) c.in-Err-Closed.field-0-is) in
    cc

pub loop-next-preserved : goal.loop-next-preserved
loop-next-preserved c =
    let requests = c.args.requests.now in
    let i = c.loop-next.next in
    let r : Request = c.in-Ok.request in
    let is : r ≡ get_or requests i r = subst (λ (x : Request). x ≡ get_or requests i x) (sym c.in-Ok.ensures) c.index-requests-next.is in (
      c.in-Ok-give.ensures.ok ∙ ap (λ (b : Bench). with_request b r) c.loop-next.invariant.0 ∙ one_given requests c.args.bench.now i r c.loop-next.invariant.1 (omega arith) is,
      omega (arith, c.loop-next.invariant.1),
    )
