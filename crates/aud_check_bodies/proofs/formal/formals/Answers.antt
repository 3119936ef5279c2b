use Rattle.std.proofs.Common.{◌+◌, drop, map, ap, arith}
use Rattle.std.proofs.lemmas.List.{drop_all}
use Rattle.aud_syntax.specs.Ties.View.{plain_formal}
use Rattle.aud_syntax.proofs.Written.{dropped}
use Rattle.aud_check_bodies.specs.Formals.{checked_formals}
use Rattle.aud_names.specs.Ties.Regions.{plain_region, plain_regions}
use Rattle.aud_check_bodies.proofs.Passing.{formals_begin, formals_ahead, formals_end}
use Rattle.aud_check_bodies.proofs.formal.formals.Goals as goal

pub loop-next-init : goal.loop-next-init
loop-next-init c = formals_begin c.args.faults.now (plain_region c.args.region.now) c.in_ok-profile.profile.items (map plain_formal c.args.formals.now) (plain_regions c.args.outer.now) c.in_ok-profile.ensures.items

pub loop-next-preserved : goal.loop-next-preserved
loop-next-preserved c =
    let i = c.loop-next.next-index in
    let all = checked_formals (map plain_formal c.args.formals.now) (plain_region c.args.region.now) (plain_regions c.args.outer.now) in
    formals_ahead (plain_regions c.args.outer.now) c.args.faults.now c.loop-next.faults c.formal.new.faults (plain_region c.loop-next.region) (plain_region c.formal.new.region) c.loop-next.profile.items c.formal.new.profile.items all (plain_formal c.next-item.result)
    (map plain_formal (drop (i + 1) c.args.formals.now)) (map plain_formal (drop i c.args.formals.now)) (ap (map plain_formal) (dropped c.args.formals.now i c.next-item.result (omega arith) c.next-item.is)) c.loop-next.invariant c.in_ok-formal.ensures

pub returns : goal.returns
returns c =
    let all = checked_formals (map plain_formal c.args.formals.now) (plain_region c.args.region.now) (plain_regions c.args.outer.now) in
    formals_end (plain_regions c.args.outer.now) c.args.faults.now c.loop-next.faults (plain_region c.loop-next.region) c.loop-next.profile.items all (map plain_formal (drop c.loop-next.next-index c.args.formals.now)) (ap (map plain_formal) (drop_all c.loop-next.next-index c.args.formals.now c.loop-next-test.false)) c.loop-next.invariant
