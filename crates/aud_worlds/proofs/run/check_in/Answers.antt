use Rattle.std.proofs.Common.{arith}
use Rattle.aud_worlds.specs.Ties.Runs.{seen}
use Rattle.aud_worlds.proofs.Running.{no_check, check_makes}
use Rattle.aud_worlds.proofs.run.check_in.Goals as goal

pub returns-then-len-parcel : goal.returns-then-len-parcel
returns-then-len-parcel c = no_check c.args.parcel c.args.seat (seen c.args.hall.now c.args.out.now.items) (omega (arith, c.if-len-parcel.true, c.len.ensures, c.args.out.now.ok.0))

pub returns : goal.returns
returns c =
    check_makes c.args.parcel c.args.hall.now c.args.out.now.items c.args.seat c.check_in_from.new.hall c.index_mut-there.result.now c.check_in_from.new.there c.check_in_from.result
    (omega (arith, c.if-len-parcel.false, c.len.ensures, c.args.out.now.ok.0)) c.index_mut-there.ensures.value c.check_in_from.ensures
