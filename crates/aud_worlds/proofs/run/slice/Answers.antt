use Rattle.std.proofs.Common.{arith}
use Rattle.aud_worlds.specs.Ties.Runs.{seen}
use Rattle.aud_worlds.proofs.Running.{no_slice, slice_makes}
use Rattle.aud_worlds.proofs.run.slice.Goals as goal

pub returns-then-len-parcel : goal.returns-then-len-parcel
returns-then-len-parcel c = λ hall. no_slice c.args.parcel c.args.units (seen hall c.args.out.now.items) (omega (arith, c.if-len-parcel.true, c.len.ensures, c.args.out.now.ok.0))

pub returns : goal.returns
returns c =
    λ hall.
    slice_makes c.args.parcel hall c.args.out.now.items c.args.units c.index_mut-there.result.now c.slice_there.new.there c.slice_there.result
    (omega (arith, c.if-len-parcel.false, c.len.ensures, c.args.out.now.ok.0)) c.index_mut-there.ensures.value c.slice_there.ensures
