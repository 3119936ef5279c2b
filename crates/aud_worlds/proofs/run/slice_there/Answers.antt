use Rattle.aud_hall.specs.Ties.Said.{cut_in}
use Rattle.aud_worlds.proofs.Running.{slices_there}
use Rattle.aud_worlds.proofs.run.slice_there.Goals as goal

pub returns-in-Some : goal.returns-in-Some
returns-in-Some c =
    let e = c.slice.ensures in
    slices_there c.args.units c.in-Some.parcel c.slice.new.self (cut_in c.slice.new.self.bench.spent c.slice.result.done) c.slice.result e.parcel e.done e.left c.args.there.now c.in-Some.is
