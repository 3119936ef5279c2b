use Rattle.std.proofs.Common.{sym}
use Rattle.aud_check_bodies.proofs.Passing.{counted}
use Rattle.aud_check_bodies.proofs.argument.are_as_many.Goals as goal

pub returns : goal.returns
returns c = sym (counted c.args.profile.now c.args.args.now)
