use Rattle.std.specs.Prelude.{None}
use Rattle.aud_check_bodies.specs.Ties.Arms.{plain_accepted}
use Rattle.aud_typing.proofs.Notes.{boxes}
use Rattle.aud_check_bodies.proofs.Parts.{accepted_roll}
use Rattle.aud_check_bodies.proofs.made.accept_of.Goals as goal

pub returns : goal.returns
returns c = boxes plain_accepted c.boxed.result _ _ c.boxed.ensures (accepted_roll c.args.at c.args.entry None)
