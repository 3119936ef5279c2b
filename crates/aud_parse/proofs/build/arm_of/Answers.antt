use Rattle.std.proofs.Common.{sym}
use Rattle.aud_parse.proofs.build.arm_of.Goals as goal

pub returns : goal.returns
returns c = rw (sym c.into_inner.ensures, sym c.into_inner-2.ensures) c.boxed.ensures
