-- A null statement has no instructions (RM 5.1).
use Rattle.std.proofs.Common.{refl}
use Rattle.aud_layout.specs.Asking.{NullLaw}

pub null_law : NullLaw
null_law at loops s = refl
