use Rattle.std.proofs.Common.{sym}
use Rattle.aud_parse.proofs.build_select.guarded_of.Goals as goal

pub returns : goal.returns
returns c = rw (sym c.unboxed.ensures, sym c.into_inner.ensures) c.boxed.ensures
