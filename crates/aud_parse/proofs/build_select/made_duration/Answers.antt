use Rattle.std.proofs.Common.{sym}
use Rattle.aud_parse.proofs.build_select.made_duration.Goals as goal

pub returns : goal.returns
returns c = rw (sym c.into_inner.ensures) c.boxed.ensures
