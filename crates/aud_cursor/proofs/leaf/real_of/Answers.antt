use Rattle.std.proofs.Common.{refl}
use Rattle.aud_cursor.proofs.leaf.real_of.Goals as goal

pub returns : goal.returns
returns c = rw (c.real_value-whole.ensures.whole, c.real_value-whole.ensures.fraction, c.text.ensures, c.at-at.ensures) refl
