use Rattle.std.proofs.lemmas.Bool.{ne_eqb}
use Rattle.aud_syntax.proofs.words.push_character.Goals as goal

pub returns-then-byte-eq34 : goal.returns-then-byte-eq34
returns-then-byte-eq34 c = rw c.if-byte-eq34.true c.push_bytes.ensures

pub returns-else-byte-eq34 : goal.returns-else-byte-eq34
returns-else-byte-eq34 c = rw (ne_eqb c.args.byte 34 c.if-byte-eq34.false) c.push.ensures
