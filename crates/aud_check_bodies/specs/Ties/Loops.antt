-- What is left of the heads of loops in memory.
use Rattle.std.specs.Prelude.{Box}
use Rattle.std.specs.Global.{Global}
use Rattle.aud_typed.specs.declared.program.IntegerExpression.{IntegerExpression}
use Rattle.aud_typed.specs.Tree as tree
use Rattle.aud_typed.specs.Ties.View.{plain_integer}
use Rattle.aud_check_bodies.specs.declared.iteration.For as memory

abbrev pub plain_bounds : (Box IntegerExpression Global × Box IntegerExpression Global) → (tree.IntegerExpression × tree.IntegerExpression)
plain_bounds b = (plain_integer b.0.value, plain_integer b.1.value)

abbrev pub plain_for : memory.For → tree.For
plain_for h = record { at = h.at; next_at = h.next_at; region = h.region; backward = h.backward }
