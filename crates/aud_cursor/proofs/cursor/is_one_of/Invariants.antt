use Rattle.std.proofs.Common.{◌≡◌, drop}
use Rattle.aud_grammar.specs.First.{next_in}
use Rattle.aud_cursor.proofs.cursor.is_one_of.Given as goal

abbrev pub invariant-loop-kind : goal.invariant-loop-kind
invariant-loop-kind l = next_in l.kinds l.start.tokens.now ≡ next_in (drop l.kind-index l.kinds) l.start.tokens.now
