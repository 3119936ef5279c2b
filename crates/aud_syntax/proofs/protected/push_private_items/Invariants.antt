use Rattle.std.proofs.Common.{drop, map}
use Rattle.aud_syntax.specs.Ties.View.{plain_private_item}
use Rattle.aud_syntax.specs.Why.Printed.{private_items_words}
use Rattle.aud_syntax.proofs.Written.{Remains}
use Rattle.aud_syntax.proofs.protected.push_private_items.Given as goal

abbrev pub invariant-loop-next : goal.invariant-loop-next
invariant-loop-next l = Remains l.fn.out l.out (private_items_words (map plain_private_item l.fn.items)) (private_items_words (map plain_private_item (drop l.next-index l.items)))
