use Rattle.std.proofs.Common.{map, refl, arith}
use Rattle.aud_syntax.specs.Ties.View.{plain_private_item}
use Rattle.aud_syntax.specs.Why.Printed.{private_item_words, private_items_words}
use Rattle.aud_syntax.proofs.Written.{all_remain, next_written, loop_ends}
use Rattle.aud_syntax.proofs.protected.push_private_items.Goals as goal

pub loop-next-init : goal.loop-next-init
loop-next-init c = all_remain _

pub loop-next-preserved : goal.loop-next-preserved
loop-next-preserved c =
    next_written (λ xs. private_items_words (map plain_private_item xs)) (λ x. private_item_words (plain_private_item x)) (λ x xs. refl) c.args.items.now c.loop-next.next-index c.next-item.result (omega arith) c.next-item.is c.loop-next.invariant c.push_private_item.ensures

pub returns : goal.returns
returns c = loop_ends (λ xs. private_items_words (map plain_private_item xs)) refl c.args.items.now c.loop-next.next-index c.loop-next-test.false c.loop-next.invariant
