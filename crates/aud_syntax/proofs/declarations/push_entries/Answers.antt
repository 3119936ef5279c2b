use Rattle.std.proofs.Common.{map, refl, arith}
use Rattle.aud_syntax.specs.Ties.View.{plain_entry}
use Rattle.aud_syntax.specs.Why.Printed.{entry_words, entries_words}
use Rattle.aud_syntax.proofs.Written.{all_remain, next_written, loop_ends}
use Rattle.aud_syntax.proofs.declarations.push_entries.Goals as goal

pub loop-next-init : goal.loop-next-init
loop-next-init c = all_remain _

pub loop-next-preserved : goal.loop-next-preserved
loop-next-preserved c =
    next_written (λ xs. entries_words (map plain_entry xs)) (λ x. entry_words (plain_entry x)) (λ x xs. refl) c.args.entries.now c.loop-next.next-index c.next-item.result (omega arith) c.next-item.is c.loop-next.invariant c.push_entry.ensures

pub returns : goal.returns
returns c = loop_ends (λ xs. entries_words (map plain_entry xs)) refl c.args.entries.now c.loop-next.next-index c.loop-next-test.false c.loop-next.invariant
