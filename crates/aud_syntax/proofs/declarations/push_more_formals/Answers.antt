use Rattle.std.proofs.Common.{◌∷◌, map, refl, arith}
use Rattle.std.specs.Prelude.{codes}
use Rattle.aud_lex.specs.Why.Spaced.{last_word}
use Rattle.aud_syntax.specs.Ties.View.{plain_formal}
use Rattle.aud_syntax.specs.Why.Printed.{formal_words, more_formals_words}
use Rattle.aud_syntax.proofs.Written.{◌then◌, all_remain, next_written, loop_ends}
use Rattle.aud_syntax.proofs.declarations.push_more_formals.Goals as goal

pub loop-next-init : goal.loop-next-init
loop-next-init c = all_remain _

pub loop-next-preserved : goal.loop-next-preserved
loop-next-preserved c =
    next_written (λ xs. more_formals_words (map plain_formal xs)) (λ x. last_word (codes ";") ∷ formal_words (plain_formal x)) (λ x xs. refl) c.args.formals.now c.loop-next.next-index c.next-item.result (omega arith) c.next-item.is c.loop-next.invariant (c.push_last_word.ensures then c.push_formal.ensures)

pub returns : goal.returns
returns c = loop_ends (λ xs. more_formals_words (map plain_formal xs)) refl c.args.formals.now c.loop-next.next-index c.loop-next-test.false c.loop-next.invariant
