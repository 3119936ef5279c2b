use Rattle.std.proofs.Common.{◌∷◌, [], refl, arith}
use Rattle.aud_lex.specs.Why.Spaced.{word}
use Rattle.aud_syntax.specs.Why.Printed.{ident_word, more_ident_words}
use Rattle.aud_syntax.proofs.Written.{◌then◌, all_remain, next_written, loop_ends}
use Rattle.aud_syntax.proofs.words.push_more_idents.Goals as goal

pub loop-next-init : goal.loop-next-init
loop-next-init c = all_remain _

pub loop-next-preserved : goal.loop-next-preserved
loop-next-preserved c =
    let delimiter = c.args.delimiter.now in
    next_written (more_ident_words delimiter) (λ x. word delimiter ∷ ident_word x ∷ []) (λ x xs. refl) c.args.names.now c.loop-next.next-index c.next-item.result (omega arith) c.next-item.is c.loop-next.invariant (c.push_word.ensures then c.push_ident.ensures)

pub returns : goal.returns
returns c = loop_ends (more_ident_words c.args.delimiter.now) refl c.args.names.now c.loop-next.next-index c.loop-next-test.false c.loop-next.invariant
