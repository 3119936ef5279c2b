use Rattle.std.proofs.Common.{◌∷◌, refl, arith}
use Rattle.std.specs.Prelude.{codes}
use Rattle.aud_lex.specs.Why.Spaced.{word}
use Rattle.aud_syntax.specs.Ties.View.{plain_name, plain_names}
use Rattle.aud_syntax.specs.Why.Printed.{name_words, more_names_words}
use Rattle.aud_syntax.proofs.Written.{◌then◌, all_remain, next_written, loop_ends}
use Rattle.aud_syntax.proofs.statements.push_more_names.Goals as goal

pub loop-next-init : goal.loop-next-init
loop-next-init c = all_remain _

pub loop-next-preserved : goal.loop-next-preserved
loop-next-preserved c =
    next_written (λ xs. more_names_words (plain_names xs)) (λ x. word (codes ",") ∷ name_words (plain_name x)) (λ x xs. refl) c.args.others.now c.loop-next.next-index c.next-item.result (omega arith) c.next-item.is c.loop-next.invariant (c.push_word.ensures then c.push_name.ensures)

pub returns : goal.returns
returns c = loop_ends (λ xs. more_names_words (plain_names xs)) refl c.args.others.now c.loop-next.next-index c.loop-next-test.false c.loop-next.invariant
