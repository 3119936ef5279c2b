use Rattle.std.proofs.Common.{sym, ap, ◌∙◌, ◌∷◌, rules}
use Rattle.aud_grammar.specs.Ties.Outcome.{o_yes, o_no}
use Rattle.aud_cursor.specs.Ties.Items.{list_item}
use Rattle.aud_parse.specs.Ties.Items.{formal_item}
use Rattle.aud_cursor.proofs.Passing.{to, hand_on}
use Rattle.aud_parse.proofs.formals.opt_formals.Goals as goal

pub returns-then-is : goal.returns-then-is
returns-then-is c = record { reads = hand_on _ c.args.start _ c.formals.ensures.reads (λ k ds v o. o_yes (sym c.is.ensures ∙ c.if-is.true) o); shorter = search rules }

pub returns : goal.returns
returns c = record { reads = λ k ds v o. to (o_no (sym c.is.ensures ∙ c.if-is.false) o) (ap (λ l. list_item formal_item l ∷ ds) (sym c.new-none.ensures.items)); shorter = search rules }
