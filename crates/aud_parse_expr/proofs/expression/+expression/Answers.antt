use Rattle.aud_grammar.specs.Grammar as g
use Rattle.std.proofs.Common.{sym, ◌∙◌, refl, rules, ap, ◌∷◌}
use Rattle.aud_grammar.specs.Ties.Outcome.{o_rule, o_this, o_other, o_last, o_yes, o_no, o_more}
use Rattle.aud_cursor.proofs.Passing.{to, exit, hand_on, level_in, level_out, turns_push, turns_pushed, turns_end, no_level, word_passes, level_on, heads_none, heads_push, heads_on, headed, headed_items}
use Rattle.aud_connective.proofs.Connecting.{comes_so}
use Rattle.aud_parse_expr.proofs.Joined.{joined, not_joined, joined_twice, not_joined_twice}
use Rattle.aud_parse_expr.proofs.Rolls.{factor_items, args_items, part_items, parts_items, named_items}
use Rattle.aud_grammar.specs.Actions.{none}
use Rattle.aud_cursor.specs.Ties.Items.{list_item}
use Rattle.aud_parse_expr.specs.Ties.Items.{args_of, expression_item}
use Rattle.aud_parse_expr.proofs.expression.+expression.Goals as goal

pub parens-returns-in_err-inside : goal.parens-returns-in_err-inside
parens-returns-in_err-inside t c = no_level _ g.Parens g.InParens _ c.args.start _ _ _ refl c.from_residual.ensures.1 c.in_err-inside.ensures c.is.ensures

pub parens-returns-in_err-open : goal.parens-returns-in_err-open
parens-returns-in_err-open t c = exit _ _ _ c.from_residual-in_err-open.ensures.1 (c.in_err-open.ensures.reads c.in_ok-inside.inside) (λ k ds v o. o_rule (level_in c.in_ok-inside.ensures (o_rule o)))

pub parens-returns-in_err-inner : goal.parens-returns-in_err-inner
parens-returns-in_err-inner t c = exit _ _ _ c.from_residual-in_err-inner.ensures.1 c.in_err-inner.ensures.reads (λ k ds v o. o_rule (level_in c.in_ok-inside.ensures (o_rule (c.in_ok-open.ensures.reads _ _ _ _ o))))

pub parens-returns-in_err-inner-2 : goal.parens-returns-in_err-inner-2
parens-returns-in_err-inner-2 t c = exit _ _ _ c.from_residual-in_err-inner-2.ensures.1 (c.in_err-inner-2.ensures.reads c.in_ok-inside.inside) (λ k ds v o. o_rule (level_in c.in_ok-inside.ensures (o_rule (c.in_ok-open.ensures.reads _ _ _ _ (c.in_ok-inner.ensures.reads _ _ _ o)))))

pub parens-returns : goal.parens-returns
parens-returns t c = record { reads = λ k ds v o. rw (c.at.ensures, c.in_ok-inner-2.ensures.reads.0) (o_rule (level_in c.in_ok-inside.ensures (o_rule (c.in_ok-open.ensures.reads _ _ _ _ (c.in_ok-inner.ensures.reads _ _ _ (c.in_ok-inner-2.ensures.reads.1 _ _ _ _ (level_out c.in_ok-inside.ensures o))))))); shorter = search rules }

pub attribute-returns-in_err-rest : goal.attribute-returns-in_err-rest
attribute-returns-in_err-rest t c = exit _ _ _ c.from_residual.ensures.1 (c.in_err-rest.ensures.reads c.args.room) (λ k ds v o. o_rule o)

pub attribute-returns-in_err-name : goal.attribute-returns-in_err-name
attribute-returns-in_err-name t c = exit _ _ _ c.from_residual-in_err-name.ensures.1 (c.in_err-name.ensures.reads c.args.room) (λ k ds v o. o_rule (c.in_ok-rest.ensures.reads _ _ _ _ o))

pub attribute-returns-in_err-inner : goal.attribute-returns-in_err-inner
attribute-returns-in_err-inner t c = exit _ _ _ c.from_residual-in_err-inner.ensures.1 c.in_err-inner.ensures.reads (λ k ds v o. o_rule (c.in_ok-rest.ensures.reads _ _ _ _ (c.in_ok-name.ensures.reads _ _ _ _ (o_yes (sym c.is.ensures ∙ c.if-is.true) o))))

pub attribute-returns-then-is : goal.attribute-returns-then-is
attribute-returns-then-is t c = record { reads = λ k ds v o. o_rule (c.in_ok-rest.ensures.reads _ _ _ _ (c.in_ok-name.ensures.reads _ _ _ _ (o_yes (sym c.is.ensures ∙ c.if-is.true) (c.in_ok-inner.ensures.reads _ _ _ o)))); shorter = search rules }

pub attribute-returns : goal.attribute-returns
attribute-returns t c = record { reads = λ k ds v o. o_rule (c.in_ok-rest.ensures.reads _ _ _ _ (c.in_ok-name.ensures.reads _ _ _ _ (o_no (sym c.is.ensures ∙ c.if-is.false) o))); shorter = search rules }

pub in_args-returns-in_err-rest : goal.in_args-returns-in_err-rest
in_args-returns-in_err-rest t c = exit _ _ _ c.from_residual.ensures.1 (c.in_err-rest.ensures.reads c.args.room) (λ k ds v o. o_rule o)

pub in_args-turns-init : goal.in_args-turns-init
in_args-turns-init t c = record { inside = c.in_ok-rest.rest.tokens.now; opened = c.in_ok-rest.ensures.reads c.args.room; turns = heads_none c.new-all.ensures.items; shorter = search rules }

pub in_args-returns-in_err-one : goal.in_args-returns-in_err-one
in_args-returns-in_err-one t c = exit _ _ _ c.from_residual-in_err-one.ensures.1 c.in_err-one.ensures.reads (λ k ds v o. o_rule (c.turns.invariant.opened _ _ _ (c.turns.invariant.turns.by _ _ _ o)))

pub in_args-returns-in_err-rest-2 : goal.in_args-returns-in_err-rest-2
in_args-returns-in_err-rest-2 t c = exit _ _ _ c.from_residual-in_err-rest-2.ensures.1 (c.in_err-rest-2.ensures.reads c.args.room) (λ k ds v o. o_rule (c.turns.invariant.opened _ _ _ (heads_on c.into_inner.result c.turns.invariant.turns (rw c.into_inner.ensures c.in_ok-one.ensures.reads) c.in_default.ensures.reads _ _ _ o)))

pub in_args-returns-in_default : goal.in_args-returns-in_default
in_args-returns-in_default t c = record {
  reads = λ k ds v o.
      to (o_rule (c.turns.invariant.opened _ _ _ (heads_on c.into_inner.result c.turns.invariant.turns (rw c.into_inner.ensures c.in_ok-one.ensures.reads) c.in_default.ensures.reads _ _ _ (c.in_ok-rest-2.ensures.reads _ _ _ _ o))))
      (args_items (headed expression_item c.turns.all.items (expression_item c.into_inner.result ∷ none ∷ ds)) ds _ (headed_items expression_item c.turns.all.items c.into_inner.result ds ∙ ap (λ l. list_item expression_item l ∷ ds) (sym c.in_ok-push_tree.ensures)));
  shorter = search rules;
}

pub in_args-turns-preserved : goal.in_args-turns-preserved
in_args-turns-preserved t c = record {
  inside = c.turns.invariant.inside;
  opened = c.turns.invariant.opened;
  turns = heads_push c.into_inner.result c.turns.invariant.turns (rw c.into_inner.ensures c.in_ok-one.ensures.reads) (λ k ds v o. o_more c.in-Some.ensures.reads.0 (o_rule (word_passes c.in-Some.ensures.reads _ _ _ o))) c.in_ok-push_tree.ensures;
  shorter = search rules;
}

pub args-returns-in_err-inside : goal.args-returns-in_err-inside
args-returns-in_err-inside t c = no_level _ g.Args g.InArgs _ c.args.start _ _ _ refl c.from_residual.ensures.1 c.in_err-inside.ensures c.is.ensures

pub args-returns : goal.args-returns
args-returns t c = record { reads = level_on _ c.args.start _ _ c.in_ok-inside.ensures c.in_args.ensures.reads (λ k ds v o. o_rule o); shorter = search rules }

pub opt_args-returns-then-is : goal.opt_args-returns-then-is
opt_args-returns-then-is t c = record { reads = hand_on _ c.args.start _ c.args-then-is.ensures.reads (λ k ds v o. o_yes (sym c.is.ensures ∙ c.if-is.true) o); shorter = search rules }

pub opt_args-returns : goal.opt_args-returns
opt_args-returns t c = record { reads = λ k ds v o. to (o_no (sym c.is.ensures ∙ c.if-is.false) o) (ap (λ l. args_of l ∷ ds) (sym c.new.ensures.items)); shorter = search rules }

pub part-returns-in_err-ident : goal.part-returns-in_err-ident
part-returns-in_err-ident t c = exit _ _ _ c.from_residual.ensures.1 (c.in_err-ident.ensures.reads c.args.room) (λ k ds v o. o_rule o)

pub part-returns-in_err-args : goal.part-returns-in_err-args
part-returns-in_err-args t c = exit _ _ _ c.from_residual-in_err-args.ensures.1 c.in_err-args.ensures.reads (λ k ds v o. o_rule (c.in_ok-ident.ensures.reads _ _ _ _ o))

pub part-returns : goal.part-returns
part-returns t c = record { reads = λ k ds v o. to (o_rule (c.in_ok-ident.ensures.reads _ _ _ _ (c.in_ok-args.ensures.reads _ _ _ o))) (part_items c.in_ok-ident.ident c.in_ok-args.args ds); shorter = search rules }

pub selected-returns-in_err-part : goal.selected-returns-in_err-part
selected-returns-in_err-part t c = exit _ _ _ c.from_residual.ensures.1 c.in_err-part.ensures.reads (λ k ds v o. c.turns.invariant.turns.by _ _ _ (o_more c.in-Some.ensures.reads.0 (o_rule (word_passes c.in-Some.ensures.reads _ _ _ o))))

pub selected-turns-preserved : goal.selected-turns-preserved
selected-turns-preserved t c = record { turns = turns_push _ c.turns.invariant.turns c.in-Some.ensures.reads.0 (λ k ds v o. o_rule (word_passes c.in-Some.ensures.reads _ _ _ (c.in_ok-part.ensures.reads _ _ _ o))) c.in_ok-push_tree.ensures; shorter = search rules }

pub name-returns-in_err-first : goal.name-returns-in_err-first
name-returns-in_err-first t c = exit _ _ _ c.from_residual.ensures.1 c.in_err-first.ensures.reads (λ k ds v o. o_rule o)

pub name-returns-in_err-others : goal.name-returns-in_err-others
name-returns-in_err-others t c = exit _ _ _ c.from_residual-in_err-others.ensures.1 c.in_err-others.ensures.reads (λ k ds v o. o_rule (c.in_ok-first.ensures.reads _ _ _ o))

pub name-returns : goal.name-returns
name-returns t c = record { reads = λ k ds v o. to (o_rule (c.in_ok-first.ensures.reads _ _ _ (c.in_ok-others.ensures.reads _ _ _ o))) (parts_items c.in_ok-boxed.boxed c.in_ok-first.first c.in_ok-others.others ds c.in_ok-boxed.ensures); shorter = search rules }

pub named-returns-in_err-prefix : goal.named-returns-in_err-prefix
named-returns-in_err-prefix t c = exit _ _ _ c.from_residual.ensures.1 c.in_err-prefix.ensures.reads (λ k ds v o. o_rule o)

pub named-returns-in_err-attribute : goal.named-returns-in_err-attribute
named-returns-in_err-attribute t c = exit _ _ _ c.from_residual-in_err-attribute.ensures.1 c.in_err-attribute.ensures.reads (λ k ds v o. o_rule (c.in_ok-prefix.ensures.reads _ _ _ (o_yes (sym c.is.ensures ∙ c.if-is.true) o)))

pub named-returns-then-is : goal.named-returns-then-is
named-returns-then-is t c = record { reads = λ k ds v o. to (o_rule (c.in_ok-prefix.ensures.reads _ _ _ (o_yes (sym c.is.ensures ∙ c.if-is.true) (c.in_ok-attribute.ensures.reads _ _ _ o)))) (named_items c.in_ok-prefix.prefix _ _ _); shorter = search rules }

pub named-returns : goal.named-returns
named-returns t c = record { reads = λ k ds v o. o_rule (c.in_ok-prefix.ensures.reads _ _ _ (o_no (sym c.is.ensures ∙ c.if-is.false) o)); shorter = search rules }

pub primary-returns-in_err-t : goal.primary-returns-in_err-t
primary-returns-in_err-t t c = exit _ _ _ c.from_residual.ensures.1 (c.in_err-t.ensures.reads c.args.room) (λ k ds v o. o_rule (o_this (sym c.is.ensures ∙ c.if-is.true) (o_rule (o_rule o))))

pub primary-returns-then-is : goal.primary-returns-then-is
primary-returns-then-is t c = record { reads = λ k ds v o. rw (c.number_value-value.ensures, c.text.ensures, c.at.ensures) (o_rule (o_this (sym c.is.ensures ∙ c.if-is.true) (o_rule (o_rule (c.in_ok-t.ensures.reads _ _ _ _ o))))); shorter = search rules }

pub primary-returns-in_err-value : goal.primary-returns-in_err-value
primary-returns-in_err-value t c = exit _ _ _ c.from_residual-in_err-value.ensures.1 (c.in_err-value.ensures.reads c.args.room) (λ k ds v o. o_rule (o_other (sym c.is.ensures ∙ c.if-is.false) (o_this (sym c.is-2.ensures ∙ c.if-is-2.true) (o_rule o))))

pub primary-returns-then-is-2 : goal.primary-returns-then-is-2
primary-returns-then-is-2 t c = record { reads = λ k ds v o. o_rule (o_other (sym c.is.ensures ∙ c.if-is.false) (o_this (sym c.is-2.ensures ∙ c.if-is-2.true) (o_rule (c.in_ok-value.ensures.reads _ _ _ _ o)))); shorter = search rules }

pub primary-returns-then-is-3 : goal.primary-returns-then-is-3
primary-returns-then-is-3 t c = record { reads = hand_on _ c.args.start _ c.named.ensures.reads (λ k ds v o. o_rule (o_other (sym c.is.ensures ∙ c.if-is.false) (o_other (sym c.is-2.ensures ∙ c.if-is-2.false) (o_this (sym c.is-3.ensures ∙ c.if-is-3.true) o)))); shorter = search rules }

pub primary-returns-in_err-group : goal.primary-returns-in_err-group
primary-returns-in_err-group t c = exit _ _ _ c.from_residual-in_err-group.ensures.1 c.in_err-group.ensures.reads (λ k ds v o. o_rule (o_other (sym c.is.ensures ∙ c.if-is.false) (o_other (sym c.is-2.ensures ∙ c.if-is-2.false) (o_other (sym c.is-3.ensures ∙ c.if-is-3.false) (o_last (o_rule o))))))

pub primary-returns : goal.primary-returns
primary-returns t c = record { reads = λ k ds v o. (o_rule (o_other (sym c.is.ensures ∙ c.if-is.false) (o_other (sym c.is-2.ensures ∙ c.if-is-2.false) (o_other (sym c.is-3.ensures ∙ c.if-is-3.false) (o_last (o_rule (c.in_ok-group.ensures.reads _ _ _ o))))))); shorter = search rules }

pub factor-returns-in_err-primary : goal.factor-returns-in_err-primary
factor-returns-in_err-primary t c = exit _ _ _ c.from_residual.ensures.1 c.in_err-primary.ensures.reads (λ k ds v o. o_rule (c.opt_operator-operator.ensures.reads _ _ _ _ o))

pub factor-returns : goal.factor-returns
factor-returns t c = record { reads = λ k ds v o. rw c.in_ok-boxed.ensures (to (o_rule (c.opt_operator-operator.ensures.reads _ _ _ _ (c.in_ok-primary.ensures.reads _ _ _ o))) (factor_items _ _ _)); shorter = search rules }

pub term-returns-in_err-first : goal.term-returns-in_err-first
term-returns-in_err-first t c = exit _ _ _ c.from_residual.ensures.1 c.in_err-first.ensures.reads (λ k ds v o. o_rule o)

pub term-returns-in_err-first-2 : goal.term-returns-in_err-first-2
term-returns-in_err-first-2 t c = exit _ _ _ c.from_residual-in_err-first-2.ensures.1 (not_joined _ _ c.in_err-first-2.ensures c.multiplieds.ensures) (λ k ds v o. o_rule (c.in_ok-first.ensures.reads _ _ _ o))

pub term-returns : goal.term-returns
term-returns t c =
    let j = joined _ c.in_ok-first-2.ensures c.multiplieds.ensures in
    record { reads = λ k ds v o. to (o_rule (c.in_ok-first.ensures.reads _ _ _ (j.reads _ _ _ o))) ((rw j.first at c.in_ok-product.ensures) ds); shorter = search rules }

pub simple-returns-in_err-first : goal.simple-returns-in_err-first
simple-returns-in_err-first t c = exit _ _ _ c.from_residual.ensures.1 c.in_err-first.ensures.reads (λ k ds v o. o_rule (c.opt_sign-sign.ensures.reads _ _ _ _ o))

pub simple-returns-in_err-first-2 : goal.simple-returns-in_err-first-2
simple-returns-in_err-first-2 t c = exit _ _ _ c.from_residual-in_err-first-2.ensures.1 (not_joined _ _ c.in_err-first-2.ensures c.addeds.ensures) (λ k ds v o. o_rule (c.opt_sign-sign.ensures.reads _ _ _ _ (c.in_ok-first.ensures.reads _ _ _ o)))

pub simple-returns : goal.simple-returns
simple-returns t c =
    let j = joined _ c.in_ok-first-2.ensures c.addeds.ensures in
    record { reads = λ k ds v o. to (o_rule (c.opt_sign-sign.ensures.reads _ _ _ _ (c.in_ok-first.ensures.reads _ _ _ (j.reads _ _ _ o)))) ((rw j.first at c.in_ok-sum.ensures) ds); shorter = search rules }

pub relation-returns-in_err-left : goal.relation-returns-in_err-left
relation-returns-in_err-left t c = exit _ _ _ c.from_residual.ensures.1 c.in_err-left.ensures.reads (λ k ds v o. o_rule o)

pub relation-returns-in_err-left-2 : goal.relation-returns-in_err-left-2
relation-returns-in_err-left-2 t c = exit _ _ _ c.from_residual-in_err-left-2.ensures.1 (not_joined _ _ c.in_err-left-2.ensures c.simple-in-Some.ensures) (λ k ds v o. o_rule (c.in_ok-left.ensures.reads _ _ _ (o_yes c.in-Some.ensures.reads.0 (o_rule (c.in-Some.ensures.reads.1 _ _ _ _ o)))))

pub relation-returns-in-Some : goal.relation-returns-in-Some
relation-returns-in-Some t c =
    let j = joined _ c.in_ok-left-2.ensures c.simple-in-Some.ensures in
    record { reads = λ k ds v o. to (o_rule (c.in_ok-left.ensures.reads _ _ _ (o_yes c.in-Some.ensures.reads.0 (o_rule (c.in-Some.ensures.reads.1 _ _ _ _ (j.reads _ _ _ o)))))) ((rw j.first at c.in_ok-related.ensures) ds); shorter = search rules }

pub relation-returns : goal.relation-returns
relation-returns t c = record { reads = λ k ds v o. to (o_rule (c.in_ok-left.ensures.reads _ _ _ (o_no c.in_default.ensures.reads o))) (c.in_ok-unrelated.ensures ds); shorter = search rules }

pub expression-returns-in_err-first : goal.expression-returns-in_err-first
expression-returns-in_err-first t c = exit _ _ _ c.from_residual.ensures.1 c.in_err-first.ensures.reads (λ k ds v o. o_rule o)

pub expression-returns-in_err-first-2 : goal.expression-returns-in_err-first-2
expression-returns-in_err-first-2 t c = exit _ _ _ c.from_residual-in_err-first-2.ensures.1 (not_joined _ _ c.in_err-first-2.ensures c.relation-in-Some.ensures) (λ k ds v o. o_rule (c.in_ok-first.ensures.reads _ _ _ (o_yes c.in-Some.ensures.reads.0 (c.in-Some.ensures.reads.1 _ _ _ _ o))))

pub expression-returns-in_err-first-3 : goal.expression-returns-in_err-first-3
expression-returns-in_err-first-3 t c =
    let j = joined _ c.in_ok-first-2.ensures c.relation-in-Some.ensures in
    exit _ _ _ c.from_residual-in_err-first-3.ensures.1 (not_joined_twice _ _ _ c.in_err-first-3.ensures c.both-in-Some.ensures c.relations-others.ensures)
    (λ k ds v o. o_rule (c.in_ok-first.ensures.reads _ _ _ (o_yes c.in-Some.ensures.reads.0 (c.in-Some.ensures.reads.1 _ _ _ _ (j.reads _ _ _ o)))))

pub expression-returns-in-Some : goal.expression-returns-in-Some
expression-returns-in-Some t c =
    let j = joined _ c.in_ok-first-2.ensures c.relation-in-Some.ensures in
    let i = joined_twice _ c.in_ok-first-3.ensures c.both-in-Some.ensures c.relations-others.ensures in
    record { reads = λ k ds v o. to (o_rule (c.in_ok-first.ensures.reads _ _ _ (o_yes c.in-Some.ensures.reads.0 (c.in-Some.ensures.reads.1 _ _ _ _ (j.reads _ _ _ (i.reads _ _ _ o)))))) ((rw (i.outer, i.first, j.first) at c.in_ok-connected.ensures) ds); shorter = search rules }

pub expression-returns : goal.expression-returns
expression-returns t c = record { reads = λ k ds v o. to (o_rule (c.in_ok-first.ensures.reads _ _ _ (o_no c.in_default.ensures.reads o))) (c.in_ok-alone.ensures ds); shorter = search rules }

pub multiplieds-returns-in_err-factor : goal.multiplieds-returns-in_err-factor
multiplieds-returns-in_err-factor t c = exit _ _ _ c.from_residual.ensures.1 c.in_err-factor.ensures.reads (λ k ds v o. c.turns.invariant.turns.by _ _ _ (o_more c.in-Some.ensures.reads.0 (o_rule (c.in-Some.ensures.reads.1 _ _ _ _ o))))

pub multiplieds-turns-preserved : goal.multiplieds-turns-preserved
multiplieds-turns-preserved t c = record { turns = turns_pushed c.in_ok-push_multiplied.ensures c.turns.invariant.turns c.in-Some.ensures.reads.0 (λ k ds v o. o_rule (c.in-Some.ensures.reads.1 _ _ _ _ (c.in_ok-factor.ensures.reads _ _ _ o))); shorter = search rules }

pub addeds-returns-in_err-term : goal.addeds-returns-in_err-term
addeds-returns-in_err-term t c = exit _ _ _ c.from_residual.ensures.1 c.in_err-term.ensures.reads (λ k ds v o. c.turns.invariant.turns.by _ _ _ (o_more c.in-Some.ensures.reads.0 (o_rule (c.in-Some.ensures.reads.1 _ _ _ _ o))))

pub addeds-turns-preserved : goal.addeds-turns-preserved
addeds-turns-preserved t c = record { turns = turns_pushed c.in_ok-push_added.ensures c.turns.invariant.turns c.in-Some.ensures.reads.0 (λ k ds v o. o_rule (c.in-Some.ensures.reads.1 _ _ _ _ (c.in_ok-term.ensures.reads _ _ _ o))); shorter = search rules }

pub relations-returns-in_err-behind : goal.relations-returns-in_err-behind
relations-returns-in_err-behind t c = exit _ _ _ c.from_residual.ensures.1 (c.in_err-behind.ensures.reads c.args.room) (λ k ds v o. c.turns.invariant.turns.by _ _ _ (o_more (comes_so c.args.operator c.turns.rest.tokens.now c.comes_again.ensures c.turns-test.true) o))

pub relations-returns-in_err-relation : goal.relations-returns-in_err-relation
relations-returns-in_err-relation t c = exit _ _ _ c.from_residual-in_err-relation.ensures.1 c.in_err-relation.ensures.reads
    (λ k ds v o. c.turns.invariant.turns.by _ _ _ (o_more (comes_so c.args.operator c.turns.rest.tokens.now c.comes_again.ensures c.turns-test.true) (c.in_ok-behind.ensures.reads _ _ _ _ o)))

pub relations-turns-preserved : goal.relations-turns-preserved
relations-turns-preserved t c = record { turns = turns_pushed c.in_ok-push_relation.ensures c.turns.invariant.turns (comes_so c.args.operator c.turns.rest.tokens.now c.comes_again.ensures c.turns-test.true) (λ k ds v o. c.in_ok-behind.ensures.reads _ _ _ _ (c.in_ok-relation.ensures.reads _ _ _ o)); shorter = search rules }

pub relations-returns : goal.relations-returns
relations-returns t c = record { reads = turns_end c.turns.invariant.turns (comes_so c.args.operator c.turns.rest.tokens.now c.comes_again.ensures c.turns-test.false); shorter = search rules }
