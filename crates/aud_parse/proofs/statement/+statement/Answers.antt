use Rattle.aud_grammar.specs.Grammar as g
use Rattle.aud_grammar.specs.Grammar.{Symbol, N, T, P, Opt, Rep, Down}
use Rattle.aud_lex.specs.declared.token.Kind.TheVariants as kind
use Rattle.std.proofs.Common.{List, [], ◌∷◌, ap, sym, ◌∙◌, refl, rules, arith, ⊎_elim, ◌++◌}
use Rattle.aud_grammar.specs.Ties.Outcome.{o_rule, o_this, o_other, o_last, o_yes, o_no, o_more}
use Rattle.aud_grammar.specs.Actions.{token, made}
use Rattle.aud_cursor.specs.Ties.Items.{list_item, vec_item}
use Rattle.aud_parse.specs.Ties.Items.{handler_item, declaration_item, boxed_statements_item, guard_item, boxed_alternative_item}
use Rattle.aud_cursor.proofs.Passing.{to, exit, hand_after, hand_on, level_in, level_out, no_level, word_passes, token_passes, turns_push, turns_over, heads_none, heads_push, in_this, in_none}
use Rattle.aud_parse_expr.proofs.Joined.{exit_all, at_room, fewer_still, ends}
use Rattle.aud_parse.proofs.Completing.{completes, completes_in, exit_in, exit_among}
use Rattle.aud_parse.proofs.Rolls.{arm_items, in_order_items, handler_items, block_items, declare_items, procedure_items, task_body_items, accept_items, done_as}
use Rattle.aud_parse.proofs.Listed.{list_ends, no_level_of}
use Rattle.aud_parse.proofs.Objects.{operation_body_items}
use Rattle.aud_parse.proofs.Selects.{accept_alternative_items, delay_alternative_items, select_items, or_delay_items, or_else_items, select_call_items, accepting_items}
use Rattle.aud_parse.proofs.Alternating.{accepts_end, delays_end, terminate_end, no_accept, no_first, turn, chain_none, chain_turn, chain_alternative, chain_push, chain_end, fails_on, fails_more_on, exit_may, begins_on, exit_completes}
use Rattle.aud_parse.specs.Ties.Alternatives.{remaining}
use Rattle.aud_parse.proofs.statement.+statement.Goals as goal

-- what a branch is read by, behind its first word
abbrev guarded_symbols : List Symbol
guarded_symbols = N g.Expression ∷ T kind.Then ∷ N g.Statements ∷ []

-- what a procedure is read by, between its first word and its declarations
abbrev specification_symbols : List Symbol
specification_symbols = N g.Identifier ∷ Opt g.Formals ∷ T kind.Is ∷ []

pub procedure-returns-in_err-begin : goal.procedure-returns-in_err-begin
procedure-returns-in_err-begin t c = exit _ _ _ c.from_residual.ensures.1 (c.in_err-begin.ensures.reads c.args.room) (λ k ds v o. o_rule o)

pub procedure-returns-in_err-parts : goal.procedure-returns-in_err-parts
procedure-returns-in_err-parts t c = exit_all specification_symbols _ _ _ _ c.from_residual-in_err-parts.ensures.1 c.in_err-parts.ensures.reads (λ k ds v o. o_rule (c.in_ok-begin.ensures.reads _ _ _ _ o))

pub procedure-returns-in_err-declarations : goal.procedure-returns-in_err-declarations
procedure-returns-in_err-declarations t c = exit _ _ _ c.from_residual-in_err-declarations.ensures.1 c.in_err-declarations.ensures.reads (λ k ds v o. o_rule (c.in_ok-begin.ensures.reads _ _ _ _ (c.in_ok-parts.ensures.reads _ _ _ o)))

pub procedure-returns-in_err-body : goal.procedure-returns-in_err-body
procedure-returns-in_err-body t c = exit _ _ _ c.from_residual-in_err-body.ensures.1 c.in_err-body.ensures.reads (λ k ds v o. o_rule (c.in_ok-begin.ensures.reads _ _ _ _ (c.in_ok-parts.ensures.reads _ _ _ (c.in_ok-declarations.ensures.reads _ _ _ o))))

pub procedure-returns : goal.procedure-returns
procedure-returns t c = record {
  reads = λ k ds v o.
      to (o_rule (c.in_ok-begin.ensures.reads _ _ _ _ (c.in_ok-parts.ensures.reads _ _ _ (c.in_ok-declarations.ensures.reads _ _ _ (c.in_ok-body.ensures.reads _ _ _ o)))))
      (procedure_items c.in_ok-declaration.declaration (token c.in_ok-begin.begin.now) c.in_ok-parts.parts c.in_ok-declarations.declarations c.in_ok-body.body ds (rw (sym c.at.ensures) c.in_ok-declaration.ensures));
  shorter = omega (arith, c.in_ok-begin.ensures.shorter, c.in_ok-parts.ensures.shorter, c.in_ok-declarations.ensures.shorter, c.in_ok-body.ensures.shorter);
}

pub declaration-returns-then-is : goal.declaration-returns-then-is
declaration-returns-then-is t c = record { reads = hand_on _ c.args.start _ c.named_declaration.ensures.reads (λ k ds v o. o_rule (o_this (sym c.is.ensures ∙ c.if-is.true) o)); shorter = c.named_declaration.ensures.shorter }

pub declaration-returns-then-is-2 : goal.declaration-returns-then-is-2
declaration-returns-then-is-2 t c = record { reads = hand_on _ c.args.start _ c.procedure.ensures.reads (λ k ds v o. o_rule (o_other (sym c.is.ensures ∙ c.if-is.false) (o_this (sym c.is-2.ensures ∙ c.if-is-2.true) o))); shorter = c.procedure.ensures.shorter }

pub declaration-returns-then-is-3 : goal.declaration-returns-then-is-3
declaration-returns-then-is-3 t c = record { reads = hand_on _ c.args.start _ c.task.ensures.reads (λ k ds v o. o_rule (o_other (sym c.is.ensures ∙ c.if-is.false) (o_other (sym c.is-2.ensures ∙ c.if-is-2.false) (o_this (sym c.is-3.ensures ∙ c.if-is-3.true) o)))); shorter = c.task.ensures.shorter }

pub declaration-returns : goal.declaration-returns
declaration-returns t c = record { reads = hand_on _ c.args.start _ c.protected.ensures.reads (λ k ds v o. o_rule (o_other (sym c.is.ensures ∙ c.if-is.false) (o_other (sym c.is-2.ensures ∙ c.if-is-2.false) (o_other (sym c.is-3.ensures ∙ c.if-is-3.false) (o_last o))))); shorter = c.protected.ensures.shorter }

pub operation_body-returns-in_err-head : goal.operation_body-returns-in_err-head
operation_body-returns-in_err-head t c = exit _ _ _ c.from_residual.ensures.1 c.in_err-head.ensures.reads (λ k ds v o. o)

pub operation_body-returns-in_err-declarations : goal.operation_body-returns-in_err-declarations
operation_body-returns-in_err-declarations t c = exit _ _ _ c.from_residual-in_err-declarations.ensures.1 c.in_err-declarations.ensures.reads (λ k ds v o. c.in_ok-head.ensures.reads _ _ _ o)

pub operation_body-returns-in_err-body : goal.operation_body-returns-in_err-body
operation_body-returns-in_err-body t c = exit _ _ _ c.from_residual-in_err-body.ensures.1 c.in_err-body.ensures.reads (λ k ds v o. c.in_ok-head.ensures.reads _ _ _ (c.in_ok-declarations.ensures.reads _ _ _ o))

pub operation_body-returns : goal.operation_body-returns
operation_body-returns t c = record {
  reads = λ k ds v o.
      to (c.in_ok-head.ensures.reads _ _ _ (c.in_ok-declarations.ensures.reads _ _ _ (c.in_ok-body.ensures.reads _ _ _ o)))
      (operation_body_items c.in_ok-operation.operation c.in_ok-head.head c.in_ok-declarations.declarations c.in_ok-body.body ds c.in_ok-operation.ensures);
  shorter = omega (arith, c.in_ok-head.ensures.shorter, c.in_ok-declarations.ensures.shorter, c.in_ok-body.ensures.shorter);
}

pub operation_bodies-turns-preserved : goal.operation_bodies-turns-preserved
operation_bodies-turns-preserved t c = record { turns = turns_push c.in_ok-next.next.value c.turns.invariant.turns (sym c.is_one_of.ensures ∙ c.turns-test.true) c.in_ok-next.ensures.reads c.in_ok-all.ensures; shorter = omega (arith, c.in_ok-next.ensures.shorter, c.turns.invariant.shorter) }

pub operation_bodies-returns-in_err-next : goal.operation_bodies-returns-in_err-next
operation_bodies-returns-in_err-next t c = exit _ _ _ c.from_residual.ensures.1 c.in_err-next.ensures.reads (λ k ds v o. c.turns.invariant.turns.by _ _ _ (o_more (sym c.is_one_of.ensures ∙ c.turns-test.true) o))

pub opt_declare-returns-in_err-all : goal.opt_declare-returns-in_err-all
opt_declare-returns-in_err-all t c = exit _ _ _ c.from_residual.ensures.1 c.in_err-all.ensures.reads (λ k ds v o. o_yes c.in-Some.ensures.reads.0 (o_rule (token_passes c.in-Some.ensures.reads _ _ _ o)))

pub opt_declare-returns-in-Some : goal.opt_declare-returns-in-Some
opt_declare-returns-in-Some t c = record { reads = λ k ds v o. rw c.at.ensures (to (o_yes c.in-Some.ensures.reads.0 (o_rule (token_passes c.in-Some.ensures.reads _ _ _ (c.in_ok-all.ensures.reads _ _ _ o)))) (declare_items (token c.in-Some.t.now) c.in_ok-all.all ds)); shorter = omega (arith, c.in-Some.ensures.shorter, c.in_ok-all.ensures.shorter) }

pub opt_declare-returns : goal.opt_declare-returns
opt_declare-returns t c = record { reads = λ k ds v o. o_no c.in_default.ensures.reads o; shorter = omega arith }

pub loop_statement-returns-in_err-scheme : goal.loop_statement-returns-in_err-scheme
loop_statement-returns-in_err-scheme t c = exit_in _ _ _ c.from_residual.ensures.1 c.in_err-scheme.ensures.reads (λ k ds v o. o_rule o)

pub loop_statement-returns-in_err-begin : goal.loop_statement-returns-in_err-begin
loop_statement-returns-in_err-begin t c = exit_in _ _ _ c.from_residual-in_err-begin.ensures.1 (c.in_err-begin.ensures.reads c.args.room) (λ k ds v o. o_rule (c.in_ok-scheme.ensures.reads _ _ _ o))

pub loop_statement-returns-in_err-inner : goal.loop_statement-returns-in_err-inner
loop_statement-returns-in_err-inner t c = exit_in _ _ _ c.from_residual-in_err-inner.ensures.1 c.in_err-inner.ensures.reads (λ k ds v o. o_rule (c.in_ok-scheme.ensures.reads _ _ _ (c.in_ok-begin.ensures.reads _ _ _ _ o)))

pub loop_statement-returns : goal.loop_statement-returns
loop_statement-returns t c = completes_in _ _ c.args.start c.in_ok-inner.rest _ (c.end_loop.ensures c.args.room) (search rules) (λ k ds v o. o_rule (c.in_ok-scheme.ensures.reads _ _ _ (c.in_ok-begin.ensures.reads _ _ _ _ (c.in_ok-inner.ensures.reads _ _ _ o)))) (λ ds. refl)

pub guarded-returns-in_err-condition : goal.guarded-returns-in_err-condition
guarded-returns-in_err-condition t c = exit_among _ _ _ c.from_residual.ensures.1 c.in_err-condition.ensures.reads (λ k ds v o. o)

pub guarded-returns-in_err-rest : goal.guarded-returns-in_err-rest
guarded-returns-in_err-rest t c = exit_among _ _ _ c.from_residual-in_err-rest.ensures.1 (c.in_err-rest.ensures.reads c.args.room) (λ k ds v o. c.in_ok-condition.ensures.reads _ _ _ o)

pub guarded-returns-in_err-inner : goal.guarded-returns-in_err-inner
guarded-returns-in_err-inner t c = exit_among _ _ _ c.from_residual-in_err-inner.ensures.1 c.in_err-inner.ensures.reads (λ k ds v o. c.in_ok-condition.ensures.reads _ _ _ (c.in_ok-rest.ensures.reads _ _ _ _ o))

pub guarded-returns : goal.guarded-returns
guarded-returns t c = record { reads = λ k ds v o. c.in_ok-condition.ensures.reads _ _ _ (c.in_ok-rest.ensures.reads _ _ _ _ (c.in_ok-inner.ensures.reads _ _ _ o)); shorter = omega (arith, c.in_ok-condition.ensures.shorter, c.in_ok-rest.ensures.shorter, c.in_ok-inner.ensures.shorter) }

pub opt_else-returns-in_err-inner : goal.opt_else-returns-in_err-inner
opt_else-returns-in_err-inner t c = exit _ _ _ c.from_residual.ensures.1 c.in_err-inner.ensures.reads (λ k ds v o. o_yes c.in-Some.ensures.reads.0 (o_rule (word_passes c.in-Some.ensures.reads _ _ _ o)))

pub opt_else-returns-in-Some : goal.opt_else-returns-in-Some
opt_else-returns-in-Some t c = record { reads = λ k ds v o. o_yes c.in-Some.ensures.reads.0 (o_rule (word_passes c.in-Some.ensures.reads _ _ _ (c.in_ok-inner.ensures.reads _ _ _ o))); shorter = omega (arith, c.in-Some.ensures.shorter, c.in_ok-inner.ensures.shorter) }

pub opt_else-returns : goal.opt_else-returns
opt_else-returns t c = record { reads = λ k ds v o. o_no c.in_default.ensures.reads o; shorter = omega arith }

pub if_statement-returns-in_err-begin : goal.if_statement-returns-in_err-begin
if_statement-returns-in_err-begin t c = exit _ _ _ c.from_residual.ensures.1 (c.in_err-begin.ensures.reads c.args.room) (λ k ds v o. o_rule o)

pub if_statement-returns-in_err-first : goal.if_statement-returns-in_err-first
if_statement-returns-in_err-first t c = exit_all guarded_symbols _ _ _ _ c.from_residual-in_err-first.ensures.1 c.in_err-first.ensures.reads (λ k ds v o. o_rule (c.in_ok-begin.ensures.reads _ _ _ _ o))

pub if_statement-returns-in_err-others : goal.if_statement-returns-in_err-others
if_statement-returns-in_err-others t c = exit _ _ _ c.from_residual-in_err-others.ensures.1 c.in_err-others.ensures.reads (λ k ds v o. o_rule (c.in_ok-begin.ensures.reads _ _ _ _ (c.in_ok-first.ensures.reads _ _ _ o)))

pub if_statement-returns-in_err-otherwise : goal.if_statement-returns-in_err-otherwise
if_statement-returns-in_err-otherwise t c = exit _ _ _ c.from_residual-in_err-otherwise.ensures.1 c.in_err-otherwise.ensures.reads (λ k ds v o. o_rule (c.in_ok-begin.ensures.reads _ _ _ _ (c.in_ok-first.ensures.reads _ _ _ (c.in_ok-others.ensures.reads _ _ _ o))))

pub if_statement-returns : goal.if_statement-returns
if_statement-returns t c = completes _ c.args.start c.in_ok-otherwise.rest _ (c.end_if.ensures c.args.room) (search rules) (λ k ds v o. o_rule (c.in_ok-begin.ensures.reads _ _ _ _ (c.in_ok-first.ensures.reads _ _ _ (c.in_ok-others.ensures.reads _ _ _ (c.in_ok-otherwise.ensures.reads _ _ _ o)))))

pub statement-returns-then-is : goal.statement-returns-then-is
statement-returns-then-is t c = record { reads = hand_on _ c.args.start _ (c.null.ensures.reads c.args.room) (λ k ds v o. o_rule (o_this (sym c.is.ensures ∙ c.if-is.true) o)); shorter = c.null.ensures.shorter }

pub statement-returns-then-is-2 : goal.statement-returns-then-is-2
statement-returns-then-is-2 t c = record { reads = hand_on _ c.args.start _ c.name_statement.ensures.reads (λ k ds v o. o_rule (o_other (sym c.is.ensures ∙ c.if-is.false) (o_this (sym c.is-2.ensures ∙ c.if-is-2.true) o))); shorter = c.name_statement.ensures.shorter }

pub statement-returns-then-is-3 : goal.statement-returns-then-is-3
statement-returns-then-is-3 t c = record { reads = hand_on _ c.args.start _ c.if_statement.ensures.reads (λ k ds v o. o_rule (o_other (sym c.is.ensures ∙ c.if-is.false) (o_other (sym c.is-2.ensures ∙ c.if-is-2.false) (o_this (sym c.is-3.ensures ∙ c.if-is-3.true) o)))); shorter = c.if_statement.ensures.shorter }

pub statement-returns-then-is_one_of : goal.statement-returns-then-is_one_of
statement-returns-then-is_one_of t c = completes _ c.args.start c.args.start _ c.loop_statement.ensures (omega arith) (λ k ds v o. o_rule (o_other (sym c.is.ensures ∙ c.if-is.false) (o_other (sym c.is-2.ensures ∙ c.if-is-2.false) (o_other (sym c.is-3.ensures ∙ c.if-is-3.false) (o_this (sym c.is_one_of.ensures ∙ c.if-is_one_of.true) o)))))

pub statement-returns-then-is_one_of-2 : goal.statement-returns-then-is_one_of-2
statement-returns-then-is_one_of-2 t c = completes _ c.args.start c.args.start _ c.block.ensures (omega arith) (λ k ds v o. o_rule (o_other (sym c.is.ensures ∙ c.if-is.false) (o_other (sym c.is-2.ensures ∙ c.if-is-2.false) (o_other (sym c.is-3.ensures ∙ c.if-is-3.false) (o_other (sym c.is_one_of.ensures ∙ c.if-is_one_of.false) (o_this (sym c.is_one_of-2.ensures ∙ c.if-is_one_of-2.true) o))))))

pub statement-returns-then-is-4 : goal.statement-returns-then-is-4
statement-returns-then-is-4 t c = record { reads = hand_on _ c.args.start _ c.exit.ensures.reads (λ k ds v o. o_rule (o_other (sym c.is.ensures ∙ c.if-is.false) (o_other (sym c.is-2.ensures ∙ c.if-is-2.false) (o_other (sym c.is-3.ensures ∙ c.if-is-3.false) (o_other (sym c.is_one_of.ensures ∙ c.if-is_one_of.false) (o_other (sym c.is_one_of-2.ensures ∙ c.if-is_one_of-2.false) (o_this (sym c.is-4.ensures ∙ c.if-is-4.true) o))))))); shorter = c.exit.ensures.shorter }

pub statement-returns-then-is-5 : goal.statement-returns-then-is-5
statement-returns-then-is-5 t c = record { reads = hand_on _ c.args.start _ c.return_statement.ensures.reads (λ k ds v o. o_rule (o_other (sym c.is.ensures ∙ c.if-is.false) (o_other (sym c.is-2.ensures ∙ c.if-is-2.false) (o_other (sym c.is-3.ensures ∙ c.if-is-3.false) (o_other (sym c.is_one_of.ensures ∙ c.if-is_one_of.false) (o_other (sym c.is_one_of-2.ensures ∙ c.if-is_one_of-2.false) (o_other (sym c.is-4.ensures ∙ c.if-is-4.false) (o_this (sym c.is-5.ensures ∙ c.if-is-5.true) o)))))))); shorter = c.return_statement.ensures.shorter }

pub statement-returns-then-is-6 : goal.statement-returns-then-is-6
statement-returns-then-is-6 t c = record { reads = hand_on _ c.args.start _ (c.raise.ensures.reads c.args.room) (λ k ds v o. o_rule (o_other (sym c.is.ensures ∙ c.if-is.false) (o_other (sym c.is-2.ensures ∙ c.if-is-2.false) (o_other (sym c.is-3.ensures ∙ c.if-is-3.false) (o_other (sym c.is_one_of.ensures ∙ c.if-is_one_of.false) (o_other (sym c.is_one_of-2.ensures ∙ c.if-is_one_of-2.false) (o_other (sym c.is-4.ensures ∙ c.if-is-4.false) (o_other (sym c.is-5.ensures ∙ c.if-is-5.false) (o_this (sym c.is-6.ensures ∙ c.if-is-6.true) o))))))))); shorter = c.raise.ensures.shorter }

pub statement-returns-then-is-7 : goal.statement-returns-then-is-7
statement-returns-then-is-7 t c = record { reads = hand_on _ c.args.start _ c.accepting.ensures.reads (λ k ds v o. o_rule (o_other (sym c.is.ensures ∙ c.if-is.false) (o_other (sym c.is-2.ensures ∙ c.if-is-2.false) (o_other (sym c.is-3.ensures ∙ c.if-is-3.false) (o_other (sym c.is_one_of.ensures ∙ c.if-is_one_of.false) (o_other (sym c.is_one_of-2.ensures ∙ c.if-is_one_of-2.false) (o_other (sym c.is-4.ensures ∙ c.if-is-4.false) (o_other (sym c.is-5.ensures ∙ c.if-is-5.false) (o_other (sym c.is-6.ensures ∙ c.if-is-6.false) (o_this (sym c.is-7.ensures ∙ c.if-is-7.true) o)))))))))); shorter = c.accepting.ensures.shorter }

pub statement-returns-then-is-8 : goal.statement-returns-then-is-8
statement-returns-then-is-8 t c = record { reads = hand_on _ c.args.start _ c.delay_statement.ensures.reads (λ k ds v o. o_rule (o_other (sym c.is.ensures ∙ c.if-is.false) (o_other (sym c.is-2.ensures ∙ c.if-is-2.false) (o_other (sym c.is-3.ensures ∙ c.if-is-3.false) (o_other (sym c.is_one_of.ensures ∙ c.if-is_one_of.false) (o_other (sym c.is_one_of-2.ensures ∙ c.if-is_one_of-2.false) (o_other (sym c.is-4.ensures ∙ c.if-is-4.false) (o_other (sym c.is-5.ensures ∙ c.if-is-5.false) (o_other (sym c.is-6.ensures ∙ c.if-is-6.false) (o_other (sym c.is-7.ensures ∙ c.if-is-7.false) (o_this (sym c.is-8.ensures ∙ c.if-is-8.true) o))))))))))); shorter = c.delay_statement.ensures.shorter }

pub statement-returns-then-is-9 : goal.statement-returns-then-is-9
statement-returns-then-is-9 t c = record { reads = hand_on _ c.args.start _ c.select.ensures.reads (λ k ds v o. o_rule (o_other (sym c.is.ensures ∙ c.if-is.false) (o_other (sym c.is-2.ensures ∙ c.if-is-2.false) (o_other (sym c.is-3.ensures ∙ c.if-is-3.false) (o_other (sym c.is_one_of.ensures ∙ c.if-is_one_of.false) (o_other (sym c.is_one_of-2.ensures ∙ c.if-is_one_of-2.false) (o_other (sym c.is-4.ensures ∙ c.if-is-4.false) (o_other (sym c.is-5.ensures ∙ c.if-is-5.false) (o_other (sym c.is-6.ensures ∙ c.if-is-6.false) (o_other (sym c.is-7.ensures ∙ c.if-is-7.false) (o_other (sym c.is-8.ensures ∙ c.if-is-8.false) (o_this (sym c.is-9.ensures ∙ c.if-is-9.true) o)))))))))))); shorter = c.select.ensures.shorter }

pub statement-returns-then-is-10 : goal.statement-returns-then-is-10
statement-returns-then-is-10 t c = record { reads = hand_on _ c.args.start _ c.abort.ensures.reads (λ k ds v o. o_rule (o_other (sym c.is.ensures ∙ c.if-is.false) (o_other (sym c.is-2.ensures ∙ c.if-is-2.false) (o_other (sym c.is-3.ensures ∙ c.if-is-3.false) (o_other (sym c.is_one_of.ensures ∙ c.if-is_one_of.false) (o_other (sym c.is_one_of-2.ensures ∙ c.if-is_one_of-2.false) (o_other (sym c.is-4.ensures ∙ c.if-is-4.false) (o_other (sym c.is-5.ensures ∙ c.if-is-5.false) (o_other (sym c.is-6.ensures ∙ c.if-is-6.false) (o_other (sym c.is-7.ensures ∙ c.if-is-7.false) (o_other (sym c.is-8.ensures ∙ c.if-is-8.false) (o_other (sym c.is-9.ensures ∙ c.if-is-9.false) (o_this (sym c.is-10.ensures ∙ c.if-is-10.true) o))))))))))))); shorter = c.abort.ensures.shorter }

pub statement-returns : goal.statement-returns
statement-returns t c = record { reads = hand_on _ c.args.start _ c.requeue.ensures.reads (λ k ds v o. o_rule (o_other (sym c.is.ensures ∙ c.if-is.false) (o_other (sym c.is-2.ensures ∙ c.if-is-2.false) (o_other (sym c.is-3.ensures ∙ c.if-is-3.false) (o_other (sym c.is_one_of.ensures ∙ c.if-is_one_of.false) (o_other (sym c.is_one_of-2.ensures ∙ c.if-is_one_of-2.false) (o_other (sym c.is-4.ensures ∙ c.if-is-4.false) (o_other (sym c.is-5.ensures ∙ c.if-is-5.false) (o_other (sym c.is-6.ensures ∙ c.if-is-6.false) (o_other (sym c.is-7.ensures ∙ c.if-is-7.false) (o_other (sym c.is-8.ensures ∙ c.if-is-8.false) (o_other (sym c.is-9.ensures ∙ c.if-is-9.false) (o_other (sym c.is-10.ensures ∙ c.if-is-10.false) (o_last o)))))))))))))); shorter = c.requeue.ensures.shorter }

pub more_statements-turns-preserved : goal.more_statements-turns-preserved
more_statements-turns-preserved t c = record { turns = turns_push c.in_ok-next.next.value c.turns.invariant.turns (sym c.is_one_of.ensures ∙ c.turns-test.true) c.in_ok-next.ensures.reads c.in_ok-all.ensures; shorter = omega (arith, c.in_ok-next.ensures.shorter, c.turns.invariant.shorter) }

pub more_statements-returns-in_err-next : goal.more_statements-returns-in_err-next
more_statements-returns-in_err-next t c = exit _ _ _ c.from_residual.ensures.1 c.in_err-next.ensures.reads (λ k ds v o. c.turns.invariant.turns.by _ _ _ (o_more (sym c.is_one_of.ensures ∙ c.turns-test.true) o))

pub block-returns-in_err-declare : goal.block-returns-in_err-declare
block-returns-in_err-declare t c = exit_in _ _ _ c.from_residual.ensures.1 c.in_err-declare.ensures.reads (λ k ds v o. o_rule o)

pub block-returns-in_err-body : goal.block-returns-in_err-body
block-returns-in_err-body t c = exit_in _ _ _ c.from_residual-in_err-body.ensures.1 c.in_err-body.ensures.reads (λ k ds v o. o_rule (c.in_ok-declare.ensures.reads _ _ _ o))

pub block-returns : goal.block-returns
block-returns t c = record { reads = λ k ds v o. (_, o_rule (c.in_ok-declare.ensures.reads _ _ _ (c.in_ok-body.ensures.reads _ _ _ o)), block_items c.in_ok-statement.statement c.args.label c.in_ok-declare.declare c.in_ok-body.body ds c.in_ok-statement.ensures); shorter = omega (arith, c.in_ok-declare.ensures.shorter, c.in_ok-body.ensures.shorter) }

pub handler-returns-in_err-rest : goal.handler-returns-in_err-rest
handler-returns-in_err-rest t c = exit _ _ _ c.from_residual.ensures.1 (c.in_err-rest.ensures.reads c.args.room) (λ k ds v o. o_rule o)

pub handler-returns-in_err-choices : goal.handler-returns-in_err-choices
handler-returns-in_err-choices t c = exit _ _ _ c.from_residual-in_err-choices.ensures.1 (c.in_err-choices.ensures.reads c.args.room) (λ k ds v o. o_rule (c.in_ok-rest.ensures.reads _ _ _ _ o))

pub handler-returns-in_err-rest-2 : goal.handler-returns-in_err-rest-2
handler-returns-in_err-rest-2 t c = exit _ _ _ c.from_residual-in_err-rest-2.ensures.1 (c.in_err-rest-2.ensures.reads c.args.room) (λ k ds v o. o_rule (c.in_ok-rest.ensures.reads _ _ _ _ (c.in_ok-choices.ensures.reads _ _ _ _ o)))

pub handler-returns-in_err-inner : goal.handler-returns-in_err-inner
handler-returns-in_err-inner t c = exit _ _ _ c.from_residual-in_err-inner.ensures.1 c.in_err-inner.ensures.reads (λ k ds v o. o_rule (c.in_ok-rest.ensures.reads _ _ _ _ (c.in_ok-choices.ensures.reads _ _ _ _ (c.in_ok-rest-2.ensures.reads _ _ _ _ o))))

pub handler-returns : goal.handler-returns
handler-returns t c = record { reads = λ k ds v o. to (o_rule (c.in_ok-rest.ensures.reads _ _ _ _ (c.in_ok-choices.ensures.reads _ _ _ _ (c.in_ok-rest-2.ensures.reads _ _ _ _ (c.in_ok-inner.ensures.reads _ _ _ o))))) (handler_items c.in_ok-handler.handler c.in_ok-choices.choices c.in_ok-inner.inner ds c.in_ok-handler.ensures); shorter = omega (arith, c.in_ok-rest.ensures.shorter, c.in_ok-choices.ensures.shorter, c.in_ok-rest-2.ensures.shorter, c.in_ok-inner.ensures.shorter) }

pub body-returns-in_err-begin : goal.body-returns-in_err-begin
body-returns-in_err-begin t c = exit _ _ _ c.from_residual.ensures.1 (c.in_err-begin.ensures.reads c.args.room) (λ k ds v o. o_rule o)

pub body-returns : goal.body-returns
body-returns t c = completes _ c.args.start c.in_ok-begin.rest _ c.in_body.ensures (search rules) (λ k ds v o. o_rule (c.in_ok-begin.ensures.reads _ _ _ _ o))

pub in_body-returns-in_err-inner : goal.in_body-returns-in_err-inner
in_body-returns-in_err-inner t c = exit_in _ _ _ c.from_residual.ensures.1 c.in_err-inner.ensures.reads (λ k ds v o. o)

pub in_body-returns-in_err-handlers : goal.in_body-returns-in_err-handlers
in_body-returns-in_err-handlers t c = exit_in _ _ _ c.from_residual-in_err-handlers.ensures.1 c.in_err-handlers.ensures.reads (λ k ds v o. c.in_ok-inner.ensures.reads _ _ _ o)

pub in_body-returns : goal.in_body-returns
in_body-returns t c =
    completes_in (λ ds. boxed_statements_item c.in_ok-inner.inner ∷ vec_item handler_item c.in_ok-handlers.handlers ∷ ds) _ c.args.start c.in_ok-handlers.rest _ (c.end_body.ensures c.args.room) (search rules)
    (λ k ds v o. c.in_ok-inner.ensures.reads _ _ _ (c.in_ok-handlers.ensures.reads _ _ _ o)) (λ ds. refl)

abbrev head_symbols : List Symbol
head_symbols = N g.Identifier ∷ Opt g.Formals ∷ []

pub accept_statement-returns-in_err-begin : goal.accept_statement-returns-in_err-begin
accept_statement-returns-in_err-begin t c = exit _ _ _ c.from_residual.ensures.1 (c.in_err-begin.ensures.reads c.args.room) (λ k ds v o. o_rule o)

pub accept_statement-returns-in_err-parts : goal.accept_statement-returns-in_err-parts
accept_statement-returns-in_err-parts t c = exit_all head_symbols _ _ _ _ c.from_residual-in_err-parts.ensures.1 c.in_err-parts.ensures.reads (λ k ds v o. o_rule (c.in_ok-begin.ensures.reads _ _ _ _ o))

pub accept_statement-returns-in_err-doing : goal.accept_statement-returns-in_err-doing
accept_statement-returns-in_err-doing t c = exit _ _ _ c.from_residual-in_err-doing.ensures.1 c.in_err-doing.ensures.reads (λ k ds v o. o_rule (c.in_ok-begin.ensures.reads _ _ _ _ (c.in_ok-parts.ensures.reads _ _ _ o)))

pub accept_statement-returns : goal.accept_statement-returns
accept_statement-returns t c = record {
  reads = λ k ds v o.
      to (o_rule (c.in_ok-begin.ensures.reads _ _ _ _ (c.in_ok-parts.ensures.reads _ _ _ (c.in_ok-doing.ensures.reads _ _ _ o))))
      (accept_items c.in_ok-statement.statement (token c.in_ok-begin.begin.now) c.in_ok-parts.parts c.in_ok-doing.doing ds (rw (sym c.at.ensures) c.in_ok-statement.ensures));
  shorter = omega (arith, c.in_ok-begin.ensures.shorter, c.in_ok-parts.ensures.shorter, c.in_ok-doing.ensures.shorter);
}

pub opt_statements-returns-in_err-inner : goal.opt_statements-returns-in_err-inner
opt_statements-returns-in_err-inner t c = exit _ _ _ c.from_residual.ensures.1 c.in_err-inner.ensures.reads (λ k ds v o. o_yes (sym c.is_one_of.ensures ∙ c.if-is_one_of.true) o)

pub opt_statements-returns-then-is_one_of : goal.opt_statements-returns-then-is_one_of
opt_statements-returns-then-is_one_of t c = record { reads = λ k ds v o. o_yes (sym c.is_one_of.ensures ∙ c.if-is_one_of.true) (c.in_ok-inner.ensures.reads _ _ _ o); shorter = omega (arith, c.in_ok-inner.ensures.shorter) }

pub opt_statements-returns : goal.opt_statements-returns
opt_statements-returns t c = record { reads = λ k ds v o. o_no (sym c.is_one_of.ensures ∙ c.if-is_one_of.false) o; shorter = omega arith }

pub accept_alternative-returns-in_err-accept : goal.accept_alternative-returns-in_err-accept
accept_alternative-returns-in_err-accept t c = exit _ _ _ c.from_residual.ensures.1 c.in_err-accept.ensures.reads (λ k ds v o. o_rule o)

pub accept_alternative-returns-in_err-behind : goal.accept_alternative-returns-in_err-behind
accept_alternative-returns-in_err-behind t c = exit _ _ _ c.from_residual-in_err-behind.ensures.1 c.in_err-behind.ensures.reads (λ k ds v o. o_rule (c.in_ok-accept.ensures.reads _ _ _ o))

pub accept_alternative-returns : goal.accept_alternative-returns
accept_alternative-returns t c = record {
  reads = λ k ds v o. to (o_rule (c.in_ok-accept.ensures.reads _ _ _ (c.in_ok-behind.ensures.reads _ _ _ o))) (accept_alternative_items c.in_ok-alternative.alternative c.in_ok-accept.accept c.in_ok-behind.behind ds c.in_ok-alternative.ensures);
  shorter = omega (arith, c.in_ok-accept.ensures.shorter, c.in_ok-behind.ensures.shorter);
}

pub delay_alternative-returns-in_err-delay : goal.delay_alternative-returns-in_err-delay
delay_alternative-returns-in_err-delay t c = exit _ _ _ c.from_residual.ensures.1 c.in_err-delay.ensures.reads (λ k ds v o. o_rule o)

pub delay_alternative-returns-in_err-behind : goal.delay_alternative-returns-in_err-behind
delay_alternative-returns-in_err-behind t c = exit _ _ _ c.from_residual-in_err-behind.ensures.1 c.in_err-behind.ensures.reads (λ k ds v o. o_rule (c.in_ok-delay.ensures.reads _ _ _ o))

pub delay_alternative-returns : goal.delay_alternative-returns
delay_alternative-returns t c = record {
  reads = λ k ds v o. to (o_rule (c.in_ok-delay.ensures.reads _ _ _ (c.in_ok-behind.ensures.reads _ _ _ o))) (delay_alternative_items c.in_ok-alternative.alternative c.in_ok-delay.delay c.in_ok-behind.behind ds c.in_ok-alternative.ensures);
  shorter = omega (arith, c.in_ok-delay.ensures.shorter, c.in_ok-behind.ensures.shorter);
}

pub alternative-returns-in-Accept : goal.alternative-returns-in-Accept
alternative-returns-in-Accept t c = rw c.in-Accept.is c.accept_alternative.ensures

pub alternative-returns-in-Delay : goal.alternative-returns-in-Delay
alternative-returns-in-Delay t c = rw c.in-Delay.is c.delay_alternative.ensures

pub alternative-returns-in-Terminate : goal.alternative-returns-in-Terminate
alternative-returns-in-Terminate t c = rw c.in-Terminate.is (at_room c.args.room c.terminate_alternative.ensures)

pub else_part-returns-in_err-rest : goal.else_part-returns-in_err-rest
else_part-returns-in_err-rest t c = exit _ _ _ c.from_residual.ensures.1 (c.in_err-rest.ensures.reads c.args.room) (λ k ds v o. o_rule o)

pub else_part-returns : goal.else_part-returns
else_part-returns t c = record { reads = hand_after _ c.args.start c.in_ok-rest.rest _ c.statements.ensures.reads (λ k ds v o. o_rule (c.in_ok-rest.ensures.reads _ _ _ _ o)); shorter = fewer_still c.args.start c.in_ok-rest.rest _ c.statements.ensures.shorter (omega (arith, c.in_ok-rest.ensures.shorter)) }

pub after_accepts-returns-in_err-inner : goal.after_accepts-returns-in_err-inner
after_accepts-returns-in_err-inner t c = λ no_or.
    let e = sym c.is.ensures ∙ c.if-is.true in
    exit _ _ _ c.from_residual.ensures.1 c.in_err-inner.ensures.reads (λ k ds v o. o_yes (in_this kind.Else (kind.Or ∷ []) c.args.start.tokens.now e) (o_rule (o_this e (o_rule o))))

pub after_accepts-returns-then-is : goal.after_accepts-returns-then-is
after_accepts-returns-then-is t c = λ no_or.
    let e = sym c.is.ensures ∙ c.if-is.true in
    record { reads = λ k ds v o. o_yes (in_this kind.Else (kind.Or ∷ []) c.args.start.tokens.now e) (o_rule (o_this e (o_rule (c.in_ok-inner.ensures.reads _ _ _ o)))); shorter = omega (arith, c.in_ok-inner.ensures.shorter) }

pub after_accepts-returns : goal.after_accepts-returns
after_accepts-returns t c = λ no_or. record { reads = λ k ds v o. o_no (in_none kind.Else (kind.Or ∷ []) c.args.start.tokens.now (sym c.is.ensures ∙ c.if-is.false) no_or) o; shorter = omega arith }

pub after_last-returns-in-Accepts : goal.after_last-returns-in-Accepts
after_last-returns-in-Accepts t c = λ no_or. rw c.in-Accepts.is (accepts_end c.args.start _ (c.after_accepts.ensures no_or))

pub after_last-returns-in-AcceptsAndDelays : goal.after_last-returns-in-AcceptsAndDelays
after_last-returns-in-AcceptsAndDelays t c = λ no_or. ⊎_elim (λ e. rw e (delays_end c.args.start no_or)) (λ e. rw e (terminate_end c.args.start no_or)) c.in-AcceptsAndDelays.is

pub after_last-returns-in-Delays : goal.after_last-returns-in-Delays
after_last-returns-in-Delays t c = λ no_or. ⊎_elim (λ e. rw e (no_accept c.args.start no_or)) (λ e. rw e (no_first c.args.start no_or)) c.in-Delays.is

pub more_alternatives-turns-init : goal.more_alternatives-turns-init
more_alternatives-turns-init t c = record { turns = chain_none c.args.seen _ _ c.new-all.ensures.items; shorter = search rules }

pub more_alternatives-turns-preserved : goal.more_alternatives-turns-preserved
more_alternatives-turns-preserved t c = record {
  turns = chain_push c.in_ok-guard.guard c.in_ok-one.one c.in_ok-one-2.one c.turns.invariant.turns c.in-Some.ensures.reads.0 (word_passes c.in-Some.ensures.reads) c.in_ok-guard.ensures.reads c.next_form-form.ensures c.in_ok-one.ensures.reads c.in_ok-one-2.ensures c.in_ok-all.ensures;
  shorter = omega (arith, c.in-Some.ensures.shorter, c.in_ok-guard.ensures.shorter, c.in_ok-one.ensures.shorter, c.turns.invariant.shorter);
}

pub more_alternatives-returns-in_err-guard : goal.more_alternatives-returns-in_err-guard
more_alternatives-returns-in_err-guard t c = exit_may _ _ _ c.from_residual.ensures.1
    (fails_on (remaining c.args.seen) (λ k. turn c.turns.so_far ++ k) _ c.in_err-guard.ensures.reads (λ k ds v o. let w = chain_turn c.turns.invariant.turns c.in-Some.ensures.reads.0 (word_passes c.in-Some.ensures.reads) k ds v o in (w.0, w.1)))

pub more_alternatives-returns-in_err-one : goal.more_alternatives-returns-in_err-one
more_alternatives-returns-in_err-one t c = exit_may _ _ _ c.from_residual-in_err-one.ensures.1
    (fails_on (remaining c.args.seen) (λ k. remaining c.next_form-form.result.1 ++ k) _ c.in_err-one.ensures.reads
    (λ k ds v o. let w = chain_alternative c.turns.invariant.turns c.in-Some.ensures.reads.0 (word_passes c.in-Some.ensures.reads) c.in_ok-guard.ensures.reads c.next_form-form.ensures k ds v o in (w.0, w.1)))

pub more_alternatives-returns-in_err-otherwise : goal.more_alternatives-returns-in_err-otherwise
more_alternatives-returns-in_err-otherwise t c = exit_may _ _ _ c.from_residual-in_err-otherwise.ensures.1
    (fails_more_on (remaining c.args.seen) (remaining c.turns.so_far) _ (c.in_err-otherwise.ensures c.in_default.ensures.reads).reads (λ k ds v o. let w = c.turns.invariant.turns.by k ds v o in (w.0, w.1)))

pub more_alternatives-returns : goal.more_alternatives-returns
more_alternatives-returns t c =
    let h = c.in_ok-otherwise.ensures c.in_default.ensures.reads in
    record { reads = chain_end c.args.start c.turns.rest c.in_ok-otherwise.rest c.turns.all c.in_ok-otherwise.otherwise c.turns.invariant.turns h.reads; shorter = omega (arith, h.shorter, c.turns.invariant.shorter) }

-- what a selective accept is read by, behind its first word
abbrev accept_symbols : List Symbol
accept_symbols = N g.AcceptSelect ∷ []

pub select_accept-returns-in_err-guard : goal.select_accept-returns-in_err-guard
select_accept-returns-in_err-guard t c = exit_in _ _ _ c.from_residual.ensures.1 c.in_err-guard.ensures.reads (λ k ds v o. o_rule o)

pub select_accept-returns-in_err-first : goal.select_accept-returns-in_err-first
select_accept-returns-in_err-first t c = exit_completes _ _ _ c.from_residual-in_err-first.ensures.1
    (fails_on accept_symbols (λ k. remaining c.first_form-form.result.1 ++ k) _ c.in_err-first.ensures.reads (λ k ds v o. let w = begins_on c.first_form-form.ensures k ds v o in (_, o_rule (c.in_ok-guard.ensures.reads _ _ _ w.1))))

pub select_accept-returns-in_err-parts : goal.select_accept-returns-in_err-parts
select_accept-returns-in_err-parts t c = exit_completes _ _ _ c.from_residual-in_err-parts.ensures.1
    (fails_more_on accept_symbols (remaining c.first_form-form.result.1) _ c.in_err-parts.ensures.reads (λ k ds v o. let w = begins_on c.first_form-form.ensures k _ v (c.in_ok-first.ensures.reads _ _ _ o) in (_, o_rule (c.in_ok-guard.ensures.reads _ _ _ w.1))))

pub select_accept-returns : goal.select_accept-returns
select_accept-returns t c = record {
  reads = λ k ds v o.
      let w = c.in_ok-parts.ensures.reads k ds v o in
      let u = begins_on c.first_form-form.ensures k _ v (c.in_ok-first.ensures.reads _ _ _ w.1) in (
        _,
        o_rule (c.in_ok-guard.ensures.reads _ _ _ u.1),
        ap (λ l. made g.Select (token c.args.begin.now ∷ made g.AcceptSelect (guard_item c.in_ok-guard.guard ∷ l))) (u.2 ∙ ap (λ l. made g.AcceptsOnly (boxed_alternative_item c.in_ok-first.first ∷ l)) w.2)
            ∙ select_items c.in_ok-statement.statement (token c.args.begin.now) c.in_ok-guard.guard c.in_ok-first.first c.in_ok-first-2.first c.in_ok-parts.parts ds c.in_ok-first-2.ensures (rw (sym c.at.ensures) c.in_ok-statement.ensures),
      );
  shorter = omega (arith, c.in_ok-guard.ensures.shorter, c.in_ok-first.ensures.shorter, c.in_ok-parts.ensures.shorter);
}

pub or_delay-returns-in_err-rest : goal.or_delay-returns-in_err-rest
or_delay-returns-in_err-rest t c = exit _ _ _ c.from_residual.ensures.1 (c.in_err-rest.ensures.reads c.args.room) (λ k ds v o. o_rule o)

pub or_delay-returns-in_err-delay : goal.or_delay-returns-in_err-delay
or_delay-returns-in_err-delay t c = exit _ _ _ c.from_residual-in_err-delay.ensures.1 c.in_err-delay.ensures.reads (λ k ds v o. o_rule (c.in_ok-rest.ensures.reads _ _ _ _ o))

pub or_delay-returns-in_err-behind : goal.or_delay-returns-in_err-behind
or_delay-returns-in_err-behind t c = exit _ _ _ c.from_residual-in_err-behind.ensures.1 c.in_err-behind.ensures.reads (λ k ds v o. o_rule (c.in_ok-rest.ensures.reads _ _ _ _ (c.in_ok-delay.ensures.reads _ _ _ o)))

pub or_delay-returns : goal.or_delay-returns
or_delay-returns t c = record {
  reads = λ k ds v o. to (o_rule (c.in_ok-rest.ensures.reads _ _ _ _ (c.in_ok-delay.ensures.reads _ _ _ (c.in_ok-behind.ensures.reads _ _ _ o)))) (or_delay_items c.in_ok-otherwise.otherwise c.in_ok-delay.delay c.in_ok-behind.behind ds c.in_ok-otherwise.ensures);
  shorter = omega (arith, c.in_ok-rest.ensures.shorter, c.in_ok-delay.ensures.shorter, c.in_ok-behind.ensures.shorter);
}

pub select_call-returns-in_err-call : goal.select_call-returns-in_err-call
select_call-returns-in_err-call t c = exit_in _ _ _ c.from_residual.ensures.1 c.in_err-call.ensures.reads (λ k ds v o. o_rule o)

pub select_call-returns-in_err-rest : goal.select_call-returns-in_err-rest
select_call-returns-in_err-rest t c = exit_in _ _ _ c.from_residual-in_err-rest.ensures.1 (c.in_err-rest.ensures.reads c.args.room) (λ k ds v o. o_rule (c.in_ok-call.ensures.reads _ _ _ o))

pub select_call-returns-in_err-behind : goal.select_call-returns-in_err-behind
select_call-returns-in_err-behind t c = exit_in _ _ _ c.from_residual-in_err-behind.ensures.1 c.in_err-behind.ensures.reads (λ k ds v o. o_rule (c.in_ok-call.ensures.reads _ _ _ (c.in_ok-rest.ensures.reads _ _ _ _ o)))

pub select_call-returns-in_err-other : goal.select_call-returns-in_err-other
select_call-returns-in_err-other t c = exit_in _ _ _ c.from_residual-in_err-other.ensures.1 c.in_err-other.ensures.reads (λ k ds v o. o_rule (c.in_ok-call.ensures.reads _ _ _ (c.in_ok-rest.ensures.reads _ _ _ _ (c.in_ok-behind.ensures.reads _ _ _ o))))

pub select_call-returns : goal.select_call-returns
select_call-returns t c = record {
  reads = λ k ds v o. (
    _,
    o_rule (c.in_ok-call.ensures.reads _ _ _ (c.in_ok-rest.ensures.reads _ _ _ _ (c.in_ok-behind.ensures.reads _ _ _ (c.in_ok-other.ensures.reads _ _ _ o)))),
    select_call_items c.in_ok-statement.statement (token c.args.begin.now) c.in_ok-call.call c.in_ok-behind.behind c.in_ok-other.other ds (rw (sym c.at.ensures) c.in_ok-statement.ensures),
  );
  shorter = omega (arith, c.in_ok-call.ensures.shorter, c.in_ok-rest.ensures.shorter, c.in_ok-behind.ensures.shorter, c.in_ok-other.ensures.shorter);
}

pub select_rest-returns-then-is : goal.select_rest-returns-then-is
select_rest-returns-then-is t c = completes_in (λ ds. ds) _ c.args.start c.args.start _ c.select_call.ensures (omega arith) (λ k ds v o. o_rule (o_this (sym c.is.ensures ∙ c.if-is.true) o)) (λ ds. refl)

pub select_rest-returns : goal.select_rest-returns
select_rest-returns t c = completes_in (λ ds. ds) _ c.args.start c.args.start _ c.select_accept.ensures (omega arith) (λ k ds v o. o_rule (o_other (sym c.is.ensures ∙ c.if-is.false) (o_last o))) (λ ds. refl)

abbrev rest_symbols : List Symbol
rest_symbols = N g.SelectRest ∷ []

-- the symbols that end it
abbrev ending : List Symbol → List Symbol
ending k = T kind.End ∷ T kind.Select ∷ T kind.Semicolon ∷ k

pub select-returns-in_err-begin : goal.select-returns-in_err-begin
select-returns-in_err-begin t c = exit _ _ _ c.from_residual.ensures.1 (c.in_err-begin.ensures.reads c.args.room) (λ k ds v o. o_rule o)

pub select-returns-in_err-statement : goal.select-returns-in_err-statement
select-returns-in_err-statement t c = exit_all rest_symbols ending _ _ _ c.from_residual-in_err-statement.ensures.1 c.in_err-statement.ensures.reads (λ k ds v o. o_rule (c.in_ok-begin.ensures.reads _ _ _ _ o))

pub select-returns-in_err-statement-2 : goal.select-returns-in_err-statement-2
select-returns-in_err-statement-2 t c = exit _ _ _ c.from_residual-in_err-statement-2.ensures.1 (c.in_err-statement-2.ensures.reads c.args.room)
    (λ k ds v o. let w = c.in_ok-statement.ensures.reads (ending k) ds v o in to (o_rule (c.in_ok-begin.ensures.reads _ _ _ _ w.1)) w.2)

pub select-returns-in_err-statement-3 : goal.select-returns-in_err-statement-3
select-returns-in_err-statement-3 t c = exit _ _ _ c.from_residual-in_err-statement-3.ensures.1 (c.in_err-statement-3.ensures.reads c.args.room)
    (λ k ds v o. let w = c.in_ok-statement.ensures.reads (ending k) ds v (c.in_ok-statement-2.ensures.reads.1 _ _ _ _ o) in to (o_rule (c.in_ok-begin.ensures.reads _ _ _ _ w.1)) w.2)

pub select-returns : goal.select-returns
select-returns t c =
    ends c.args.start c.in_ok-statement-3.rest _ _ c.ended-3.ensures (omega (arith, c.in_ok-begin.ensures.shorter, c.in_ok-statement.ensures.shorter, c.in_ok-statement-2.ensures.shorter, c.in_ok-statement-3.ensures.shorter))
    (λ k ds v o.
    let w = c.in_ok-statement.ensures.reads (ending k) ds v (c.in_ok-statement-2.ensures.reads.1 _ _ _ _ (c.in_ok-statement-3.ensures.reads.1 _ _ _ _ o)) in
    to (o_rule (c.in_ok-begin.ensures.reads _ _ _ _ w.1)) w.2)
    (λ ds. rw (c.in_ok-statement-3.ensures.reads.0, c.in_ok-statement-2.ensures.reads.0) refl)

pub accepting-returns-in_err-accept : goal.accepting-returns-in_err-accept
accepting-returns-in_err-accept t c = exit _ _ _ c.from_residual.ensures.1 c.in_err-accept.ensures.reads (λ k ds v o. o_rule o)

pub accepting-returns : goal.accepting-returns
accepting-returns t c = record { reads = λ k ds v o. to (o_rule (c.in_ok-accept.ensures.reads _ _ _ o)) (accepting_items c.in_ok-statement.statement c.in_ok-accept.accept ds c.in_ok-statement.ensures); shorter = omega (arith, c.in_ok-accept.ensures.shorter) }

-- what the name of a body is read by
abbrev name_symbols : List Symbol
name_symbols = T kind.Body ∷ N g.Identifier ∷ T kind.Is ∷ []

pub task-returns-in_err-begin : goal.task-returns-in_err-begin
task-returns-in_err-begin t c = exit _ _ _ c.from_residual.ensures.1 (c.in_err-begin.ensures.reads c.args.room) (λ k ds v o. o_rule o)

pub task-returns-then-not-is : goal.task-returns-then-not-is
task-returns-then-not-is t c =
    completes _ c.args.start c.in_ok-begin.rest _ c.task_declaration.ensures (omega (arith, c.in_ok-begin.ensures.shorter))
    (λ k ds v o. o_rule (c.in_ok-begin.ensures.reads _ _ _ _ (o_rule (o_other (sym c.is.ensures ∙ c.if-not-is.true) (o_last o)))))

pub task-returns-in_err-name : goal.task-returns-in_err-name
task-returns-in_err-name t c =
    exit_all name_symbols _ _ _ _ c.from_residual-in_err-name.ensures.1 (c.in_err-name.ensures c.args.room).reads
    (λ k ds v o. o_rule (c.in_ok-begin.ensures.reads _ _ _ _ (o_rule (o_this (sym c.is.ensures ∙ c.if-not-is.false) (o_rule o)))))

pub task-returns-in_err-declarations : goal.task-returns-in_err-declarations
task-returns-in_err-declarations t c =
    exit _ _ _ c.from_residual-in_err-declarations.ensures.1 c.in_err-declarations.ensures.reads
    (λ k ds v o. o_rule (c.in_ok-begin.ensures.reads _ _ _ _ (o_rule (o_this (sym c.is.ensures ∙ c.if-not-is.false) (o_rule ((c.in_ok-name.ensures c.args.room).reads _ _ _ o))))))

pub task-returns-in_err-body : goal.task-returns-in_err-body
task-returns-in_err-body t c =
    exit _ _ _ c.from_residual-in_err-body.ensures.1 c.in_err-body.ensures.reads
    (λ k ds v o. o_rule (c.in_ok-begin.ensures.reads _ _ _ _ (o_rule (o_this (sym c.is.ensures ∙ c.if-not-is.false) (o_rule ((c.in_ok-name.ensures c.args.room).reads _ _ _ (c.in_ok-declarations.ensures.reads _ _ _ o)))))))

pub task-returns : goal.task-returns
task-returns t c = record {
  reads = λ k ds v o.
      to
      (o_rule (c.in_ok-begin.ensures.reads _ _ _ _ (o_rule (o_this (sym c.is.ensures ∙ c.if-not-is.false) (o_rule ((c.in_ok-name.ensures c.args.room).reads _ _ _ (c.in_ok-declarations.ensures.reads _ _ _ (c.in_ok-body.ensures.reads _ _ _ o))))))))
      (task_body_items c.in_ok-declaration.declaration (token c.in_ok-begin.begin.now) c.in_ok-name.name c.in_ok-declarations.declarations c.in_ok-body.body ds (rw (sym c.at.ensures) c.in_ok-declaration.ensures));
  shorter = omega (arith, c.in_ok-begin.ensures.shorter, (c.in_ok-name.ensures c.args.room).shorter, c.in_ok-declarations.ensures.shorter, c.in_ok-body.ensures.shorter);
}

pub protected-returns-in_err-begin : goal.protected-returns-in_err-begin
protected-returns-in_err-begin t c = exit _ _ _ c.from_residual.ensures.1 (c.in_err-begin.ensures.reads c.args.room) (λ k ds v o. o_rule o)

pub protected-returns-then-not-is : goal.protected-returns-then-not-is
protected-returns-then-not-is t c =
    completes _ c.args.start c.in_ok-begin.rest _ c.protected_declaration.ensures (omega (arith, c.in_ok-begin.ensures.shorter))
    (λ k ds v o. o_rule (c.in_ok-begin.ensures.reads _ _ _ _ (o_rule (o_other (sym c.is.ensures ∙ c.if-not-is.true) (o_last o)))))

pub protected-returns-in_err-name : goal.protected-returns-in_err-name
protected-returns-in_err-name t c =
    exit_all name_symbols _ _ _ _ c.from_residual-in_err-name.ensures.1 (c.in_err-name.ensures c.args.room).reads
    (λ k ds v o. o_rule (c.in_ok-begin.ensures.reads _ _ _ _ (o_rule (o_this (sym c.is.ensures ∙ c.if-not-is.false) (o_rule o)))))

pub protected-returns-in_err-bodies : goal.protected-returns-in_err-bodies
protected-returns-in_err-bodies t c =
    exit _ _ _ c.from_residual-in_err-bodies.ensures.1 c.in_err-bodies.ensures.reads
    (λ k ds v o. o_rule (c.in_ok-begin.ensures.reads _ _ _ _ (o_rule (o_this (sym c.is.ensures ∙ c.if-not-is.false) (o_rule ((c.in_ok-name.ensures c.args.room).reads _ _ _ o))))))

pub protected-returns : goal.protected-returns
protected-returns t c =
    completes _ c.args.start c.in_ok-bodies.rest _ (c.end_protected_body.ensures c.args.room)
    (omega (arith, c.in_ok-begin.ensures.shorter, (c.in_ok-name.ensures c.args.room).shorter, c.in_ok-bodies.ensures.shorter))
    (λ k ds v o. o_rule (c.in_ok-begin.ensures.reads _ _ _ _ (o_rule (o_this (sym c.is.ensures ∙ c.if-not-is.false) (o_rule ((c.in_ok-name.ensures c.args.room).reads _ _ _ (c.in_ok-bodies.ensures.reads _ _ _ o)))))))

pub opt_declarations-returns-then-not-is_one_of : goal.opt_declarations-returns-then-not-is_one_of
opt_declarations-returns-then-not-is_one_of t c = record {
  reads = λ k ds v o. to (o_no (sym c.is_one_of.ensures ∙ c.if-not-is_one_of.true) o) (ap (λ l. list_item declaration_item l ∷ ds) (sym c.new-all.ensures.items));
  shorter = omega arith;
}

pub opt_declarations-returns-in_err-inside : goal.opt_declarations-returns-in_err-inside
opt_declarations-returns-in_err-inside t c =
    no_level_of (vec_item declaration_item) g.Declarations g.DeclarationList _ c.args.start _ _ refl refl c.from_residual.ensures.1 c.in_err-inside.ensures (sym c.is_one_of.ensures ∙ c.if-not-is_one_of.false)

pub opt_declarations-turns-init : goal.opt_declarations-turns-init
opt_declarations-turns-init t c = record {
  deeper = c.in_ok-inside.ensures;
  opened = λ k ds v o. o_yes (sym c.is_one_of.ensures ∙ c.if-not-is_one_of.false) (o_rule (level_in c.in_ok-inside.ensures (o_rule o)));
  turns = heads_none c.new-all.ensures.items;
  shorter = omega arith;
}

pub opt_declarations-turns-preserved : goal.opt_declarations-turns-preserved
opt_declarations-turns-preserved t c = record {
  deeper = c.turns.invariant.deeper;
  opened = c.turns.invariant.opened;
  turns = heads_push c.in_ok-next.next.value c.turns.invariant.turns c.in_ok-next.ensures.reads (λ k ds v o. o_more (sym c.is_one_of-in-turns.ensures ∙ c.if-not-is_one_of-2.false) o) c.in_ok-all.ensures;
  shorter = omega (arith, c.in_ok-next.ensures.shorter, c.turns.invariant.shorter);
}

pub opt_declarations-returns-in_err-next : goal.opt_declarations-returns-in_err-next
opt_declarations-returns-in_err-next t c = exit {K = λ k. Rep g.Declaration ∷ Down ∷ k} _ _ _ c.from_residual-in_err-next.ensures.1 c.in_err-next.ensures.reads (λ k ds v o. c.turns.invariant.opened _ _ _ (c.turns.invariant.turns.by _ _ _ o))

pub opt_declarations-returns-then-not-is_one_of-2 : goal.opt_declarations-returns-then-not-is_one_of-2
opt_declarations-returns-then-not-is_one_of-2 t c = record {
  reads = list_ends {K = λ k. Down ∷ k} c.in_ok-next.next.value c.turns.invariant.opened c.turns.invariant.turns c.in_ok-next.ensures.reads (sym c.is_one_of-in-turns.ensures ∙ c.if-not-is_one_of-2.true) c.in_ok-all.ensures (λ k ds v o. level_out c.turns.invariant.deeper o);
  shorter = omega (arith, c.in_ok-next.ensures.shorter, c.turns.invariant.shorter);
}

pub name_statement-returns-in_err-ident : goal.name_statement-returns-in_err-ident
name_statement-returns-in_err-ident t c = exit _ _ _ c.from_residual.ensures.1 (c.in_err-ident.ensures.reads c.args.room) (λ k ds v o. o_rule o)

pub name_statement-returns-in_default : goal.name_statement-returns-in_default
name_statement-returns-in_default t c =
    completes _ c.args.start c.in_ok-ident.rest _ c.named.ensures (omega (arith, c.in_ok-ident.ensures.shorter))
    (λ k ds v o. o_rule (c.in_ok-ident.ensures.reads _ _ _ _ (o_rule (o_other c.in_default.ensures.reads (o_last o)))))

pub name_statement-returns-then-is_one_of : goal.name_statement-returns-then-is_one_of
name_statement-returns-then-is_one_of t c =
    completes _ c.args.start c.in-Some.behind _ c.loop_statement.ensures (omega (arith, c.in-Some.ensures.shorter, c.in_ok-ident.ensures.shorter))
    (λ k ds v o. o_rule (c.in_ok-ident.ensures.reads _ _ _ _ (o_rule (o_this c.in-Some.ensures.reads.0 (o_rule (word_passes c.in-Some.ensures.reads _ _ _ (o_rule (o_this (sym c.is_one_of.ensures ∙ c.if-is_one_of.true) o))))))))

pub name_statement-returns : goal.name_statement-returns
name_statement-returns t c =
    completes _ c.args.start c.in-Some.behind _ c.block.ensures (omega (arith, c.in-Some.ensures.shorter, c.in_ok-ident.ensures.shorter))
    (λ k ds v o. o_rule (c.in_ok-ident.ensures.reads _ _ _ _ (o_rule (o_this c.in-Some.ensures.reads.0 (o_rule (word_passes c.in-Some.ensures.reads _ _ _ (o_rule (o_other (sym c.is_one_of.ensures ∙ c.if-is_one_of.false) (o_last o)))))))))

pub elsifs-turns-preserved : goal.elsifs-turns-preserved
elsifs-turns-preserved t c = record {
  turns = turns_push c.in_ok-next.next.value c.turns.invariant.turns c.in-Some.ensures.reads.0
      (λ k ds v o.
      to (o_rule (token_passes c.in-Some.ensures.reads _ _ _ (c.in_ok-parts.ensures.reads _ _ _ o)))
      (arm_items c.in_ok-next.next c.at.result (token c.in-Some.t.now) c.in_ok-parts.parts.0 c.in_ok-parts.parts.1 ds c.in_ok-next.ensures c.at.ensures)) c.in_ok-all.ensures;
  shorter = omega (arith, c.in_ok-parts.ensures.shorter, c.in-Some.ensures.shorter, c.turns.invariant.shorter);
}

pub elsifs-returns-in_err-parts : goal.elsifs-returns-in_err-parts
elsifs-returns-in_err-parts t c =
    exit_all guarded_symbols (λ k. Rep g.Elsif ∷ k) _ _ _ c.from_residual.ensures.1 c.in_err-parts.ensures.reads (λ k ds v o. c.turns.invariant.turns.by _ _ _ (o_more c.in-Some.ensures.reads.0 (o_rule (token_passes c.in-Some.ensures.reads _ _ _ o))))

pub elsifs-returns : goal.elsifs-returns
elsifs-returns t c = turns_over c.turns.invariant.turns c.in_default.ensures.reads c.turns.invariant.shorter

-- what is done in an accept statement is read by, behind `do`
abbrev do_symbols : List Symbol
do_symbols = N g.Statements ∷ Opt g.Handlers ∷ P kind.End ∷ Opt g.Identifier ∷ P kind.Semicolon ∷ []

pub opt_do-returns-in_err-body : goal.opt_do-returns-in_err-body
opt_do-returns-in_err-body t c =
    exit_all do_symbols _ _ _ _ c.from_residual.ensures.1 c.in_err-body.ensures.reads (λ k ds v o. o_rule (o_this c.in-Some.ensures.reads.0 (o_rule (token_passes c.in-Some.ensures.reads _ _ _ o))))

pub opt_do-returns-in-Some : goal.opt_do-returns-in-Some
opt_do-returns-in-Some t c = record {
  reads = λ k ds v o.
      let w = c.in_ok-body.ensures.reads k ds v o in
      to (o_rule (o_this c.in-Some.ensures.reads.0 (o_rule (token_passes c.in-Some.ensures.reads _ _ _ w.1)))) (done_as (token c.in-Some.begin.now ∷ w.0) c.in_ok-body.body ds w.2);
  shorter = omega (arith, c.in-Some.ensures.shorter, c.in_ok-body.ensures.shorter);
}

pub opt_do-returns-in_err-rest : goal.opt_do-returns-in_err-rest
opt_do-returns-in_err-rest t c = exit _ _ _ c.from_residual-in_err-rest.ensures.1 (c.in_err-rest.ensures.reads c.args.room) (λ k ds v o. o_rule (o_other c.in_default.ensures.reads (o_last (o_rule o))))

pub opt_do-returns : goal.opt_do-returns
opt_do-returns t c = record { reads = λ k ds v o. o_rule (o_other c.in_default.ensures.reads (o_last (o_rule (c.in_ok-rest.ensures.reads _ _ _ _ o)))); shorter = c.in_ok-rest.ensures.shorter }

pub otherwise-returns-then-is : goal.otherwise-returns-then-is
otherwise-returns-then-is t c = record { reads = hand_on _ c.args.start _ c.or_delay.ensures.reads (λ k ds v o. o_rule (o_this (sym c.is.ensures ∙ c.if-is.true) o)); shorter = c.or_delay.ensures.shorter }

pub otherwise-returns-in_err-inner : goal.otherwise-returns-in_err-inner
otherwise-returns-in_err-inner t c = exit _ _ _ c.from_residual.ensures.1 c.in_err-inner.ensures.reads (λ k ds v o. o_rule (o_other (sym c.is.ensures ∙ c.if-is.false) (o_last (o_rule o))))

pub otherwise-returns : goal.otherwise-returns
otherwise-returns t c = record {
  reads = λ k ds v o. to (o_rule (o_other (sym c.is.ensures ∙ c.if-is.false) (o_last (o_rule (c.in_ok-inner.ensures.reads _ _ _ o))))) (or_else_items c.in_ok-otherwise.otherwise c.in_ok-inner.inner ds c.in_ok-otherwise.ensures);
  shorter = c.in_ok-inner.ensures.shorter;
}

pub statements-returns-in_err-inside : goal.statements-returns-in_err-inside
statements-returns-in_err-inside t c = no_level _ g.Statements g.StatementList _ c.args.start _ _ _ refl c.from_residual.ensures.1 c.in_err-inside.ensures c.is_one_of.ensures

pub statements-returns-in_err-first : goal.statements-returns-in_err-first
statements-returns-in_err-first t c = exit {K = λ k. Rep g.Statement ∷ Down ∷ k} _ _ _ c.from_residual-in_err-first.ensures.1 c.in_err-first.ensures.reads (λ k ds v o. o_rule (level_in c.in_ok-inside.ensures (o_rule o)))

pub statements-returns-in_err-others : goal.statements-returns-in_err-others
statements-returns-in_err-others t c = exit {K = λ k. Down ∷ k} _ _ _ c.from_residual-in_err-others.ensures.1 c.in_err-others.ensures.reads (λ k ds v o. o_rule (level_in c.in_ok-inside.ensures (o_rule (c.in_ok-first.ensures.reads _ _ _ o))))

pub statements-returns : goal.statements-returns
statements-returns t c = record {
  reads = λ k ds v o.
      to (o_rule (level_in c.in_ok-inside.ensures (o_rule (c.in_ok-first.ensures.reads _ _ _ (c.in_ok-others.ensures.reads _ _ _ (level_out c.in_ok-inside.ensures o))))))
      (in_order_items c.in_ok-statements.statements c.in_ok-first.first c.in_ok-others.others ds c.in_ok-statements.ensures);
  shorter = omega (arith, c.in_ok-first.ensures.shorter, c.in_ok-others.ensures.shorter);
}

pub opt_handlers-returns-in_default : goal.opt_handlers-returns-in_default
opt_handlers-returns-in_default t c = record { reads = λ k ds v o. to (o_no c.in_default.ensures.reads o) (ap (λ l. list_item handler_item l ∷ ds) (sym c.new-all.ensures.items)); shorter = omega arith }

pub opt_handlers-turns-init : goal.opt_handlers-turns-init
opt_handlers-turns-init t c = record {
  inside = c.in-Some.behind.tokens.now;
  opened = λ k ds v o. o_yes c.in-Some.ensures.reads.0 (o_rule (word_passes c.in-Some.ensures.reads _ _ _ (o_rule o)));
  turns = heads_none c.new-all.ensures.items;
  shorter = omega (arith, c.in-Some.ensures.shorter);
}

pub opt_handlers-turns-preserved : goal.opt_handlers-turns-preserved
opt_handlers-turns-preserved t c = record {
  inside = c.turns.invariant.inside;
  opened = c.turns.invariant.opened;
  turns = heads_push c.in_ok-next.next.value c.turns.invariant.turns c.in_ok-next.ensures.reads (λ k ds v o. o_more (sym c.is.ensures ∙ c.if-not-is.false) o) c.in_ok-all.ensures;
  shorter = omega (arith, c.in_ok-next.ensures.shorter, c.turns.invariant.shorter);
}

pub opt_handlers-returns-in_err-next : goal.opt_handlers-returns-in_err-next
opt_handlers-returns-in_err-next t c = exit {K = λ k. Rep g.Handler ∷ k} _ _ _ c.from_residual.ensures.1 c.in_err-next.ensures.reads (λ k ds v o. c.turns.invariant.opened _ _ _ (c.turns.invariant.turns.by _ _ _ o))

pub opt_handlers-returns-then-not-is : goal.opt_handlers-returns-then-not-is
opt_handlers-returns-then-not-is t c = record {
  reads = list_ends {K = λ k. k} c.in_ok-next.next.value c.turns.invariant.opened c.turns.invariant.turns c.in_ok-next.ensures.reads (sym c.is.ensures ∙ c.if-not-is.true) c.in_ok-all.ensures (λ k ds v o. o);
  shorter = omega (arith, c.in_ok-next.ensures.shorter, c.turns.invariant.shorter);
}
