use Rattle.std.proofs.Common.{◌∙◌, arith}
use Rattle.aud_grammar.specs.Ties.Outcome.{o_rule}
use Rattle.aud_cursor.proofs.Passing.{exit}
use Rattle.aud_parse_expr.proofs.Joined.{at_room, joined, not_joined, ends}
use Rattle.aud_parse.proofs.Objects.{protected_items}
use Rattle.aud_parse.proofs.protected.parts.Goals as goal

pub returns-in_err-name : goal.returns-in_err-name
returns-in_err-name c = exit _ _ _ c.from_residual.ensures.1 (c.in_err-name.ensures.reads c.args.room) (λ k ds v o. o_rule o)

pub returns-in_err-rest : goal.returns-in_err-rest
returns-in_err-rest c = exit _ _ _ c.from_residual-in_err-rest.ensures.1 (c.in_err-rest.ensures.reads c.args.room) (λ k ds v o. o_rule (c.in_ok-name.ensures.reads _ _ _ _ o))

pub returns-in_err-parts : goal.returns-in_err-parts
returns-in_err-parts c = exit _ _ _ c.from_residual-in_err-parts.ensures.1 (not_joined _ _ c.in_err-parts.ensures c.operations.ensures) (λ k ds v o. o_rule (c.in_ok-name.ensures.reads _ _ _ _ (c.in_ok-rest.ensures.reads _ _ _ _ o)))

pub returns-in_err-parts-2 : goal.returns-in_err-parts-2
returns-in_err-parts-2 c =
    let j = joined _ c.in_ok-parts.ensures c.operations.ensures in
    exit _ _ _ c.from_residual-in_err-parts-2.ensures.1 (not_joined _ _ c.in_err-parts-2.ensures c.opt_private.ensures) (λ k ds v o. o_rule (c.in_ok-name.ensures.reads _ _ _ _ (c.in_ok-rest.ensures.reads _ _ _ _ (j.reads _ _ _ o))))

pub returns-in_err-parts-3 : goal.returns-in_err-parts-3
returns-in_err-parts-3 c =
    let j = joined _ c.in_ok-parts.ensures c.operations.ensures in
    let i = joined _ c.in_ok-parts-2.ensures c.opt_private.ensures in
    exit _ _ _ c.from_residual-in_err-parts-3.ensures.1 (c.in_err-parts-3.ensures.reads c.args.room) (λ k ds v o. o_rule (c.in_ok-name.ensures.reads _ _ _ _ (c.in_ok-rest.ensures.reads _ _ _ _ (j.reads _ _ _ (i.reads _ _ _ o)))))

pub returns-in_err-parts-4 : goal.returns-in_err-parts-4
returns-in_err-parts-4 c =
    let j = joined _ c.in_ok-parts.ensures c.operations.ensures in
    let i = joined _ c.in_ok-parts-2.ensures c.opt_private.ensures in
    exit _ _ _ c.from_residual-in_err-parts-4.ensures.1 (not_joined _ _ c.in_err-parts-4.ensures (at_room c.args.room c.opt_ident.ensures))
    (λ k ds v o. o_rule (c.in_ok-name.ensures.reads _ _ _ _ (c.in_ok-rest.ensures.reads _ _ _ _ (j.reads _ _ _ (i.reads _ _ _ (c.in_ok-parts-3.ensures.reads.1 _ _ _ _ o))))))

pub returns : goal.returns
returns c =
    let j = joined _ c.in_ok-parts.ensures c.operations.ensures in
    let i = joined _ c.in_ok-parts-2.ensures c.opt_private.ensures in
    let l = joined _ c.in_ok-parts-4.ensures (at_room c.args.room c.opt_ident.ensures) in
    ends c.args.start c.in_ok-parts-4.rest _ _ c.ended-2.ensures (omega (arith, c.in_ok-name.ensures.shorter, c.in_ok-rest.ensures.shorter, j.shorter, i.shorter, c.in_ok-parts-3.ensures.shorter, l.shorter))
    (λ k ds v o. o_rule (c.in_ok-name.ensures.reads _ _ _ _ (c.in_ok-rest.ensures.reads _ _ _ _ (j.reads _ _ _ (i.reads _ _ _ (c.in_ok-parts-3.ensures.reads.1 _ _ _ _ (l.reads _ _ _ o)))))))
    (λ ds. protected_items c.in_ok-parts-4.parts c.in_ok-name.name c.in_ok-parts.parts c.in_ok-parts-2.parts ds j.first i.first (l.first ∙ c.in_ok-parts-3.ensures.reads.0))
