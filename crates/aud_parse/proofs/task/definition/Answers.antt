use Rattle.std.proofs.Common.{◌∷◌, sym, ap, ◌∙◌, arith}
use Rattle.std.specs.Prelude.{Vec}
use Rattle.std.specs.Global.{Global}
use Rattle.aud_syntax.specs.declared.tree.EntryDeclaration.{EntryDeclaration}
use Rattle.aud_grammar.specs.Grammar as g
use Rattle.aud_grammar.specs.Actions.{an_ident, made}
use Rattle.aud_grammar.specs.Ties.Outcome.{o_rule}
use Rattle.aud_cursor.specs.Ties.Items.{vec_item, opt_item}
use Rattle.aud_parse.specs.Ties.Items.{entry_item}
use Rattle.aud_cursor.proofs.Passing.{to, exit}
use Rattle.aud_parse_expr.proofs.Joined.{at_room, joined, not_joined}
use Rattle.aud_parse.proofs.Rolls.{definition_items}
use Rattle.aud_parse.proofs.task.definition.Goals as goal

pub returns-in_err-rest : goal.returns-in_err-rest
returns-in_err-rest c = exit _ _ _ c.from_residual.ensures.1 (c.in_err-rest.ensures.reads c.args.room) (λ k ds v o. o_rule o)

pub returns-in_err-entries : goal.returns-in_err-entries
returns-in_err-entries c = exit _ _ _ c.from_residual-in_err-entries.ensures.1 c.in_err-entries.ensures.reads (λ k ds v o. o_rule (c.in_ok-rest.ensures.reads _ _ _ _ o))

pub returns-in_err-entries-2 : goal.returns-in_err-entries-2
returns-in_err-entries-2 c = exit _ _ _ c.from_residual-in_err-entries-2.ensures.1 (c.in_err-entries-2.ensures.reads c.args.room) (λ k ds v o. o_rule (c.in_ok-rest.ensures.reads _ _ _ _ (c.in_ok-entries.ensures.reads _ _ _ o)))

pub returns-in_err-entries-3 : goal.returns-in_err-entries-3
returns-in_err-entries-3 c =
    exit _ _ _ c.from_residual-in_err-entries-3.ensures.1 (not_joined _ _ c.in_err-entries-3.ensures (at_room c.args.room c.opt_ident.ensures))
    (λ k ds v o. o_rule (c.in_ok-rest.ensures.reads _ _ _ _ (c.in_ok-entries.ensures.reads _ _ _ (c.in_ok-entries-2.ensures.reads.1 _ _ _ _ o))))

pub returns : goal.returns
returns c =
    let j = joined _ c.in_ok-entries-3.ensures (at_room c.args.room c.opt_ident.ensures) in
    record {
      reads = λ k ds v o.
          to (o_rule (c.in_ok-rest.ensures.reads _ _ _ _ (c.in_ok-entries.ensures.reads _ _ _ (c.in_ok-entries-2.ensures.reads.1 _ _ _ _ (j.reads _ _ _ o)))))
          (ap (λ (z : Vec EntryDeclaration Global). made g.TaskDefinition (vec_item entry_item z ∷ opt_item an_ident c.in_ok-entries-3.end_name ∷ ds)) (sym (j.first ∙ c.in_ok-entries-2.ensures.reads.0))
          ∙ definition_items c.in_ok-entries-3.entries c.in_ok-entries-3.end_name ds);
      shorter = omega (arith, c.in_ok-rest.ensures.shorter, c.in_ok-entries.ensures.shorter, c.in_ok-entries-2.ensures.shorter, j.shorter);
    }
