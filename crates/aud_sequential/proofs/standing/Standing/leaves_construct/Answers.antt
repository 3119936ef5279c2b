use Rattle.std.proofs.Common.{sym, ap, refl, Some, None, ◌∙◌}
use Rattle.aud_code.specs.Flat.{end_at}
use Rattle.aud_sequential.proofs.Leaving.{statement_leaves, handler_leaves}
use Rattle.aud_sequential.proofs.standing.Standing.leaves_construct.Goals as goal

pub returns-in-Some-ending : goal.returns-in-Some-ending
returns-in-Some-ending c = λ p at.
    statement_leaves c.args.code.now p c.leaves.result c.in-Some-ending.ending.now (at.pends ∙ c.in-None.is)
    (c.in-Some-ending.ensures.some ∙ sym (ap (end_at c.args.code.now) at.place)) c.leaves.ensures

pub returns-in-Some-find_handler : goal.returns-in-Some-find_handler
returns-in-Some-find_handler c = λ p at.
    handler_leaves c.args.code.now p _ c.in-Some.pending (Some c.in-Some-find_handler.field-0) (at.pends ∙ c.in-Some.is)
    (rw (sym at.place) at (c.in-Some-find_handler.ensures.value p.control.returns)) refl

pub returns-in-None-find_handler : goal.returns-in-None-find_handler
returns-in-None-find_handler c = λ p at.
    handler_leaves c.args.code.now p _ c.in-Some.pending None (at.pends ∙ c.in-Some.is)
    (rw (sym at.place) at (c.in-None-find_handler.ensures.value p.control.returns)) refl
