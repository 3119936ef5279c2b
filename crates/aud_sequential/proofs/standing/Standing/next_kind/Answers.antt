use Rattle.std.proofs.Common.{sym, ap, refl, Some, None, ◌∙◌}
use Rattle.aud_meaning.specs.Run.{end_kind_by}
use Rattle.aud_meaning.specs.Ties.Stack.{Stack, out_of_loops}
use Rattle.aud_code.specs.Flat.{end_at}
use Rattle.aud_sequential.specs.Next.{step_kind}
use Rattle.aud_sequential.proofs.Next.{statement_next, handler_next}
use Rattle.aud_sequential.proofs.standing.Standing.next_kind.Goals as goal

pub returns-in-Some-ending : goal.returns-in-Some-ending
returns-in-Some-ending c = λ p at.
    statement_next c.args.code.now p c.step_kind.result c.in-Some-ending.ending.now (at.pends ∙ c.in-None.is)
    (c.in-Some-ending.ensures.some ∙ sym (ap (end_at c.args.code.now) at.place))
    ((rw c.end_kind.ensures at c.step_kind.ensures) ∙ ap (λ (s : Stack). step_kind c.in-Some-ending.ending.now.last (end_kind_by (out_of_loops s).opened)) (sym at.stack))

pub returns-in-Some-find_handler : goal.returns-in-Some-find_handler
returns-in-Some-find_handler c = λ p at.
    handler_next c.args.code.now p _ c.in-Some.pending (Some c.in-Some-find_handler.field-0) (at.pends ∙ c.in-Some.is)
    (rw (sym at.place) at (c.in-Some-find_handler.ensures.value p.control.returns)) refl

pub returns-in-None-find_handler : goal.returns-in-None-find_handler
returns-in-None-find_handler c = λ p at.
    handler_next c.args.code.now p _ c.in-Some.pending None (at.pends ∙ c.in-Some.is)
    (rw (sym at.place) at (c.in-None-find_handler.ensures.value p.control.returns))
    (c.end_kind-in-None-find_handler.ensures ∙ ap (λ (s : Stack). end_kind_by (out_of_loops s).opened) (sym at.stack))
