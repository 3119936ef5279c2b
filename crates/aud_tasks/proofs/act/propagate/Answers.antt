use Rattle.std.proofs.Common.{ℕ, Option, ap, sym, ◌∙◌}
use Rattle.aud_typed.specs.Ties.View.{plain_program}
use Rattle.aud_meaning.specs.Statements.{handled_or_left}
use Rattle.aud_meaning.specs.Step.{done}
use Rattle.aud_code.specs.Control.{going}
use Rattle.aud_code.specs.Flat.{handler_at, barrier_at}
use Rattle.aud_code.specs.Places.{is_there}
use Rattle.aud_tasks.proofs.Results.{on_ok}
use Rattle.aud_tasks.proofs.act.propagate.Goals as goal

pub returns-in-Some-clause-does : goal.returns-in-Some-clause-does
returns-in-Some-clause-does c = λ t there. c.handle.ensures ∙ ap (λ (h : Option ℕ). done (going c.args.compiled.code.now) (plain_program c.args.compiled.program.now).plan (barrier_at c.args.compiled.code.now) c.args.compiled.limits c.args.alternative (handled_or_left (is_there h) c.args.pending) c.args.n c.args.state.now) (sym c.in-Some.is ∙ c.find_handler.ensures.value t.control.returns ∙ ap (λ (q : ℕ). handler_at c.args.compiled.code.now c.args.pending.exception (record { place = q; returns = t.control.returns })) (c.place-place.ensures t there))

pub returns-in-None-clause-does : goal.returns-in-None-clause-does
returns-in-None-clause-does c = on_ok c.leave_by.result _ _ c.leave_by.ensures.does (λ h t there. h ∙ ap (λ (h : Option ℕ). done (going c.args.compiled.code.now) (plain_program c.args.compiled.program.now).plan (barrier_at c.args.compiled.code.now) c.args.compiled.limits c.args.alternative (handled_or_left (is_there h) c.args.pending) c.args.n c.args.state.now) (sym c.in-None.is ∙ c.find_handler.ensures.value t.control.returns ∙ ap (λ (q : ℕ). handler_at c.args.compiled.code.now c.args.pending.exception (record { place = q; returns = t.control.returns })) (c.place-place.ensures t there)))
