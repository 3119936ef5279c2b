use Rattle.std.proofs.Common.{ap, sym, ◌∙◌}
use Rattle.aud_typed.specs.Ties.View.{plain_program}
use Rattle.aud_meaning.specs.Control.{Asked}
use Rattle.aud_meaning.specs.Step.{done}
use Rattle.aud_code.specs.Control.{going}
use Rattle.aud_code.specs.Flat.{barrier_at}
use Rattle.aud_code.specs.Places.{loops_of}
use Rattle.aud_code.specs.Sound.{counts_of}
use Rattle.aud_code.specs.View.{exit_of}
use Rattle.aud_state.specs.Fast.{scene}
use Rattle.aud_tasks.proofs.StepLaws.Asked.{flow_fine, flows_so, raised_here, raised_in_part}
use Rattle.aud_tasks.proofs.Results.{on_ok}
use Rattle.aud_tasks.proofs.endings.fail.Goals as goal

pub returns-then-is_declaration-clause-does : goal.returns-then-is_declaration-clause-does
returns-then-is_declaration-clause-does c =
    let barrier = barrier_at c.args.compiled.code.now in
    let plan = (plain_program c.args.compiled.program.now).plan in
    let last = c.args.end.now.last in
    c.in_ok-raise_in_part.ensures plan barrier ∙ ap (λ (a : Asked). done (going c.args.compiled.code.now) plan barrier c.args.compiled.limits c.args.alternative a c.args.n c.args.state.now) (raised_in_part (loops_of (exit_of last)) c.args.end.now.at (scene c.args.n c.args.state.now) c.args.raise last (sym c.is_declaration.ensures ∙ c.if-is_declaration.true))

pub returns-then-is_statement-clause-does : goal.returns-then-is_statement-clause-does
returns-then-is_statement-clause-does c =
    let barrier = barrier_at c.args.compiled.code.now in
    let plan = (plain_program c.args.compiled.program.now).plan in
    let last = c.args.end.now.last in
    c.raise.ensures ∙ ap (λ (a : Asked). done (going c.args.compiled.code.now) plan barrier c.args.compiled.limits c.args.alternative a c.args.n c.args.state.now) (raised_here (loops_of (exit_of last)) c.args.end.now.at (scene c.args.n c.args.state.now) c.args.raise last (sym c.is_statement.ensures ∙ c.if-is_statement.true) (sym c.is_declaration.ensures ∙ c.if-is_declaration.false))

pub returns-clause-does : goal.returns-clause-does
returns-clause-does c = on_ok c.finish.result _ _ c.finish.ensures.does (λ h.
    let barrier = barrier_at c.args.compiled.code.now in
    let plan = (plain_program c.args.compiled.program.now).plan in
    let last = c.args.end.now.last in
    h ∙ ap (λ (a : Asked). done (going c.args.compiled.code.now) plan barrier c.args.compiled.limits c.args.alternative a c.args.n c.args.state.now) (flows_so (loops_of (exit_of last)) c.args.end.now.at (scene c.args.n c.args.state.now) c.args.raise c.args.operands.now last (sym c.is_statement.ensures ∙ c.if-is_statement.false)))

pub finish-requires-clause-fine : goal.finish-requires-clause-fine
finish-requires-clause-fine c = flow_fine (counts_of c.args.operands.now) c.args.end.now.last (sym c.is_statement.ensures ∙ c.if-is_statement.false)
