use Rattle.std.proofs.Common.{ap, sym, ◌∙◌, subst}
use Rattle.aud_typed.specs.Ties.View.{plain_program}
use Rattle.aud_code.specs.Flat.{EndLine, end_at}
use Rattle.aud_code.specs.Instruction.{Raised}
use Rattle.aud_tasks.specs.Acting.{DoesEnd}
use Rattle.aud_tasks.proofs.Results.{on_ok}
use Rattle.aud_tasks.proofs.act.raise_there.Goals as goal

pub fail-requires : goal.fail-requires
fail-requires c = λ t there. c.in-Some.ensures.some ∙ ap (end_at c.args.compiled.code.now) (c.place.ensures t there)

pub returns-in-Some-clause-does : goal.returns-in-Some-clause-does
returns-in-Some-clause-does c = on_ok c.fail.result _ _ c.fail.ensures.does (λ h t there. subst (λ (l : EndLine). DoesEnd (plain_program c.args.compiled.program.now).plan c.args.compiled.code.now c.args.compiled.limits c.args.alternative c.args.n l (Raised c.args.raise) c.args.state.now c.fail.new.state) (c.in-Some.ensures.some ∙ ap (end_at c.args.compiled.code.now) (c.place.ensures t there)) h)

pub returns-in-None-clause-does : goal.returns-in-None-clause-does
returns-in-None-clause-does c = on_ok c.leave.result _ _ c.leave.ensures.does (λ h t there. subst (λ (l : EndLine). DoesEnd (plain_program c.args.compiled.program.now).plan c.args.compiled.code.now c.args.compiled.limits c.args.alternative c.args.n l (Raised c.args.raise) c.args.state.now c.leave.new.state) (sym c.in-None.ensures.none ∙ ap (end_at c.args.compiled.code.now) (c.place.ensures t there)) h)
