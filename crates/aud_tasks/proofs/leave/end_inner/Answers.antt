use Rattle.std.proofs.Common.{ap, ◌∙◌}
use Rattle.aud_typed.specs.Ties.View.{plain_program}
use Rattle.aud_meaning.specs.Effects.{out_of_loops}
use Rattle.aud_meaning.specs.Parts.{on_own, own_of}
use Rattle.aud_meaning.specs.Tasks as effect
use Rattle.aud_code.specs.Control.{going}
use Rattle.aud_code.specs.Flat.{barrier_at}
use Rattle.aud_store.specs.declared.purpose.Returns.{Returns}
use Rattle.aud_store.specs.Ties.Stored.{innermost_backs, plain_open, returning_by}
use Rattle.aud_tasks.specs.Leaving.{returns_of}
use Rattle.aud_tasks.proofs.StepLaws.Leaving.{at_end_accept, at_end_block, at_end_body, at_end_entry, at_end_loop, at_end_operation, at_end_procedure}
use Rattle.aud_tasks.proofs.Results.{on_ok}
use Rattle.aud_tasks.proofs.leave.end_inner.Goals as goal

pub returns-in_ok-end_body-in-Body-clause-does : goal.returns-in_ok-end_body-in-Body-clause-does
returns-in_ok-end_body-in-Body-clause-does c =
    let plan = (plain_program c.args.compiled.program.now).plan in
    let code = c.args.compiled.code.now in
    let barrier = barrier_at code in
    c.in_ok-end_body-in-Body.ensures plan barrier ∙ at_end_body (going code) plan barrier c.args.alternative c.args.pending c.args.n c.args.state.now c.args.inner c.requires.0 c.requires.1.0 c.requires.1.1.0 c.requires.1.1.1 c.in-Body.is

pub returns-in_ok-end_block-in-Block-clause-does : goal.returns-in_ok-end_block-in-Block-clause-does
returns-in_ok-end_block-in-Block-clause-does c =
    let plan = (plain_program c.args.compiled.program.now).plan in
    let code = c.args.compiled.code.now in
    let barrier = barrier_at code in
    c.in_ok-end_block-in-Block.ensures plan barrier c.requires.0 c.requires.1.0 ∙ at_end_block (going code) plan barrier c.args.alternative c.args.pending c.args.n c.args.state.now c.args.inner c.requires.0 c.requires.1.0 c.requires.1.1.0 c.requires.1.1.1 c.in-Block.is

pub returns-in-Loop-clause-does : goal.returns-in-Loop-clause-does
returns-in-Loop-clause-does c =
    let plan = (plain_program c.args.compiled.program.now).plan in
    let code = c.args.compiled.code.now in
    let barrier = barrier_at code in
    at_end_loop (going code) plan barrier c.args.alternative c.args.pending c.args.n c.args.state.now c.args.inner c.requires.0 c.requires.1.0 c.requires.1.1.0 c.requires.1.1.1 c.in-Loop.is

pub returns-in_ok-end_procedure-in-Procedure-clause-does : goal.returns-in_ok-end_procedure-in-Procedure-clause-does
returns-in_ok-end_procedure-in-Procedure-clause-does c =
    let plan = (plain_program c.args.compiled.program.now).plan in
    let code = c.args.compiled.code.now in
    let barrier = barrier_at code in
    c.in_ok-end_procedure-in-Procedure.ensures plan barrier c.requires.0 c.requires.1.0
    ∙ ap (λ (r : Returns). effect.at_procedure_end (going code) plan barrier c.args.pending (returning_by r (innermost_backs (out_of_loops (own_of c.args.n c.args.state.now)).opened)) (plain_open c.args.inner c.requires.0 c.requires.1.0) c.args.n (on_own c.args.n out_of_loops c.args.state.now)) (c.returns_of-returns.ensures ∙ ap returns_of c.in-Procedure.is)
    ∙ at_end_procedure (going code) plan barrier c.args.alternative c.args.pending c.args.n c.args.state.now c.args.inner c.requires.0 c.requires.1.0 c.requires.1.1.0 c.requires.1.1.1 _ _ c.in-Procedure.is

pub returns-in-Operation-clause-does : goal.returns-in-Operation-clause-does
returns-in-Operation-clause-does c = on_ok c.end_operation.result _ _ c.end_operation.ensures.does (λ h.
    let plan = (plain_program c.args.compiled.program.now).plan in
    let code = c.args.compiled.code.now in
    let barrier = barrier_at code in
    h c.requires.0 c.requires.1.0
    ∙ ap (λ (r : Returns). effect.at_operation_end (going code) plan barrier c.args.pending c.in-Operation.object (returning_by r (innermost_backs (out_of_loops (own_of c.args.n c.args.state.now)).opened)) (plain_open c.args.inner c.requires.0 c.requires.1.0) c.args.n (on_own c.args.n out_of_loops c.args.state.now)) (c.returns_of-returns.ensures ∙ ap returns_of c.in-Operation.is)
    ∙ at_end_operation (going code) plan barrier c.args.alternative c.args.pending c.args.n c.args.state.now c.args.inner c.requires.0 c.requires.1.0 c.requires.1.1.0 c.requires.1.1.1 _ _ c.in-Operation.is)

pub returns-in-Entry-clause-does : goal.returns-in-Entry-clause-does
returns-in-Entry-clause-does c = on_ok c.end_entry.result _ _ c.end_entry.ensures.does (λ h.
    let plan = (plain_program c.args.compiled.program.now).plan in
    let code = c.args.compiled.code.now in
    let barrier = barrier_at code in
    h c.requires.0 c.requires.1.0 ∙ at_end_entry (going code) plan barrier c.args.alternative c.args.pending c.args.n c.args.state.now c.args.inner c.requires.0 c.requires.1.0 c.requires.1.1.0 c.requires.1.1.1 _ _ _ _ c.in-Entry.is)

pub returns-in_ok-end_accept-in-Accept-clause-does : goal.returns-in_ok-end_accept-in-Accept-clause-does
returns-in_ok-end_accept-in-Accept-clause-does c =
    let plan = (plain_program c.args.compiled.program.now).plan in
    let code = c.args.compiled.code.now in
    let barrier = barrier_at code in
    c.in_ok-end_accept-in-Accept.ensures plan barrier c.requires.0 c.requires.1.0 ∙ at_end_accept (going code) plan barrier c.args.alternative c.args.pending c.args.n c.args.state.now c.args.inner c.requires.0 c.requires.1.0 c.requires.1.1.0 c.requires.1.1.1 _ c.in-Accept.is
