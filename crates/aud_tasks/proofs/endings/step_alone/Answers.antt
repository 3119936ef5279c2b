use Rattle.std.proofs.Common.{ap, sym, ◌∙◌}
use Rattle.aud_typed.specs.Ties.View.{plain_program}
use Rattle.aud_meaning.proofs.Alone.{alone_law}
use Rattle.aud_code.specs.Control.{going}
use Rattle.aud_code.specs.Flat.{asked_last, barrier_at}
use Rattle.aud_code.specs.Instruction.{Reached}
use Rattle.aud_code.specs.Places.{loops_of}
use Rattle.aud_code.specs.View.{exit_of, plain_last}
use Rattle.aud_sequential.specs.Shown.{plans_of}
use Rattle.aud_state.specs.Fast.{scene}
use Rattle.aud_sequential.proofs.Alone.{alone_asked}
use Rattle.aud_tasks.proofs.Results.{on_ok}
use Rattle.aud_tasks.proofs.endings.step_alone.Goals as goal

pub returns : goal.returns
returns c = on_ok c.step_alone.result _ _ c.step_alone.ensures (λ h alternative.
    let barrier = barrier_at c.args.compiled.code.now in
    let plan = (plain_program c.args.compiled.program.now).plan in
    let last = c.args.end.now.last in
    let s = scene c.args.n c.args.state.now in
    let o = c.args.operands.now in
    h s plan (sym (ap plans_of c.deref.ensures.value)) barrier
    ∙ sym (alone_law (going c.args.compiled.code.now) plan barrier c.args.compiled.limits alternative (asked_last (plain_last last) (loops_of (exit_of last)) c.args.end.now.at s (Reached o)) (alone_asked last (loops_of (exit_of last)) c.args.end.now.at s o c.requires.alone c.requires.fine) c.args.n c.args.state.now))
