use Rattle.std.proofs.Common.{ap, sym}
use Rattle.aud_typed.specs.Ties.View.{plain_program}
use Rattle.aud_meaning.specs.Tasks as effect
use Rattle.aud_code.specs.Control.{going}
use Rattle.aud_code.specs.Flat.{barrier_at}
use Rattle.aud_tasks.proofs.leave.end_construct.Goals as goal

pub returns-in-None-clause-does : goal.returns-in-None-clause-does
returns-in-None-clause-does c = ap (λ os. effect.at_end_of (going c.args.compiled.code.now) (plain_program c.args.compiled.program.now).plan (barrier_at c.args.compiled.code.now) c.args.alternative os c.args.pending c.args.n c.args.state.now) (sym c.in-None.ensures)
