use Rattle.std.proofs.Common.{ap, ◌∙◌}
use Rattle.aud_typed.specs.Ties.View.{plain_program}
use Rattle.aud_meaning.specs.Run.{serve_moves}
use Rattle.aud_code.specs.Flat.{barrier_at}
use Rattle.aud_tasks.proofs.MoveLaws.Moving.{each_told}
use Rattle.aud_tasks.proofs.moves.serves.Goals as goal

pub returns-in-Raises : goal.returns-in-Raises
returns-in-Raises c = λ task.
    let plan = (plain_program c.args.compiled.program.now).plan in
    let code = c.args.compiled.code.now in
    ap (λ r. serve_moves plan (barrier_at code) r task) (rw (c.in-Raises.is, c.new-barriers.ensures.code, c.new-barriers.ensures.program) at c.in_ok-eligible.ensures.told)

pub returns : goal.returns
returns c = λ task.
    let plan = (plain_program c.args.compiled.program.now).plan in
    let code = c.args.compiled.code.now in
    each_told plan code c.in-Are.entries.items task
    ∙ ap (λ r. serve_moves plan (barrier_at code) r task) (rw (c.in-Are.is, c.new-barriers.ensures.code, c.new-barriers.ensures.program) at c.in_ok-eligible.ensures.told)
