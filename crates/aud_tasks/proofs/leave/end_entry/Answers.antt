use Rattle.std.proofs.Common.{ap, ◌∙◌}
use Rattle.aud_typed.specs.Ties.View.{plain_program}
use Rattle.aud_meaning.specs.Configuration.{All}
use Rattle.aud_meaning.specs.Tasks as effect
use Rattle.aud_code.specs.Control.{going}
use Rattle.aud_code.specs.Flat.{barrier_at}
use Rattle.aud_code.specs.Places.{Spot}
use Rattle.aud_store.specs.Ties.Stored.{plain_open}
use Rattle.aud_tasks.proofs.Ticking.{asked_once}
use Rattle.aud_tasks.proofs.leave.end_entry.Goals as goal

pub returns-clause-does : goal.returns-clause-does
returns-clause-does c = λ saved backs.
    let plan = (plain_program c.args.compiled.program.now).plan in
    let code = c.args.compiled.code.now in
    (rw (c.new-barriers.ensures.code, c.new-barriers.ensures.program) at (c.in_ok-finish_entry.ensures.does saved backs))
    ∙ ap (λ (s : All Spot). effect.at_entry_end (going code) plan (barrier_at code) c.args.pending c.args.object c.args.call c.args.resumed (plain_open c.args.inner saved backs) c.args.n s) c.out_of_loops.ensures

pub returns-clause-few : goal.returns-clause-few
returns-clause-few c = asked_once (plain_program c.args.compiled.program.now).plan (plain_program c.new-barriers.result.program.now).plan c.args.compiled.code.now c.new-barriers.result.code.now (ap (λ p. (plain_program p).plan) c.new-barriers.ensures.program) c.new-barriers.ensures.code c.ticks.result _ c.new-barriers.result.ticks c.new-barriers.ensures.none c.ticks.ensures c.in_ok-finish_entry.ensures.few
