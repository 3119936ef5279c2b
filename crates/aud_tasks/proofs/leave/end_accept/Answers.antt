use Rattle.std.proofs.Common.{ap, ◌∙◌}
use Rattle.aud_meaning.specs.Configuration.{All}
use Rattle.aud_meaning.specs.Tasks as effect
use Rattle.aud_code.specs.Control.{going}
use Rattle.aud_code.specs.Places.{Spot}
use Rattle.aud_store.specs.Ties.Stored.{plain_open}
use Rattle.aud_tasks.proofs.Results.{on_ok}
use Rattle.aud_tasks.proofs.leave.end_accept.Goals as goal

pub returns : goal.returns
returns c = on_ok c.finish.result _ _ c.finish.ensures (λ h plan barrier saved backs.
    h plan barrier saved backs
    ∙ ap (λ (s : All Spot). effect.at_accept_end (going c.args.code.now) plan barrier c.args.alternative c.args.pending c.args.call (plain_open c.args.inner saved backs) c.args.n s) c.out_of_loops.ensures)
