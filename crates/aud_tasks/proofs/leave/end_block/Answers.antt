use Rattle.std.proofs.Common.{ap, ◌∙◌}
use Rattle.aud_meaning.specs.Configuration.{All}
use Rattle.aud_meaning.specs.Effects.{out_of_loops}
use Rattle.aud_meaning.specs.Parts.{on_own}
use Rattle.aud_meaning.specs.Tasks as effect
use Rattle.aud_code.specs.Control.{going}
use Rattle.aud_code.specs.Places.{Spot}
use Rattle.aud_store.specs.Ties.Stored.{plain_open}
use Rattle.aud_tasks.specs.Leaving.{closed_by}
use Rattle.aud_tasks.proofs.StepLaws.Leaving.{block_end_by}
use Rattle.aud_tasks.proofs.Results.{on_ok}
use Rattle.aud_tasks.proofs.leave.end_block.Goals as goal

pub returns : goal.returns
returns c = on_ok c.leave.result _ _ c.leave.ensures (λ h plan barrier saved backs.
    let go = going c.args.code.now in
    let n = c.args.n in
    h plan barrier
    ∙ ap (λ (s : All Spot). effect.close_master go plan barrier c.args.inner.frame s) (c.close.ensures ∙ ap (λ (s : All Spot). on_own n (closed_by c.args.pending c.args.inner.at) s) c.out_of_loops.ensures)
    ∙ block_end_by go plan barrier c.args.pending (plain_open c.args.inner saved backs) n (on_own n out_of_loops c.args.state.now))
