use Rattle.std.proofs.Common.{ℕ, ◌+◌, List, drop, ap, sym, ◌∙◌, arith}
use Rattle.std.proofs.lemmas.List.{at_drop_all, at_drop_more}
use Rattle.aud_meaning.specs.Configuration.{All}
use Rattle.aud_meaning.specs.Tasks as effect
use Rattle.aud_code.specs.Places.{Spot}
use Rattle.aud_abort.proofs.aborting.lose_calls.Goals as goal

pub loop-id-preserved : goal.loop-id-preserved
loop-id-preserved c = λ go plan barrier.
    let f : List ℕ → All Spot → All Spot = λ ns s. effect.loses_call go plan barrier c.args.task ns s in
    ap (f (drop (c.loop-id.id-index + 1) c.args.calls.now)) (c.lose_call.ensures go plan barrier)
    ∙ sym (at_drop_more (λ ns. f ns c.loop-id.state) c.args.calls.now c.loop-id.id-index 0 (omega arith))
    ∙ c.loop-id.invariant go plan barrier

pub returns : goal.returns
returns c = λ go plan barrier.
    let f : List ℕ → All Spot → All Spot = λ ns s. effect.loses_call go plan barrier c.args.task ns s in
    sym (at_drop_all (λ ns. f ns c.loop-id.state) c.args.calls.now c.loop-id.id-index (omega arith)) ∙ c.loop-id.invariant go plan barrier
