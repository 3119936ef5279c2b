use Rattle.std.proofs.Common.{ℕ, ◌+◌, List, drop, ap, sym, ◌∙◌, arith}
use Rattle.std.proofs.lemmas.List.{at_drop_all, at_drop_more}
use Rattle.aud_meaning.specs.Configuration.{All}
use Rattle.aud_meaning.specs.Tasks as effect
use Rattle.aud_code.specs.Control.{going}
use Rattle.aud_code.specs.Places.{Spot}
use Rattle.aud_state.proofs.state.State.refuse.Goals as goal

pub loop-id-preserved : goal.loop-id-preserved
loop-id-preserved c = λ plan barrier.
    let f : List ℕ → All Spot → All Spot = λ ns s. effect.refuse (going c.args.code.now) plan barrier c.args.raise ns s in
    ap (f (drop (c.loop-id.id-index + 1) c.args.calls.now)) (c.caller_fails.ensures plan barrier)
    ∙ sym (at_drop_more (λ ns. f ns c.loop-id.self) c.args.calls.now c.loop-id.id-index 0 (omega arith))
    ∙ c.loop-id.invariant plan barrier

pub returns : goal.returns
returns c = λ plan barrier.
    let f : List ℕ → All Spot → All Spot = λ ns s. effect.refuse (going c.args.code.now) plan barrier c.args.raise ns s in
    sym (at_drop_all (λ ns. f ns c.loop-id.self) c.args.calls.now c.loop-id.id-index (omega arith)) ∙ c.loop-id.invariant plan barrier
