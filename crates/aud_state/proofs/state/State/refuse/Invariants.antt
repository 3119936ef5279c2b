use Rattle.std.proofs.Common.{◌≡◌, ℕ, Result, Bool, drop}
use Rattle.aud_text.specs.declared.raise.Raise.{Raise as RaiseOf}
use Rattle.aud_typed.specs.Tree.{Plan}
use Rattle.aud_meaning.specs.Evaluation.{Sight}
use Rattle.aud_meaning.specs.Tasks as effect
use Rattle.aud_code.specs.Control.{going}
use Rattle.aud_state.proofs.state.State.refuse.Given as goal

abbrev pub invariant-loop-id : goal.invariant-loop-id
invariant-loop-id l =
    (plan : Plan) → (barrier : ℕ → Sight → Result Bool RaiseOf) →
    effect.refuse (going l.code) plan barrier l.raise (drop l.id-index l.calls) l.self ≡ effect.refuse (going l.code) plan barrier l.raise l.calls l.fn.self
