-- When a program is stuck: nothing can happen any more, however long the user waits.
use Rattle.std.specs.Prelude.{◌≡◌, ℕ, List, [], ◌∷◌, false}
use Rattle.aud_typed.specs.Tree.{Plan}
use Rattle.aud_meaning.specs.declared.state.State.TheVariants as state
use Rattle.aud_meaning.specs.Configuration.{All}
use Rattle.aud_meaning.specs.Control.{Controls}
use Rattle.aud_meaning.specs.Run.{has_ended, seen, moves_at, state_at, advanced}

-- the user lets time pass, so often and so long
abbrev pub waited : {C : Type 0} → List ℕ → All C → All C
waited [] c = c
waited (milliseconds ∷ more) c = waited more (advanced milliseconds c)

-- the program has not ended, its output is not full, and no move is enabled, now or at any later time
pub record NothingCanHappen (C : Type 0) (plan : Plan) (k : Controls C) (c : All C) : Type 0 where
  pub not_ended : has_ended plan k.barrier (seen plan k c).tasks ≡ false
  pub not_full : c.shared.cut ≡ false
  pub no_move : (times : List ℕ) → moves_at plan k (waited times c) ≡ []

abbrev pub StuckLaw : (C : Type 0) → Type 0
StuckLaw C =
    (plan : Plan) (k : Controls C) (c : All C) → (state_at plan k c ≡ state.Stuck → NothingCanHappen C plan k c) × (NothingCanHappen C plan k c → state_at plan k c ≡ state.Stuck)
