-- Tasks that rest, as one look tells.
use Rattle.std.specs.Prelude.{◌≡◌, ℕ, List, Option, Some, None, Bool, true, false, nat_le, not, slice_index_or}
use Rattle.aud_meaning.specs.declared.state.Status.{Status}
use Rattle.aud_meaning.specs.declared.state.Status.TheVariants.{Accepting, Activating, Calling, Completed, Created, Delaying, Running, Terminated}
use Rattle.aud_meaning.specs.Configuration.{All, Call, Own}
use Rattle.aud_meaning.specs.Parts.{any, no_call, own_of}
use Rattle.aud_code.specs.Places.{Spot}
use Rattle.aud_calls.specs.Cancelling.{time_by}
pub use Rattle.aud_state.specs.Condition.{has_come}

-- it is not abnormal, and services no object
abbrev pub IsUndisturbed : Own → Type 0
IsUndisturbed own = (own.abnormal ≡ false) × (own.serving ≡ None)

abbrev pub is_later : ℕ → Option ℕ → Bool
is_later clock None = true
is_later clock (Some time) = not (nat_le time clock)

-- by how far it is
abbrev pub RestsBy : Status → ℕ → List Call → Own → Type 0
RestsBy Created clock calls own = Unit {0}
RestsBy Running clock calls own = ⊥
RestsBy Activating clock calls own = IsUndisturbed own
RestsBy Accepting clock calls own = IsUndisturbed own × (any (has_come clock) own.waits.delays ≡ false)
RestsBy Delaying clock calls own = IsUndisturbed own × (any (has_come clock) own.waits.delays ≡ false)
RestsBy Calling clock calls own = IsUndisturbed own × (is_later clock (time_by (slice_index_or calls own.call no_call).form) ≡ true)
RestsBy Completed clock calls own = ⊥
RestsBy Terminated clock calls own = Unit {0}

abbrev pub Rests : ℕ → All Spot → Type 0
Rests n c = RestsBy (own_of n c).status c.clock c.shared.calls (own_of n c)
