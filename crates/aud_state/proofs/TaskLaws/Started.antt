-- The main procedure before its first step.
use Rattle.std.proofs.Common.{◌≡◌, ℕ, zero, suc, List, [], refl, ap, take}
use Rattle.aud_typed.specs.Tree.{UnitPlan}
use Rattle.aud_meaning.specs.Configuration.{for_body}
use Rattle.aud_code.specs.Flat.{Flat}
use Rattle.aud_store.specs.Ties.Stored.{entered}
use Rattle.aud_sequential.specs.Parked.{acting, created, no_part}
use Rattle.aud_sequential.specs.Shown.{unit_in}
use Rattle.aud_sequential.specs.Steps.{on_stored}
use Rattle.aud_state.specs.Opening.{opened_main}

abbrev no_frames : List ℕ
no_frames = []

none_seen : (n : ℕ) → take n no_frames ≡ no_frames
none_seen zero = refl
none_seen (suc n) = refl

-- its frame is opened where nothing was done yet
pub main_opened : (code : Flat) (us : List UnitPlan) → on_stored (entered for_body (unit_in us 0).region (unit_in us 0).at [] 0) (acting (created code us 0 []) no_part) ≡ opened_main code us
main_opened code us =
    ap (λ (seen : List ℕ). on_stored (entered for_body (unit_in us 0).region (unit_in us 0).at [] 0) (acting (record (created code us 0 []) { stack = record { display = seen; opened = [] } }) no_part)) (none_seen (unit_in us 0).level)
