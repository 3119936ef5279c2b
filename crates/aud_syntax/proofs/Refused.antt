-- What a vector holds after a call by which memory may be refused.
use Rattle.std.proofs.Common.{◌≡◌, ℕ, List}
use Rattle.std.specs.Prelude.{Result, Ok, Err, OnOk, is_ok, if◌then◌else◌}

pub on_ok : {T E : Type 0} (r : Result T E) (now longer same : List ℕ) → now ≡ (if is_ok r then longer else same) → OnOk r (now ≡ longer)
on_ok (Ok x) now longer same h = h
on_ok (Err x) now longer same h = tt
