-- How a task in code goes on, carried out at once.
use Rattle.std.specs.Prelude.{ℕ, List, [], ◌∷◌, Option, Some, None, slice_get}
use Rattle.aud_meaning.specs.Orders.{Orders}
use Rattle.aud_code.specs.Places.{Spot, goes_there, goes_way}
use Rattle.aud_code.specs.Flat.{Flat, back_to, end_at, ended_in, handler_in, left_by, start_at}

abbrev pub going : Flat → Orders Spot
going code = record {
  takes = λ n s. goes_there (slice_get (end_at code s.place).ways n) s;
  accepts = λ n s. goes_there (slice_get (end_at code s.place).bodies n) s;
  enters = λ n s. record { place = start_at code n; returns = s.place ∷ s.returns };
  begins = λ n. record { place = start_at code n; returns = [] };
  out = λ s. goes_way (end_at code s.place).exit s;
  behind = λ s. ended_in code (end_at code s.place).last s;
  handling = λ x s. goes_there (handler_in (end_at code (end_at code s.place).out).last x) s;
  left = λ x s. left_by code (end_at code s.place).out s;
}

-- Where a task stands whose innermost construct was left: at this place; or, where that was a body, at the statement that entered it,
-- or behind all lines where none did.
abbrev pub come_out : Flat → Option ℕ → List ℕ → Spot
come_out code None returns = back_to code returns
come_out code (Some place) returns = record { place = place; returns = returns }
