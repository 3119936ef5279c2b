-- A session begins at a seat of a desk.
use Rattle.std.specs.Prelude.{◌≡◌, ℕ, List, Some, Result, Ok, Err}
use Rattle.aud_text.specs.declared.limits.Limits.{Limits}
use Rattle.aud_hall.specs.Ties.Places.{seat_limits}
use Rattle.aud_pass.specs.declared.fault.DeskFault.{DeskFault}
use Rattle.aud_pass.specs.Passed.{Passed, opened}
use Rattle.aud_pass.specs.Replies.{OpensNot}

-- Where the seats of the desk have these limits: a new pass of the seat, with its limits; else, memory apart, there is no such seat, or it
-- is in use.
abbrev pub Opens : List Limits → ℕ → Result Passed DeskFault → Type 0
Opens seats seat (Ok p) = (p ≡ opened seat p.limits) × (seat_limits seats seat ≡ Some p.limits)
Opens seats seat (Err f) = OpensNot (seat_limits seats seat) f
