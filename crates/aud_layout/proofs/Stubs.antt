-- The ways of the lines by which a block is left.
use Rattle.std.proofs.Common.{◌≡◌, ℕ, zero, suc, ◌<◌, List, [], ◌∷◌, length, drop, refl, arith}
use Rattle.std.specs.Prelude.{map}
use Rattle.aud_code.specs.View.{plain_way}
use Rattle.aud_code.specs.declared.line.Way.{Way as Away}
use Rattle.aud_layout.specs.Layout.{stub_ways}

pub next_stub : (ways : List Away) (i place : ℕ) → i < length ways → stub_ways (map plain_way (drop i ways)) place ≡ record { to = place; loops = 0 } ∷ stub_ways (map plain_way (drop (suc i) ways)) (suc place)
next_stub [] i place h = absurd (omega (arith, h))
next_stub (w ∷ ways) zero place h = refl
next_stub (w ∷ ways) (suc i) place h = next_stub ways i place (omega (arith, h))
