-- What holds of every world: each seat is right, and so is each parcel that is out.
use Rattle.std.specs.Prelude.{List, [], ◌∷◌, Option, Some, None}
use Rattle.aud_hall.specs.Halls.{Place}
use Rattle.aud_hall.specs.Parcels.{Parcel}
use Rattle.aud_hall.specs.Ties.Right.{IsTrue, IsRightSeat}
use Rattle.aud_worlds.specs.World.{World}

abbrev pub Each : {A : Type 0} → (A → Type 0) → List A → Type 0
Each P [] = Unit {0}
Each P (x ∷ xs) = P x × Each P xs

abbrev pub IsRightPlace : Place → Type 0
IsRightPlace place = IsRightSeat place.limits place.seat

abbrev pub IsRightSlot : Option Parcel → Type 0
IsRightSlot None = Unit {0}
IsRightSlot (Some p) = IsTrue p.bench

pub record IsRightWorld (w : World) : Type 0 where
  pub hall : Each IsRightPlace w.hall
  pub out : Each IsRightSlot w.out
