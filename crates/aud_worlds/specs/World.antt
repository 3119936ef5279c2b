-- The world of all users: a hall, and the parcels that are out; and what each event makes of it.
use Rattle.std.specs.Prelude.{ℕ, List, [], ◌∷◌, ◌++◌, Option, Some, None, Bool}
use Rattle.aud_text.specs.declared.limits.Limits.{Limits}
use Rattle.aud_bench.specs.declared.request.Request.{Request}
use Rattle.aud_bench.specs.Seen.{Seen as Bench, unanswered}
use Rattle.aud_hall.specs.Numbered.{at, put, joined}
use Rattle.aud_hall.specs.Slices.{done, sliced}
use Rattle.aud_hall.specs.Replies.{Reply, Sent, Worked, Taken, Nothing, Then}
use Rattle.aud_hall.specs.Parcels.{Parcel}
use Rattle.aud_hall.specs.Halls.{Place, HallSending, nobodys, claims, submits, sends_out, checks_in, collects, frees}

-- parcels are numbered from 0, in the order in which they were sent out; nothing stands where one was taken in
pub record World : Type 0 where
  pub hall : List Place
  pub out : List (Option Parcel)

-- Each event that takes memory says whether that was refused, and one that goes on for a while, after how much.
pub data Event : Type 0 where
  Claim : (seat : ℕ) (refused : Bool) → Event
  Submit : (seat : ℕ) (request : Request) (refused : Bool) → Event
  -- refused after so many requests were given
  SendOut : (seat : ℕ) (refused : Option ℕ) → Event
  -- refused after so many units were done
  Slice : (parcel units : ℕ) (refused : Option ℕ) → Event
  CheckIn : (parcel seat : ℕ) → Event
  Collect : (seat from : ℕ) (refused : Bool) → Event
  Free : (seat : ℕ) → Event

-- ## What events make of the hall

abbrev pub in_hall : World → Then (List Place) → Then World
in_hall w t = record { now = record w { hall = t.now }; reply = t.reply }

abbrev pub parcels : (seat : ℕ) → Option Bench → List (Option Parcel)
parcels k None = []
parcels k (Some b) = Some (record { seat = k; bench = b }) ∷ []

abbrev pub sending_away : (seat : ℕ) → World → HallSending → Then World
sending_away k w x = record { now = record { hall = x.hall; out = w.out ++ parcels k x.gone }; reply = Sent x.gone }

-- ## What they make of the parcels

-- the parcel of this number, if it is out
abbrev pub parcel_at : List (Option Parcel) → ℕ → Option Parcel
parcel_at out n = joined (at out n)

abbrev pub worked : (units : ℕ) (refused : Option ℕ) → Bench → Reply
worked units refused b = Worked (done units refused b) (unanswered (sliced units refused b))

abbrev pub slicing : (n units : ℕ) (refused : Option ℕ) → World → Option Parcel → Then World
slicing n units refused w None = record { now = w; reply = Nothing }
slicing n units refused w (Some p) = record {
  now = record w { out = put w.out n (Some (record p { bench = sliced units refused p.bench })) };
  reply = worked units refused p.bench;
}

-- what is out after one of them was answered so
abbrev pub out_after : {A : Type 0} → List (Option A) → ℕ → Reply → List (Option A)
out_after out n (Taken next) = put out n None
out_after out n _ = out

abbrev pub coming_in : ℕ → World → Then (List Place) → Then World
coming_in n w t = record { now = record { hall = t.now; out = out_after w.out n t.reply }; reply = t.reply }

abbrev pub checking : (n k : ℕ) → World → Option Parcel → Then World
checking n k w None = record { now = w; reply = Nothing }
checking n k w (Some p) = coming_in n w (checks_in k p.bench w.hall)

-- ## Events

abbrev pub happens : Event → World → Then World
happens (Claim k refused) w = in_hall w (claims k refused w.hall)
happens (Submit k r refused) w = in_hall w (submits k r refused w.hall)
happens (SendOut k refused) w = sending_away k w (sends_out k refused w.hall)
happens (Slice n units refused) w = slicing n units refused w (parcel_at w.out n)
happens (CheckIn n k) w = checking n k w (parcel_at w.out n)
happens (Collect k from refused) w = in_hall w (collects k from refused w.hall)
happens (Free k) w = in_hall w (frees k w.hall)

-- a hall that nobody has entered yet, and no parcel
abbrev pub beginning : List Limits → World
beginning limits = record { hall = nobodys limits; out = [] }

abbrev pub after_all : World → List Event → World
after_all w [] = w
after_all w (e ∷ es) = after_all (happens e w).now es

abbrev pub replies_to : World → List Event → List Reply
replies_to w [] = []
replies_to w (e ∷ es) = (happens e w).reply ∷ replies_to (happens e w).now es
