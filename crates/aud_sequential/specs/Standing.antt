-- Where a task stands, whatever it has besides.
use Rattle.std.specs.Prelude.{◌≡◌, ℕ, Option, None, Bool, true, false}
use Rattle.aud_typed.specs.Tree.{Plan}
use Rattle.aud_meaning.specs.Evaluation.{Sight}
use Rattle.aud_meaning.specs.Control.{Coming, simply, ending, selecting, calling, starting}
use Rattle.aud_meaning.specs.Run.{master_left_by}
use Rattle.aud_meaning.specs.declared.state.Pending.{Pending}
use Rattle.aud_meaning.specs.Ties.Stack.{Stack, out_of_loops}
use Rattle.aud_meaning.specs.Ties.Part.{Part}
use Rattle.aud_code.specs.Places.{Spot}
use Rattle.aud_code.specs.Flat.{Flat, coming_at}
use Rattle.aud_code.specs.declared.line.Last.{Last}
use Rattle.aud_code.specs.declared.line.Last.TheVariants.{Guards, Ends, Leaves}

-- it stands at this place, with this pending, and has these frames open
pub record StandsAt (at : ℕ) (pending : Option Pending) (s : Stack) (p : Part Spot) : Type 0 where
  pub place : p.control.place ≡ at
  pub pends : p.pending ≡ pending
  pub stack : p.stack ≡ s

-- whether a step leaves the innermost construct, by how it ends
abbrev pub leaves_by : Last → Bool
leaves_by (Guards gs) = true
leaves_by (Ends c next) = true
leaves_by (Leaves n to) = true
leaves_by last = false

-- what comes next leaves the innermost construct, or does not
abbrev pub IsLeaving : Bool → Coming → Type 0
IsLeaving leaves (simply w) = leaves ≡ false
IsLeaving leaves ending = leaves ≡ true
IsLeaving leaves (selecting ones) = leaves ≡ false
IsLeaving leaves (calling task entry) = leaves ≡ false
IsLeaving leaves (starting object reading) = leaves ≡ false

-- so it is, whatever the program's plan and what it sees
abbrev pub LeavesIn : Flat → Part Spot → Bool → Type 0
LeavesIn code p leaves = (plan : Plan) (s : Sight) → IsLeaving leaves (coming_at code plan p.pending s p.control)

-- what comes next leaves this master, if it leaves one (RM 9.3)
abbrev pub IsOfMaster : Stack → Option ℕ → Coming → Type 0
IsOfMaster s master (simply w) = master ≡ None
IsOfMaster s master ending = master ≡ master_left_by (out_of_loops s).opened
IsOfMaster s master (selecting ones) = master ≡ None
IsOfMaster s master (calling task entry) = master ≡ None
IsOfMaster s master (starting object reading) = master ≡ None

abbrev pub LeavesMaster : Flat → Part Spot → Option ℕ → Type 0
LeavesMaster code p master = (plan : Plan) (s : Sight) → IsOfMaster p.stack master (coming_at code plan p.pending s p.control)
