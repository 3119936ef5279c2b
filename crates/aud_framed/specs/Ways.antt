-- Where a step of one task leads, its frames are those that are open there.
use Rattle.std.specs.Prelude.{◌≡◌, ℕ, suc, List, [], ◌∷◌, length, Option, None, Some, Bool, false, slice_get}
use Rattle.aud_typed.specs.Tree.{For}
use Rattle.aud_typed.specs.declared.program.Exception.{Exception}
use Rattle.aud_meaning.specs.declared.state.Construct.TheVariants as construct
use Rattle.aud_meaning.specs.declared.state.OpenAccept.{OpenAccept}
use Rattle.aud_meaning.specs.declared.state.Pending.{Pending}
use Rattle.aud_meaning.specs.declared.state.Resumed.{Resumed}
use Rattle.aud_meaning.specs.declared.state.Construct.{Construct}
use Rattle.aud_meaning.specs.Configuration.{Purpose, for_body, for_block, for_loop, for_procedure, for_operation, for_entry, for_accept, Opened, Own}
use Rattle.aud_meaning.specs.Effects.{closed, out_of, out_of_loops}
use Rattle.aud_meaning.specs.Control.{Scene}
use Rattle.aud_code.specs.Places.{Spot, Way, Guard, guarded}
use Rattle.aud_code.specs.Instruction.{Ending, Activate, Accept, Select, Operands, Reached, no_operands}
use Rattle.aud_code.specs.Eval.{eval}
use Rattle.aud_code.specs.Flat.{Does, Continues, Guards, Ends, Leaves, EndLine, Flat, ended_in, instructions_at, left_by, start_at}
use Rattle.aud_code.specs.Frames.{found, At, LoopAround, OutOfLoops, WaysAt, frame_inside, OpensAccept}
use Rattle.aud_code.specs.Seen.{IsSeen, inside}
use Rattle.aud_code.specs.Sound.{Counts, IsSound, IsStart, IsStatement}
use Rattle.aud_over.specs.Standing.{bones, LastIsMaster, LeavesNoMaster}
use Rattle.aud_framed.specs.Held.{OpenedBy, GoesBack, Holds, StandsAt}
use Rattle.aud_framed.specs.Waiting.{IsOffered, EachOffered}

module _ (code : Flat) (seen : List ℕ) where
  -- it stands at the step whose ending this is, and nothing is pending
  pub record StandsAtStep (place : ℕ) (l : EndLine) (returns display : List ℕ) (os : List Opened) : Type 0 where
    pub begins : IsStart code.lines place
    pub is : found code.lines place ≡ Some l
    pub stands : StandsAt code.lines seen None (record { place = place; returns = returns }) display os

-- a part follows of a step that opens no frame
abbrev pub PartFramedLaw : Type 0
PartFramedLaw =
    (code : Flat) (table : List Counts) (tasks barriers seen : List ℕ) → IsSound code → IsSeen code table tasks barriers seen → (place part next : ℕ) (returns display : List ℕ) (os : List Opened) (e : Ending) (l : EndLine) → StandsAtStep code seen place l returns display os → l.last ≡ Does e → ((w : Option ℕ) → frame_inside e place w ≡ w) → ((n : ℕ) → inside e n ≡ n) → slice_get l.ways part ≡ Some next → StandsAt code.lines seen None (record { place = next; returns = returns }) display os

-- what is in a loop or block follows, with the frame that its step opens
abbrev pub InsideFramedLaw : Type 0
InsideFramedLaw =
    (code : Flat) (table : List Counts) (tasks barriers seen : List ℕ) → IsSound code → IsSeen code table tasks barriers seen → (place part next : ℕ) (returns display more : List ℕ) (o : Opened) (os : List Opened) (e : Ending) (l : EndLine) → StandsAtStep code seen place l returns display os → l.last ≡ Does e → frame_inside e place l.within ≡ Some place → ((n : ℕ) → inside e n ≡ suc n) → slice_get l.ways (suc part) ≡ Some next → OpenedBy (Does e) o.purpose → o.saved ≡ display → length more ≡ suc (length display) → StandsAt code.lines seen None (record { place = next; returns = returns }) more (o ∷ os)

-- a block is left at its end
abbrev pub BlockFramedLaw : Type 0
BlockFramedLaw =
    (code : Flat) (table : List Counts) (tasks barriers seen : List ℕ) → IsSound code → IsSeen code table tasks barriers seen → (place next : ℕ) (returns display : List ℕ) (o : Opened) (os : List Opened) (l : EndLine) → StandsAtStep code seen place l returns display (o ∷ os) → l.last ≡ Ends construct.Block next → StandsAt code.lines seen None (record { place = next; returns = returns }) o.saved os

-- so is what an accept does
abbrev pub AcceptFramedLaw : Type 0
AcceptFramedLaw =
    (code : Flat) (table : List Counts) (tasks barriers seen : List ℕ) → IsSound code → IsSeen code table tasks barriers seen → (place next : ℕ) (returns display : List ℕ) (o : Opened) (os : List Opened) (l : EndLine) → StandsAtStep code seen place l returns display (o ∷ os) → l.last ≡ Ends construct.Accept next → StandsAt code.lines seen None (record { place = next; returns = returns }) o.saved os

-- the next turn of a loop, or behind it, where its frame is left
abbrev pub TurnFramedLaw : Type 0
TurnFramedLaw =
    (code : Flat) (table : List Counts) (tasks barriers seen : List ℕ) → IsSound code → IsSeen code table tasks barriers seen → (place part next : ℕ) (returns display : List ℕ) (o : Opened) (os : List Opened) (f : For) (l : EndLine) → StandsAtStep code seen place l returns display (o ∷ os) → l.last ≡ Continues f → (slice_get l.ways (suc part) ≡ Some next → StandsAt code.lines seen None (record { place = next; returns = returns }) display (o ∷ os)) × (slice_get l.ways 0 ≡ Some next → StandsAt code.lines seen None (record { place = next; returns = returns }) o.saved os)

-- out of loops, by exit, return or requeue
abbrev pub WayFramedLaw : Type 0
WayFramedLaw =
    (code : Flat) (table : List Counts) (tasks barriers seen : List ℕ) → IsSound code → IsSeen code table tasks barriers seen → (place : ℕ) (returns : List ℕ) (own : Own) (e : Ending) (w : Way) (l : EndLine) → StandsAtStep code seen place l returns own.display own.opened → l.last ≡ Does e → l.exit ≡ Some w → StandsAt code.lines seen None (record { place = w.to; returns = returns }) (out_of w.loops own).display (out_of w.loops own).opened

-- Bodies.

abbrev pub IsCalled : Purpose → Type 0
IsCalled for_body = ⊥
IsCalled for_block = ⊥
IsCalled for_loop = ⊥
IsCalled (for_procedure r) = Unit {0}
IsCalled (for_operation n r) = Unit {0}
IsCalled (for_entry n id served back) = ⊥
IsCalled (for_accept id) = ⊥

-- that of a task is begun
abbrev pub BeginsFramedLaw : Type 0
BeginsFramedLaw =
    (code : Flat) (table : List Counts) (tasks barriers seen : List ℕ) → IsSound code → IsSeen code table tasks barriers seen → (unit level : ℕ) (more : List ℕ) (o : Opened) → slice_get seen (start_at code unit) ≡ Some (suc level) → length more ≡ suc level → o.purpose ≡ for_body → StandsAt code.lines seen None (record { place = start_at code unit; returns = [] }) more (o ∷ [])

-- that of a procedure or operation is entered at the statement that calls it
abbrev pub EntersFramedLaw : Type 0
EntersFramedLaw =
    (code : Flat) (table : List Counts) (tasks barriers seen : List ℕ) → IsSound code → IsSeen code table tasks barriers seen → (place level unit : ℕ) (returns display more : List ℕ) (o : Opened) (os : List Opened) (l : EndLine) → StandsAtStep code seen place l returns display os → IsStatement l.last → slice_get seen (start_at code unit) ≡ Some (suc level) → length more ≡ suc level → IsCalled o.purpose → o.saved ≡ display → StandsAt code.lines seen None (record { place = start_at code unit; returns = place ∷ returns }) more (o ∷ os)

-- that of an entry wherever the task stands
abbrev pub ServesFramedLaw : Type 0
ServesFramedLaw =
    (code : Flat) (table : List Counts) (tasks barriers seen : List ℕ) → IsSound code → IsSeen code table tasks barriers seen → (place level unit object id : ℕ) (served : Bool) (back : Resumed) (returns display more : List ℕ) (o : Opened) (os : List Opened) → StandsAt code.lines seen back.pending (record { place = place; returns = returns }) display os → GoesBack code.lines back (place ∷ returns) → slice_get seen (start_at code unit) ≡ Some (suc level) → length more ≡ suc level → o.purpose ≡ for_entry object id served back → o.saved ≡ display → StandsAt code.lines seen None (record { place = start_at code unit; returns = place ∷ returns }) more (o ∷ os)

-- Accepts.

-- each accept that a step opens leads into what it does
abbrev pub OffersFramedLaw : Type 0
OffersFramedLaw =
    (code : Flat) (table : List Counts) (tasks barriers seen : List ℕ) → IsSound code → IsSeen code table tasks barriers seen → (place : ℕ) (returns display : List ℕ) (os : List Opened) (l : EndLine) → StandsAtStep code seen place l returns display os → ((a : OpenAccept) → a.alternative ≡ 0 → l.last ≡ Does (Accept a.entry a.region) → IsOffered code.lines seen l place (length display) a) × ((has_else : Bool) (s : Scene) (o : Operands) → l.last ≡ Does (Select has_else) → eval false s (instructions_at code place) 0 no_operands ≡ Reached o → EachOffered code.lines seen l place (length display) o.waits.accepts)

-- which is begun with the frame that the step opens
abbrev pub AcceptsFramedLaw : Type 0
AcceptsFramedLaw =
    (code : Flat) (table : List Counts) (tasks barriers seen : List ℕ) → IsSound code → IsSeen code table tasks barriers seen → (place b region id : ℕ) (returns display more : List ℕ) (a : OpenAccept) (o : Opened) (os : List Opened) (l : EndLine) → StandsAtStep code seen place l returns display os → OpensAccept l.last → IsOffered code.lines seen l place (length display) a → a.region ≡ Some region → slice_get l.bodies a.alternative ≡ Some b → o.purpose ≡ for_accept id → o.saved ≡ display → length more ≡ suc (length display) → StandsAt code.lines seen None (record { place = b; returns = returns }) more (o ∷ os)

-- Ends.

module _ (code : Flat) (seen : List ℕ) where
  -- where the end of a construct leads: around a block or accept; behind a procedure or operation at the statement that called it, whatever
  -- is pending there; behind an entry's body where the task stood
  abbrev pub LeadsTo : Type 0 → Purpose → Spot → List ℕ → List Opened → Type 0
  LeadsTo around for_body s saved os = Unit {0}
  LeadsTo around for_block s saved os = around
  LeadsTo around for_loop s saved os = ⊥
  LeadsTo around (for_procedure r) s saved os = (p : Option Pending) → StandsAt code.lines seen p s saved os
  LeadsTo around (for_operation n r) s saved os = (p : Option Pending) → StandsAt code.lines seen p s saved os
  LeadsTo around (for_entry n id served back) s saved os = GoesBack code.lines back (s.place ∷ []) × StandsAt code.lines seen back.pending s saved os
  LeadsTo around (for_accept id) s saved os = around

-- a construct is left at its end
abbrev pub EndsFramedLaw : Type 0
EndsFramedLaw =
    (code : Flat) (table : List Counts) (tasks barriers seen : List ℕ) → IsSound code → IsSeen code table tasks barriers seen → (place next : ℕ) (returns display : List ℕ) (o : Opened) (os : List Opened) (l : EndLine) (c : Construct) → StandsAtStep code seen place l returns display (o ∷ os) → l.last ≡ Ends c next → LeadsTo code seen (StandsAt code.lines seen None (ended_in code l.last (record { place = place; returns = returns })) o.saved os) o.purpose (ended_in code l.last (record { place = place; returns = returns })) o.saved os

-- a block together with loops around it
pub record LeavesBlock (code : Flat) (seen : List ℕ) (loops next : ℕ) (returns : List ℕ) (own : Own) : Type 0 where
  pub o : Opened
  pub os : List Opened
  pub opened : own.opened ≡ o ∷ os
  pub block : o.purpose ≡ for_block
  pub stands : StandsAt code.lines seen None (record { place = next; returns = returns }) (out_of loops (closed own)).display (out_of loops (closed own)).opened

abbrev pub LeavesFramedLaw : Type 0
LeavesFramedLaw =
    (code : Flat) (table : List Counts) (tasks barriers seen : List ℕ) → IsSound code → IsSeen code table tasks barriers seen → (place loops next : ℕ) (returns : List ℕ) (own : Own) (l : EndLine) → StandsAtStep code seen place l returns own.display own.opened → l.last ≡ Leaves loops next → LeavesBlock code seen loops next returns own

-- Exceptions.

-- Tasking_Error is pending behind an activation that failed
abbrev pub ActivatesFramedLaw : Type 0
ActivatesFramedLaw =
    (code : Flat) (table : List Counts) (tasks barriers seen : List ℕ) → IsSound code → IsSeen code table tasks barriers seen → (place next : ℕ) (returns display : List ℕ) (os : List Opened) (l : EndLine) (p : Pending) → StandsAtStep code seen place l returns display os → l.last ≡ Does Activate → slice_get l.ways 0 ≡ Some next → StandsAt code.lines seen (Some p) (record { place = next; returns = returns }) display os

module _ (code : Flat) (seen : List ℕ) where
  -- it stands at a place with an exception pending
  pub record Pends (place : ℕ) (l : EndLine) (returns display : List ℕ) (os : List Opened) (p : Pending) : Type 0 where
    pub begins : IsStart code.lines place
    pub is : found code.lines place ≡ Some l
    pub stands : StandsAt code.lines seen (Some p) (record { place = place; returns = returns }) display os

-- a handler is begun of what guards the place: the loops within it are left
abbrev pub HandledFramedLaw : Type 0
HandledFramedLaw =
    (code : Flat) (table : List Counts) (tasks barriers seen : List ℕ) → IsSound code → IsSeen code table tasks barriers seen → (place next : ℕ) (returns : List ℕ) (own : Own) (l guard : EndLine) (gs : List Guard) (x : Exception) (p : Pending) → Pends code seen place l returns own.display own.opened p → found code.lines l.out ≡ Some guard → guard.last ≡ Guards gs → guarded x gs ≡ Some next → StandsAt code.lines seen None (record { place = next; returns = returns }) (out_of_loops own).display (out_of_loops own).opened

-- the exception leaves the innermost construct
pub record LeavesConstruct (code : Flat) (seen : List ℕ) (s : Spot) (own : Own) : Type 0 where
  pub o : Opened
  pub os : List Opened
  pub opened : (out_of_loops own).opened ≡ o ∷ os
  pub leads : LeadsTo code seen ((q : Pending) → StandsAt code.lines seen (Some q) s o.saved os) o.purpose s o.saved os

abbrev pub LeftFramedLaw : Type 0
LeftFramedLaw =
    (code : Flat) (table : List Counts) (tasks barriers seen : List ℕ) → IsSound code → IsSeen code table tasks barriers seen → (place : ℕ) (returns : List ℕ) (own : Own) (l : EndLine) (p : Pending) → Pends code seen place l returns own.display own.opened p → LeavesConstruct code seen (left_by code l.out (record { place = place; returns = returns })) own

-- What a step asks fits the frames that a task holds: exit, return and the turn of a loop leave no master, and the outermost frame is a
-- body's.
pub record FitsHeld (code : Flat) (seen : List ℕ) (w : Option ℕ) (returns : List ℕ) (os : List Opened) : Type 0 where
  pub way : (loops to : ℕ) → OutOfLoops code.lines loops w (At code.lines to) → LeavesNoMaster loops (bones os)
  pub turn : (ways : List ℕ) → LoopAround code.lines w (λ v. WaysAt code.lines v w ways) → LeavesNoMaster 1 (bones os)
  pub last : LastIsMaster (bones os)

abbrev pub HeldFitsLaw : Type 0
HeldFitsLaw = (code : Flat) (seen : List ℕ) (w : Option ℕ) (returns : List ℕ) (os : List Opened) → Holds code.lines seen w returns os → FitsHeld code seen w returns os
