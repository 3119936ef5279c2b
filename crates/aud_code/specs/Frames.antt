-- Frames that are open where steps stand: those of the constructs and loops around each step, on all ways.
use Rattle.std.specs.Prelude.{◌≡◌, ◌⊎◌, ℕ, zero, suc, List, [], ◌∷◌, drop, Option, Some, None, slice_get}
use Rattle.aud_meaning.specs.declared.state.Construct.TheVariants as construct
use Rattle.aud_meaning.specs.declared.state.OpenAccept.{OpenAccept}
use Rattle.aud_code.specs.Places.{Way, Guard}
use Rattle.aud_code.specs.Instruction as instruction
use Rattle.aud_code.specs.Instruction.{Instruction, Ending, Loop, Block, Accept, Select}
use Rattle.aud_code.specs.Flat.{Last, Does, Continues, Guards, Ends, Leaves, EndLine, FlatLine, instructs, end, instructions_from}

-- the first ending, if there is one
abbrev pub found_from : List FlatLine → Option EndLine
found_from [] = None
found_from (instructs i ∷ ls) = found_from ls
found_from (end l ∷ ls) = Some l

-- what holds of an ending that must be there
abbrev pub Found : Option EndLine → (EndLine → Type 0) → Type 0
Found None P = ⊥
Found (Some l) P = P l

-- what holds of the number that is written
abbrev pub IsWritten : Option ℕ → (ℕ → Type 0) → Type 0
IsWritten None P = ⊥
IsWritten (Some n) P = P n

-- what holds of each accept that instructions open
abbrev pub OpensWith : Instruction → (OpenAccept → Type 0) → Type 0
OpensWith (instruction.OpensAccept a) P = P a
OpensWith i P = Unit {0}

abbrev pub EachOpened : List Instruction → (OpenAccept → Type 0) → Type 0
EachOpened [] P = Unit {0}
EachOpened (i ∷ is) P = OpensWith i P × EachOpened is P

-- steps that open frames: of a loop, of a block, of what is done in a rendezvous
abbrev pub OpensLoop : Last → Type 0
OpensLoop (Does (Loop f)) = Unit {0}
OpensLoop last = ⊥

abbrev pub OpensBlock : Last → Type 0
OpensBlock (Does (Block region)) = Unit {0}
OpensBlock last = ⊥

abbrev pub OpensAccept : Last → Type 0
OpensAccept (Does (Accept entry region)) = Unit {0}
OpensAccept (Does (Select has_else)) = Unit {0}
OpensAccept last = ⊥

-- exceptions go to the line that guards statements, or to the end of a construct
abbrev pub IsEnd : Last → Type 0
IsEnd (Ends c next) = Unit {0}
IsEnd last = ⊥

abbrev pub TakesExceptions : Last → Type 0
TakesExceptions (Guards gs) = Unit {0}
TakesExceptions last = IsEnd last

-- where a step at the place n leads that stands within w: its other ways lead into the frame that it opens, if it opens one
abbrev pub frame_inside : Ending → ℕ → Option ℕ → Option ℕ
frame_inside (Loop f) n w = Some n
frame_inside (Block region) n w = Some n
frame_inside e n w = w

module _ (lines : List FlatLine) where
  -- the ending of the step that begins at a place
  abbrev pub found : ℕ → Option EndLine
  found n = found_from (drop n lines)

  -- a step begins there that stands within v
  abbrev pub At : ℕ → Option ℕ → Type 0
  At n v = Found (found n) (λ l. l.within ≡ v)

  abbrev pub EachAt : List ℕ → Option ℕ → Type 0
  EachAt [] v = Unit {0}
  EachAt (n ∷ ns) v = At n v × EachAt ns v

  -- the step that opened the innermost frame, if that is there
  abbrev pub opener : Option ℕ → Option EndLine
  opener None = None
  opener (Some m) = found m

  abbrev pub Opened : Option ℕ → (EndLine → Type 0) → Type 0
  Opened w P = Found (opener w) P

  abbrev pub LoopAround : Option ℕ → (Option ℕ → Type 0) → Type 0
  LoopAround w go = Opened w (λ l. OpensLoop l.last × go l.within)

  abbrev pub BlockAround : Option ℕ → (Option ℕ → Type 0) → Type 0
  BlockAround w go = Opened w (λ l. OpensBlock l.last × go l.within)

  abbrev pub AcceptAround : Option ℕ → (Option ℕ → Type 0) → Type 0
  AcceptAround w go = Opened w (λ l. OpensAccept l.last × go l.within)

  -- out of so many loops; what holds of what is around them
  abbrev pub OutOfLoops : ℕ → Option ℕ → (Option ℕ → Type 0) → Type 0
  OutOfLoops zero w go = go w
  OutOfLoops (suc n) w go = LoopAround w (λ v. OutOfLoops n v go)

  -- a way out of loops (RM 5.7, 6.5)
  abbrev pub WayFits : Option ℕ → Option Way → Type 0
  WayFits w None = Unit {0}
  WayFits w (Some way) = OutOfLoops way.loops w (At way.to)

  -- where exceptions go of what stands within w (RM 11.4): those within a loop go where those of the loop's own step go
  abbrev pub GoTo : Option ℕ → ℕ → Type 0
  GoTo w out = Found (found out) (λ l. TakesExceptions l.last × (l.within ≡ w))

  abbrev pub OutOf : Last → ℕ → ℕ → ℕ → Type 0
  OutOf (Does (Loop f)) m loops_out out = loops_out ≡ out
  OutOf last m loops_out out = GoTo (Some m) out

  abbrev pub OutFits : Option ℕ → ℕ → Type 0
  OutFits None out = GoTo None out
  OutFits (Some m) out = Found (found m) (λ l. OutOf l.last m l.out out)

  -- the first way leads to what stands within v, the others to what stands within w
  abbrev pub WaysAt : Option ℕ → Option ℕ → List ℕ → Type 0
  WaysAt v w [] = Unit {0}
  WaysAt v w (n ∷ ns) = At n v × EachAt ns w

  -- what an accept does stands within its step, which opens the frame; where it does nothing, the step leads on
  abbrev pub BodyAt : Option ℕ → Option ℕ → ℕ → ℕ → Type 0
  BodyAt None w n b = At b w
  BodyAt (Some region) w n b = At b (Some n)

  -- the one or the other
  abbrev pub EitherAt : Option ℕ → ℕ → List ℕ → Type 0
  EitherAt w n [] = Unit {0}
  EitherAt w n (b ∷ bs) = (At b w ⊎ At b (Some n)) × EitherAt w n bs

  -- those of a selective accept by the accepts that its step's instructions open
  abbrev pub BodiesAt : Ending → Option ℕ → ℕ → List ℕ → Type 0
  BodiesAt (Accept entry region) w n [] = ⊥
  BodiesAt (Accept entry region) w n (b ∷ bs) = BodyAt region w n b × EitherAt w n bs
  BodiesAt (Select has_else) w n bs = EitherAt w n bs × EachOpened (instructions_from (drop n lines)) (λ a. IsWritten (slice_get bs a.alternative) (BodyAt a.region w n))
  BodiesAt e w n bs = EitherAt w n bs

  abbrev pub GuardsAt : Option ℕ → List Guard → Type 0
  GuardsAt w [] = Unit {0}
  GuardsAt w (g ∷ gs) = At g.to w × GuardsAt w gs

  -- behind the end of a construct, what is around it
  abbrev pub Behind : ℕ → ℕ → Option ℕ → Type 0
  Behind next out v = At next v × OutFits v out

  -- What a step meets that begins at the place n: where it leads, the frames are open that are to be open there.
  abbrev pub LastFits : Last → ℕ → EndLine → Type 0
  LastFits (Does e) n l = WaysAt l.within (frame_inside e n l.within) l.ways × (BodiesAt e l.within n l.bodies × (WayFits l.within l.exit × OutFits l.within l.out))
  LastFits (Continues f) n l = LoopAround l.within (λ v. WaysAt v l.within l.ways)
  LastFits (Guards gs) n l = GuardsAt l.within gs × Found (found l.out) (λ o. IsEnd o.last × (o.within ≡ l.within))
  LastFits (Ends construct.Unit next) n l = l.within ≡ None
  LastFits (Ends construct.Block next) n l = BlockAround l.within (Behind next l.out)
  LastFits (Ends construct.Accept next) n l = AcceptAround l.within (Behind next l.out)
  LastFits (Leaves loops to) n l = BlockAround l.within (λ v. OutOfLoops loops v (At to))

  abbrev pub FitsBy : Option EndLine → ℕ → Type 0
  FitsBy None n = Unit {0}
  FitsBy (Some l) n = LastFits l.last n l

  abbrev pub StepFits : ℕ → Type 0
  StepFits n = FitsBy (found n) n
