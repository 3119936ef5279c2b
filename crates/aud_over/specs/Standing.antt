-- When frames that were left are named by nobody: the frames that a task sees are its own open ones, or held open by what it depends
-- on, or those around an object.
use Rattle.std.specs.Prelude.{◌≡◌, ◌⊎◌, ◌<◌, ℕ, zero, suc, List, [], ◌∷◌, ◌++◌, Option, Some, None, Bool, true, false, slice_get, slice_index_or, length, nat_eq, ◌||◌}
use Rattle.aud_text.specs.declared.limits.Limits.{Limits}
use Rattle.aud_typed.specs.Tree.{Plan}
use Rattle.aud_meaning.specs.declared.state.Status.{Status}
use Rattle.aud_meaning.specs.Configuration.{Purpose, for_body, for_block, for_loop, for_procedure, for_operation, for_entry, for_accept, Opened, Own, Object, TaskAt, All}
use Rattle.aud_meaning.specs.Effects.{out_of_loops}
use Rattle.aud_meaning.specs.Control.{Seen, Asked, Controls, goes_out, next_of_loop, ends, declares_tasks, requeues}
use Rattle.aud_meaning.specs.Parts.{contains, any, nobody, no_object, owns, in_action, is_created, is_terminated, is_master}
use Rattle.aud_meaning.specs.declared.state.Move.{Move}
use Rattle.aud_meaning.specs.Run.{Turn, resting, closing, completing, withdrawing, serving, expiring, cancelling, acting, turn, seen, scene_of, moves_at, step_with, opening_with, restarting}
use Rattle.aud_over.specs.Looks.{Looks}
use Rattle.aud_over.specs.Law.{IsOneOf}
use Rattle.aud_over.specs.Over.{object_names, is_named, is_served, frames_left, calls_left, with_kept, forgotten}

abbrev pub at : List Own → ℕ → Own
at os n = slice_index_or os n nobody

-- what a task goes back to behind an entry body
abbrev pub back_of : Purpose → Option Status
back_of for_body = None
back_of for_block = None
back_of for_loop = None
back_of (for_procedure r) = None
back_of (for_operation n r) = None
back_of (for_entry n id s b) = Some b.status
back_of (for_accept id) = None

-- of an open frame what lasts as long as it
pub record Bone : Type 0 where
  pub frame : ℕ
  pub saved : List ℕ
  pub master : Bool
  pub back : Option Status

abbrev pub bone : Opened → Bone
bone o = record { frame = o.frame; saved = o.saved; master = is_master o; back = back_of o.purpose }

abbrev pub bones : List Opened → List Bone
bones [] = []
bones (o ∷ os) = bone o ∷ bones os

abbrev pub Contains : ℕ → List ℕ → Type 0
Contains f ns = contains f ns ≡ true

-- one of these frames
abbrev pub IsFrame : ℕ → List Bone → Type 0
IsFrame f [] = ⊥
IsFrame f (b ∷ bs) = (f ≡ b.frame) ⊎ IsFrame f bs

abbrev pub outermost : List Bone → ℕ
outermost [] = 0
outermost (b ∷ []) = b.frame
outermost (b ∷ c ∷ bs) = outermost (c ∷ bs)

abbrev pub LastIsMaster : List Bone → Type 0
LastIsMaster [] = ⊥
LastIsMaster (b ∷ []) = b.master ≡ true
LastIsMaster (b ∷ c ∷ bs) = LastIsMaster (c ∷ bs)

-- it is one of these frames, at a master or further out, and something depends on that master
abbrev pub IsHeld : List ℕ → ℕ → List Bone → Type 0
IsHeld masters f [] = ⊥
IsHeld masters f (b ∷ bs) = ((b.master ≡ true) × Contains b.frame masters × IsFrame f (b ∷ bs)) ⊎ IsHeld masters f bs

-- around an object, or the first one
abbrev pub IsPinned : List Object → ℕ → Type 0
IsPinned objects f = (f ≡ 0) ⊎ (any (object_names f) objects ≡ true)

-- where something that depends on these masters may see it
abbrev pub MaySee : List Own → List Object → List ℕ → ℕ → Type 0
MaySee os objects masters f = IsPinned objects f ⊎ ((n : ℕ) × IsHeld masters f (bones (at os n).opened))

abbrev pub EachIs : (ℕ → Type 0) → List ℕ → Type 0
EachIs holds [] = Unit {0}
EachIs holds (n ∷ ns) = holds n × EachIs holds ns

-- what is seen now, and was seen before each open frame
abbrev pub Sees : (ℕ → Type 0) → List ℕ → List Bone → Type 0
Sees may display [] = EachIs may display
Sees may display (b ∷ bs) = EachIs (λ f. IsFrame f (b ∷ bs) ⊎ may f) display × Sees may b.saved bs

abbrev pub GoesBack : Option Status → Type 0
GoesBack None = Unit {0}
GoesBack (Some s) = (is_created s ≡ false) × (is_terminated s ≡ false)

-- a frame was opened behind those around it
abbrev pub AreStacked : List Bone → Type 0
AreStacked [] = Unit {0}
AreStacked (b ∷ bs) = (GoesBack b.back × ((f : ℕ) → IsFrame f bs → f < b.frame)) × AreStacked bs

-- it has lost its frames
pub record IsEmpty (own : Own) : Type 0 where
  pub display : own.display ≡ []
  pub opened : bones own.opened ≡ []

-- but for tasks of which this holds by what they depend on
pub record StandsBut (ends : List ℕ → Bool) (os : List Own) (objects : List Object) (frames : ℕ) : Type 0 where
  pub sees : (n : ℕ) → ends (at os n).masters ≡ false → Sees (MaySee os objects (at os n).masters) (at os n).display (bones (at os n).opened)
  pub made : (n f : ℕ) → IsFrame f (bones (at os n).opened) → f < frames
  pub made_masters : (n f : ℕ) → Contains f (at os n).masters → f < frames
  pub ended : (n : ℕ) → is_terminated (at os n).status ≡ true → IsEmpty (at os n)
  pub created : (n : ℕ) → is_created (at os n).status ≡ true → bones (at os n).opened ≡ []
  pub back : (n : ℕ) → AreStacked (bones (at os n).opened)
  -- no frame is open in two tasks
  pub apart : (n m f : ℕ) → IsFrame f (bones (at os n).opened) → IsFrame f (bones (at os m).opened) → n ≡ m
  -- what depends on a frame of a task depends on what the task depends on, and on its body, if its outermost frame is that of one
  pub through : (n m f g : ℕ) → IsFrame f (bones (at os n).opened) → Contains f (at os m).masters → Contains g (at os n).masters → Contains g (at os m).masters
  pub bodies : (n m f : ℕ) → IsFrame f (bones (at os n).opened) → Contains f (at os m).masters → LastIsMaster (bones (at os n).opened) → Contains (outermost (bones (at os n).opened)) (at os m).masters

-- with frames that are kept for other reasons, as if they were around an object
abbrev pub around : List ℕ → List Object → List Object
around pins objects = objects ++ record no_object { display = pins } ∷ []

abbrev pub Stands : {C : Type 0} → List ℕ → All C → Type 0
Stands pins c = StandsBut (λ masters. false) (owns c.tasks) (around pins c.shared.objects) (length c.shared.frames)

-- What a step may ask.

-- of so many innermost frames none is a master's
abbrev pub LeavesNoMaster : ℕ → List Bone → Type 0
LeavesNoMaster zero bs = Unit {0}
LeavesNoMaster (suc n) [] = Unit {0}
LeavesNoMaster (suc n) (b ∷ bs) = (b.master ≡ false) × LeavesNoMaster n bs

-- only a block is left together with loops around it
abbrev pub IsBlock : Purpose → Type 0
IsBlock for_body = ⊥
IsBlock for_block = Unit {0}
IsBlock for_loop = ⊥
IsBlock (for_procedure r) = ⊥
IsBlock (for_operation n r) = ⊥
IsBlock (for_entry n id s b) = ⊥
IsBlock (for_accept id) = ⊥

abbrev pub LeavesFit : ℕ → List Opened → Type 0
LeavesFit zero os = Unit {0}
LeavesFit (suc n) [] = ⊥
LeavesFit (suc n) (o ∷ os) = IsBlock o.purpose × LeavesNoMaster (suc n) (bones os)

abbrev pub FirstIsMaster : List Bone → Type 0
FirstIsMaster [] = ⊥
FirstIsMaster (b ∷ bs) = b.master ≡ true

-- its open frames are kept whatever is left
abbrev pub AreKept : (ℕ → Type 0) → Own → Type 0
AreKept pinned own = (f : ℕ) → IsFrame f (bones own.opened) → pinned f

-- What a task asks fits its open frames: it goes out of loops only, and declares tasks directly in a body or block, or within a
-- protected action, which declares none. Else its frames are kept, or what it sees.
abbrev pub AskedFits : (ℕ → Type 0) → Own → Bool → Asked → Type 0
AskedFits pinned own acts (goes_out loops value) = LeavesNoMaster loops (bones own.opened) ⊎ AreKept pinned own
AskedFits pinned own acts (requeues loops r) = LeavesNoMaster loops (bones own.opened) ⊎ AreKept pinned own
AskedFits pinned own acts (next_of_loop f) = LeavesNoMaster 1 (bones own.opened) ⊎ AreKept pinned own
AskedFits pinned own acts (ends loops) = LeavesFit loops (out_of_loops own).opened ⊎ AreKept pinned own
AskedFits pinned own acts (declares_tasks at ts) = nat_eq ts.length 0 ≡ false → acts ≡ false → FirstIsMaster (bones own.opened) ⊎ EachIs pinned own.display
AskedFits pinned own acts _ = Unit {0}

-- What a task does next fits its open frames: what it asks, and a task that is terminated began with a body.
abbrev pub TurnFits : Turn → (ℕ → Type 0) → Own → Bool → Asked → Type 0
TurnFits resting pinned own acts asked = Unit {0}
TurnFits closing pinned own acts asked = LastIsMaster (bones own.opened) ⊎ AreKept pinned own
TurnFits completing pinned own acts asked = Unit {0}
TurnFits (withdrawing object) pinned own acts asked = Unit {0}
TurnFits (serving s) pinned own acts asked = Unit {0}
TurnFits (restarting r) pinned own acts asked = Unit {0}
TurnFits (expiring delays) pinned own acts asked = Unit {0}
TurnFits (cancelling id) pinned own acts asked = Unit {0}
TurnFits (acting next) pinned own acts asked = AskedFits pinned own acts asked

module _ {C : Type 0} (pins : List ℕ) (plan : Plan) (k : Controls C) where
  abbrev pub FitsBy : Option (TaskAt Seen) → Option (TaskAt C) → ℕ → All C → Type 0
  FitsBy None t n c = Unit {0}
  FitsBy (Some s) None n c = Unit {0}
  FitsBy (Some s) (Some t) n c =
      TurnFits (turn plan k.barrier n s (seen plan k c)) (IsPinned (around pins c.shared.objects)) t.own (in_action n c) (k.asks t.own.pending (scene_of plan k n c) t.control)

  abbrev pub Fits : ℕ → All C → Type 0
  Fits n c = FitsBy (slice_get (seen plan k c).tasks n) (slice_get c.tasks n) n c

-- So it is at the beginning, and behind each step that fits; more may be kept at any time.
abbrev pub OpensLaw : (C : Type 0) → Type 0
OpensLaw C = (plan : Plan) (name : List ℕ) (left : C) → Stands [] (opening_with plan name left)

abbrev pub KeepsLaw : (C : Type 0) → Type 0
KeepsLaw C =
    (pins : List ℕ) (plan : Plan) (k : Controls C) (limits : Limits) (c : All C) (m : Move) → Fits pins plan k m.task c → Stands pins c → Stands pins (step_with plan k limits c m)

-- what a task sees, and its open frames
abbrev pub frames_of : List Opened → List ℕ
frames_of [] = []
frames_of (o ∷ os) = o.frame ∷ frames_of os

abbrev pub its_frames : Own → List ℕ
its_frames own = own.display ++ frames_of own.opened

-- of any step, where those of the task that takes it are kept from then on
abbrev pub AlwaysLaw : (C : Type 0) → Type 0
AlwaysLaw C =
    (pins : List ℕ) (plan : Plan) (k : Controls C) (limits : Limits) (c : All C) (m : Move) → Stands pins c → Stands (its_frames (at (owns c.tasks) m.task) ++ pins) (step_with plan k limits c m)

abbrev pub PinsLaw : (C : Type 0) → Type 0
PinsLaw C = (pins more : List ℕ) (c : All C) → Stands pins c → Stands (more ++ pins) c

-- Frames that are open, around an object, or kept for other reasons; and the first one.

abbrev pub opens_it : ℕ → Own → Bool
opens_it f own = any (λ (o : Opened). nat_eq f o.frame) own.opened

abbrev pub is_open : List Own → List Object → ℕ → Bool
is_open os objects f = nat_eq f 0 || (any (opens_it f) os || any (object_names f) objects)

-- so a memory keeps what is open, around an object, or to be kept for other reasons, and the calls that are left: other frames are empty
abbrev pub with_open : {C : Type 0} → List ℕ → All C → All C
with_open pins c =
    with_kept (frames_left (is_open (owns c.tasks) (around pins c.shared.objects)) 0 c.shared.frames) (calls_left (is_served (owns c.tasks)) 0 c.shared.calls) c

-- then nothing else is named
abbrev pub NamedLaw : (C : Type 0) → Type 0
NamedLaw C =
    (pins : List ℕ) (c : All C) (f : ℕ) → Stands pins c → is_named (owns c.tasks) c.shared.objects f ≡ true → is_open (owns c.tasks) (around pins c.shared.objects) f ≡ true

-- and what is left is what is open, where nothing is kept for other reasons
abbrev pub OpenLaw : (C : Type 0) → Type 0
OpenLaw C = (c : All C) → Stands [] c → forgotten c ≡ with_open [] c

-- A memory that keeps no more than that at the end of each step shows what the definitions come to.
abbrev pub MemoryLaw : (C : Type 0) → Type 0
MemoryLaw C =
    (pins : List ℕ) (plan : Plan) (k : Controls C) (limits : Limits) (c d : All C) (m : Move) → Looks k → forgotten c ≡ forgotten d → Stands pins d → Fits pins plan k m.task d → IsOneOf m (moves_at plan k c) → (forgotten (step_with plan k limits c m) ≡ forgotten (with_open pins (step_with plan k limits d m))) × Stands pins (with_open pins (step_with plan k limits d m))

-- A frame that is innermost in a task is open nowhere else: when it is left, it is open no more.
abbrev pub InnermostLaw : (C : Type 0) → Type 0
InnermostLaw C =
    (pins : List ℕ) (c : All C) (n : ℕ) (o : Opened) (os : List Opened) → Stands pins c → (at (owns c.tasks) n).opened ≡ o ∷ os → (¬ IsFrame o.frame (bones os)) × ((m : ℕ) → ¬ (m ≡ n) → ¬ IsFrame o.frame (bones (at (owns c.tasks) m).opened))
