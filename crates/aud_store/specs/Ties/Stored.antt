-- What is kept of the frames of a program, with those that are open of the task whose part lies there.
use Rattle.std.specs.Prelude.{◌≡◌, ◌-◌, ℕ, suc, ℤ, pos, List, [], ◌∷◌, ◌++◌, length, min, take, drop, Option, Some, None, Bool, false, if◌then◌else◌, slice_index_or}
use Rattle.aud_text.specs.declared.place.Pos.{Pos}
use Rattle.aud_typed.specs.declared.program.Exception.{Exception}
use Rattle.aud_meaning.specs.Configuration.{Frame, Back, Returning, Target, Opened, for_body, for_block, for_loop, for_procedure, for_operation, for_entry, for_accept}
use Rattle.aud_meaning.specs.Configuration as meaning
use Rattle.aud_meaning.specs.Effects.{innermost, is_inner, is_loop, assigned, sets_value}
use Rattle.aud_meaning.specs.Ties.Stack.{Stack, on_innermost, opens_after, returning}
use Rattle.aud_store.specs.declared.purpose.Purpose.{Purpose}
use Rattle.aud_store.specs.declared.purpose.Purpose.TheVariants.{Accept, Body, Block, Entry, Loop, Operation, Procedure}
use Rattle.aud_store.specs.declared.purpose.Returns.{Returns}
use Rattle.aud_store.specs.declared.display.Replaced.{Replaced}
use Rattle.aud_store.specs.declared.display.Replaced.TheVariants.{Among, Apart}
use Rattle.aud_store.specs.declared.stack.Open.{Open}
use Rattle.aud_store.specs.Ties.Display.{Display, seen, placed, put_back, set_apart, stands, stands_apart}
use Rattle.aud_store.specs.Ties.Frames.{with_frame}

-- all frames ever made, and those that are open
pub record Stored : Type 0 where
  pub frames : List Frame
  pub stack : Stack

-- what the end of a procedure or function does, by which these are copied back
abbrev pub returning_by : Returns → List Back → Returning
returning_by r backs = record { is_function = r.is_function; backs = backs; into = r.into; value = r.value }

-- its end copies these back
abbrev pub plain_purpose : Purpose → List Back → meaning.Purpose
plain_purpose Body backs = for_body
plain_purpose Block backs = for_block
plain_purpose Loop backs = for_loop
plain_purpose (Procedure level r) backs = for_procedure (returning_by r backs)
plain_purpose (Operation object r) backs = for_operation object (returning_by r backs)
plain_purpose (Entry object call served resumed) backs = for_entry object call served resumed
plain_purpose (Accept call) backs = for_accept call

-- how many it copies back
abbrev pub copies_of : Purpose → ℕ
copies_of (Procedure level r) = r.backs
copies_of (Operation object r) = r.backs
copies_of purpose = 0

-- of the frames that are seen, those that are seen from a frame that is opened for this, and how many they are
abbrev pub kept_by : Purpose → List ℕ → List ℕ
kept_by (Procedure level r) seen = take level seen
kept_by purpose seen = seen

abbrev pub kept_of : Purpose → ℕ → ℕ
kept_of (Procedure level r) n = min level n
kept_of purpose n = n

-- of copies of all calls, the last of which are the innermost frame's: those, and the others
abbrev pub own_backs : Purpose → List Back → List Back
own_backs purpose backs = drop (length backs - copies_of purpose) backs

abbrev pub outer_backs : Purpose → List Back → List Back
outer_backs purpose backs = take (length backs - copies_of purpose) backs

-- with the frames that were seen before it was opened, and its copies
abbrev pub plain_open : Open → List ℕ → List Back → Opened
plain_open o saved backs = record { frame = o.frame; region = o.region; elaborated = o.elaborated; handling = o.handling; saved = saved; at = o.at; purpose = plain_purpose o.purpose backs }

-- the first of them is the innermost one; behind each, those are seen again that were seen before it was opened
abbrev pub plain_opened : Display → List Open → List Back → List Opened
plain_opened display [] backs = []
plain_opened display (o ∷ os) backs =
    plain_open o (seen (put_back o.replaced display)) (own_backs o.purpose backs) ∷ plain_opened (put_back o.replaced display) os (outer_backs o.purpose backs)

-- it was opened behind what it sees of what was seen before, or behind frames of its own, and knows what its number stands in place of
abbrev pub IsPlacedBy : Replaced → ℕ → Purpose → Display → Display → Type 0
IsPlacedBy (Among number seen) frame p before display =
    (display ≡ placed (kept_of p before.count) frame before) × (Among number seen ≡ stands (kept_of p before.count) before)
IsPlacedBy (Apart base seen) frame p before display =
    (numbers : List ℕ) × ((display ≡ set_apart numbers frame before) × (Apart base seen ≡ stands_apart before))

abbrev pub IsPlaced : Open → Display → Display → Type 0
IsPlaced o before display = IsPlacedBy o.replaced o.frame o.purpose before display

-- so it is with each, innermost first; before any was opened, all numbers were those of frames that were seen
abbrev pub ArePlaced : Display → List Open → Type 0
ArePlaced display [] = (display.base ≡ 0) × (display.count ≡ length display.numbers)
ArePlaced display (o ∷ os) = IsPlaced o (put_back o.replaced display) display × ArePlaced (put_back o.replaced display) os

-- the innermost open frame
abbrev pub IsInnermost : Option Open → List Opened → Type 0
IsInnermost None os = os ≡ []
IsInnermost (Some o) os = (saved : List ℕ) × ((backs : List Back) × ((outer : List Opened) × (os ≡ plain_open o saved backs ∷ outer)))

-- what the innermost one copies back
abbrev pub purpose_backs : meaning.Purpose → List Back
purpose_backs for_body = []
purpose_backs for_block = []
purpose_backs for_loop = []
purpose_backs (for_procedure r) = r.backs
purpose_backs (for_operation n r) = r.backs
purpose_backs (for_entry n i s b) = []
purpose_backs (for_accept i) = []

abbrev pub innermost_backs : List Opened → List Back
innermost_backs [] = []
innermost_backs (o ∷ os) = purpose_backs o.purpose

-- it was opened within a body
abbrev pub IsInner : Purpose → Type 0
IsInner Block = Unit {0}
IsInner Loop = Unit {0}
IsInner purpose = ⊥

-- it is a loop's
abbrev pub is_in_loop : List Opened → Bool
is_in_loop [] = false
is_in_loop (o ∷ os) = is_loop o.purpose

abbrev pub with_handling : Exception → Stack → Stack
with_handling exception s = on_innermost (λ o. record o { handling = Some exception }) s

abbrev pub with_elaborated : ℕ → Stack → Stack
with_elaborated elaborated s = on_innermost (λ o. record o { elaborated = elaborated }) s

-- a frame with these cells is opened, seen after those of a display
abbrev pub entered_after : meaning.Purpose → ℕ → Pos → List ℤ → ℕ → List ℕ → Stored → Stored
entered_after purpose region at cells elaborated display s = record {
  frames = s.frames ++ cells ∷ [];
  stack = opens_after purpose (length s.frames) region at elaborated display s.stack;
}

abbrev pub entered : meaning.Purpose → ℕ → Pos → List ℤ → ℕ → Stored → Stored
entered purpose region at cells elaborated s = entered_after purpose region at cells elaborated s.stack.display s

-- that of a procedure of this level, whose first cells are its formals' values
abbrev pub called : ℕ → List Back → Option Target → ℕ → Pos → List ℤ → Stored → Stored
called level backs into region at values s =
    entered_after (for_procedure (returning backs into)) region at values (length values) (take level s.stack.display) s

-- one more name of the innermost frame, with these cells
abbrev pub declared : List ℤ → Stored → Stored
declared cells s = record {
  frames = with_frame (innermost s.stack.opened) (λ frame. frame ++ cells) s.frames;
  stack = on_innermost (λ o. record o { elaborated = suc o.elaborated }) s.stack;
}

-- a cell of the innermost frame
abbrev pub innermost_cell : ℕ → Stored → ℤ
innermost_cell index s = slice_index_or (slice_index_or s.frames (innermost s.stack.opened) []) index (pos 0)

abbrev pub stored : ℕ → ℕ → ℤ → Stored → Stored
stored frame index value s = record s { frames = assigned frame index value s.frames }

-- the calls whose accepts are under way
abbrev pub accepted_by : meaning.Purpose → List ℕ → List ℕ
accepted_by for_body rest = rest
accepted_by for_block rest = rest
accepted_by for_loop rest = rest
accepted_by (for_procedure r) rest = rest
accepted_by (for_operation n r) rest = rest
accepted_by (for_entry n i s b) rest = rest
accepted_by (for_accept i) rest = i ∷ rest

-- the call of an accept
abbrev pub accepted_for : Purpose → Option ℕ
accepted_for (Accept call) = Some call
accepted_for purpose = None

abbrev pub accepted_in : List Opened → List ℕ
accepted_in [] = []
accepted_in (o ∷ os) = accepted_by o.purpose (accepted_in os)

-- the call of an accept or an entry body
abbrev pub served_for : Purpose → Option ℕ
served_for (Entry object call served resumed) = Some call
served_for (Accept call) = Some call
served_for purpose = None

-- it is an entry body's, for another task's call
abbrev pub is_served_for : Purpose → Bool
is_served_for (Entry object call served resumed) = served
is_served_for purpose = false

-- a function's value waits for the end of its call
abbrev pub with_value : ℤ → Purpose → Purpose
with_value z (Procedure level r) = Procedure level (record r { value = Some z })
with_value z (Operation object r) = Operation object (record r { value = Some z })
with_value z purpose = purpose

-- in the innermost of these that was not opened within another execution
abbrev pub valued : ℤ → List Open → List Open
valued z [] = []
valued z (o ∷ os) = if is_inner (plain_purpose o.purpose []) then o ∷ valued z os else record o { purpose = with_value z o.purpose } ∷ os

abbrev pub with_function_value : ℤ → Stack → Stack
with_function_value z s = record s { opened = sets_value z s.opened }

-- the calls for which a frame is open
abbrev pub served_by : meaning.Purpose → List ℕ → List ℕ
served_by for_body rest = rest
served_by for_block rest = rest
served_by for_loop rest = rest
served_by (for_procedure r) rest = rest
served_by (for_operation n r) rest = rest
served_by (for_entry n i s b) rest = i ∷ rest
served_by (for_accept i) rest = i ∷ rest

abbrev pub served_in : List Opened → List ℕ
served_in [] = []
served_in (o ∷ os) = served_by o.purpose (served_in os)
