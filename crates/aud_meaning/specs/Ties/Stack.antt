-- The open frames of a task, as it has them by itself.
use Rattle.std.specs.Prelude.{ℕ, zero, suc, List, [], ◌∷◌, ◌++◌, Option, None, false, if◌then◌else◌, slice_index_or}
use Rattle.aud_text.specs.declared.place.Pos.{Pos}
use Rattle.aud_meaning.specs.Configuration.{Frame, Target, Back, Returning, Purpose, Opened}
use Rattle.aud_meaning.specs.Effects.{changed_first, is_loop, CopiedBack, copied_back}

-- the numbers of the frames that it sees, outermost first, and its open frames, innermost first
pub record Stack : Type 0 where
  pub display : List ℕ
  pub opened : List Opened

-- Frames that are opened and left.

abbrev pub closed_by : List Opened → Stack → Stack
closed_by [] s = s
closed_by (o ∷ os) s = record { display = o.saved; opened = os }

-- the innermost one is left
abbrev pub closed : Stack → Stack
closed s = closed_by s.opened s

-- so many of them
abbrev pub closed_times : ℕ → Stack → Stack
closed_times zero s = s
closed_times (suc n) s = closed_times n (closed s)

abbrev pub out_of_loops_by : List Opened → Stack → Stack
out_of_loops_by [] s = s
out_of_loops_by (o ∷ os) s = if is_loop o.purpose then out_of_loops_by os (record { display = o.saved; opened = os }) else s

-- those of the loops within the innermost construct
abbrev pub out_of_loops : Stack → Stack
out_of_loops s = out_of_loops_by s.opened s

-- a frame of this number is opened, in which so many names are elaborated, seen after those of a display
abbrev pub opens_after : Purpose → ℕ → ℕ → Pos → ℕ → List ℕ → Stack → Stack
opens_after purpose frame region at elaborated display s = record {
  display = display ++ frame ∷ [];
  opened = record { frame = frame; region = region; elaborated = elaborated; handling = None; saved = s.display; at = at; purpose = purpose } ∷ s.opened;
}

-- after all that are seen
abbrev pub opens : Purpose → ℕ → ℕ → Pos → ℕ → Stack → Stack
opens purpose frame region at elaborated s = opens_after purpose frame region at elaborated s.display s

-- what the end of a procedure does
abbrev pub returning : List Back → Option Target → Returning
returning backs into = record { is_function = false; backs = backs; into = into; value = None }

-- formals of this frame are copied back (RM 6.4.1(17))
abbrev pub given_back : List Back → ℕ → List Frame → CopiedBack
given_back backs frame frames = copied_back (slice_index_or frames frame []) backs frames

-- the innermost one is changed
abbrev pub on_innermost : (Opened → Opened) → Stack → Stack
on_innermost f s = record s { opened = changed_first f s.opened }
