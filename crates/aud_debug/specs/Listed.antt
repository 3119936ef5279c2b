-- Listings.
use Rattle.std.specs.Prelude.{ℕ, zero, suc, List, [], ◌∷◌, ◌++◌, length, Option, Some, None, nat_lt, if◌then◌else◌}
use Rattle.aud_meaning.specs.Listings.{View}
use Rattle.aud_debug.specs.declared.lines.Lines.{Lines}
use Rattle.aud_debug.specs.declared.listing.Listing.{Listing}
use Rattle.aud_debug.specs.declared.listing.Listing.TheVariants.{Moves, Tasks, Queues, Variables, Objects, Waits}

-- each line followed by a line feed
abbrev pub ended : List (List ℕ) → List ℕ
ended [] = []
ended (line ∷ lines) = line ++ 10 ∷ ended lines

abbrev pub as_lines : List (List ℕ) → Lines
as_lines lines = record { count = length lines; text = ended lines }

-- the variables of the task of a number, which counts from 1; nothing where there is no such task
abbrev pub variables_of : ℕ → View → Option Lines
variables_of zero v = None
variables_of (suc n) v = if nat_lt n (length v.tasks) then Some (as_lines (v.vars n)) else None

-- what a listing tells
abbrev pub listed : Listing → View → Option Lines
listed Moves v = Some (as_lines v.moves)
listed Tasks v = Some (as_lines v.tasks)
listed Queues v = Some (as_lines v.queues)
listed (Variables n) v = variables_of n v
listed Objects v = Some (as_lines v.objects)
listed Waits v = Some (as_lines v.waits)
