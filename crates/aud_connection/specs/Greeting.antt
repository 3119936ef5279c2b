-- What a connection is told before it asks: the seats of the desk.
use Rattle.std.specs.Prelude.{ℕ, suc, ◌+◌, List, [], ◌∷◌, ◌++◌, length, codes}
use Rattle.std.specs.Fmt.{decimal}
use Rattle.aud_text.specs.declared.limits.Limits.{Limits}
use Rattle.aud_lines.specs.Text.{line_end, head}

-- how many tasks a program may have there, and bytes its text
abbrev pub seat_line : ℕ → Limits → List ℕ
seat_line number limits = codes "seat " ++ decimal number ++ codes " tasks " ++ decimal limits.tasks ++ codes " source " ++ decimal limits.source ++ line_end

-- numbered from this number on
abbrev pub seat_lines : ℕ → List Limits → List ℕ
seat_lines number [] = []
seat_lines number (limits ∷ seats) = seat_line number limits ++ seat_lines (suc number) seats

-- the name and version of the protocol, and a line for each seat
abbrev pub greeting : List Limits → List ℕ
greeting seats = head (length seats + 1) ++ codes "aud 2" ++ line_end ++ seat_lines 1 seats
