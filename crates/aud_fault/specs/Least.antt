-- The fault that is reported: the first in the text, and of several at one place the one with the least number.
use Rattle.std.specs.Prelude.{◌≡◌, ◌⊎◌, Bool, false, ◌&&◌, ◌||◌, nat_eq, nat_lt, List, [], ◌∷◌, Option, Some, None, if◌then◌else◌}
use Rattle.aud_text.specs.declared.place.Pos.{Pos}
use Rattle.aud_text.specs.Refusal.{number}
use Rattle.aud_fault.specs.declared.fault.Fault.{Fault}

-- a place before another in the text (RM 2.2: a text is a sequence of lines)
abbrev pub place_before : Pos → Pos → Bool
place_before p q = nat_lt p.line q.line || (nat_eq p.line q.line && nat_lt p.col q.col)

abbrev pub same_place : Pos → Pos → Bool
same_place p q = nat_eq p.line q.line && nat_eq p.col q.col

-- a fault that is reported rather than another
abbrev pub before : Fault → Fault → Bool
before f g = place_before f.at g.at || (same_place f.at g.at && nat_lt (number f.refusal) (number g.refusal))

abbrev pub earlier : Fault → Fault → Fault
earlier f g = if before g f then g else f

-- the first of a fault and others
abbrev pub least : Fault → List Fault → Fault
least f [] = f
least f (g ∷ gs) = least (earlier f g) gs

-- the first of the faults noted so far, once one more is noted
abbrev pub note : Option Fault → Fault → Option Fault
note None f = Some f
note (Some g) f = Some (earlier g f)

-- once some more are noted
abbrev pub noted : Option Fault → List Fault → Option Fault
noted o [] = o
noted o (f ∷ fs) = noted (note o f) fs

abbrev pub IsOneOf : Fault → List Fault → Type 0
IsOneOf f [] = ⊥
IsOneOf f (g ∷ gs) = (f ≡ g) ⊎ IsOneOf f gs

abbrev pub NoneBefore : Fault → List Fault → Type 0
NoneBefore f [] = Unit {0}
NoneBefore f (g ∷ gs) = (before g f ≡ false) × NoneBefore f gs

-- what is reported is one of the faults, and none of them comes before it
abbrev pub LeastIsFirst : Type 0
LeastIsFirst = (f : Fault) (fs : List Fault) → IsOneOf (least f fs) (f ∷ fs) × NoneBefore (least f fs) (f ∷ fs)
