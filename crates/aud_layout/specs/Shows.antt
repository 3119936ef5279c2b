-- How a place in code, with the places of callers, shows the items that are left to do.
use Rattle.std.specs.Prelude.{◌≡◌, ◌⊎◌, ℕ, suc, ◌+◌, List, [], ◌∷◌, ◌++◌, length, drop, Option, None}
use Rattle.aud_text.specs.declared.place.Pos.{Pos}
use Rattle.aud_typed.specs.Tree.{Statement, sequence, plain_loop, for_loop, Handlers, no_handlers, Program}
use Rattle.aud_meaning.specs.declared.state.Construct.{Construct}
use Rattle.aud_meaning.specs.declared.state.Construct.TheVariants as construct
use Rattle.aud_meaning.specs.Configuration.{Item, Do, InLoop, InFor, Begin, Ends, Leaving}
use Rattle.aud_meaning.specs.Items.{body_of}
use Rattle.aud_code.specs.Places.{Way, Spot}
use Rattle.aud_layout.specs.Layout.{Line, Around, in_loop, in_for, in_call, around_out, ways_count, main_size, stub_line, stubs, stub_ways, end_line, guard_line, statement_code, handlers_code, main_code, unit_code, Code, no_line, line_at, start_of}

-- these lines stand in the code from a place on
pub record HasAt (lines : List Line) (place : ℕ) (part : List Line) : Type 0 where
  pub rest : List Line
  pub is : drop place lines ≡ part ++ rest

-- each body stands where it begins
abbrev pub UnitsAt : Program → Code → Type 0
UnitsAt program code = (n : ℕ) → HasAt code.lines (start_of code n) (unit_code (body_of program n) (start_of code n))

-- the statement is a step
abbrev pub IsStep : Statement → Type 0
IsStep (sequence a b) = ⊥
IsStep (plain_loop s) = ⊥
IsStep s = Unit {0}

-- what comes next is a step
abbrev pub IsSettled : List Item → Type 0
IsSettled [] = Unit {0}
IsSettled (Do s ∷ rest) = IsStep s
IsSettled (InLoop s ∷ rest) = ⊥
IsSettled (InFor s ∷ rest) = Unit {0}
IsSettled (Begin c s h end ∷ rest) = ⊥
IsSettled (Ends c h end ∷ rest) = Unit {0}
IsSettled (Leaving m end ∷ rest) = Unit {0}

abbrev pub IsFor : Statement → Type 0
IsFor (for_loop f a b s) = Unit {0}
IsFor s = ⊥

-- where the exceptions go of what a construct guards, whose end is at the place: to the line before its handlers, or to its end
abbrev pub HandlersAt : Code → Around → ℕ → Pos → Handlers → Type 0
HandlersAt code around place end h =
    ((h ≡ no_handlers) × (around.out ≡ place))
    ⊎ HasAt code.lines around.out (guard_line h end (suc around.out) place (ways_count around) around.within ∷ handlers_code h (suc around.out) place (around_out place around))

-- the caller's items stand at the place of the statement that entered the body; a task's outermost body has no caller
abbrev pub Callers : (Around → ℕ → List ℕ → Type 0) → List ℕ → List Item → Type 0
Callers stand [] rest = rest ≡ []
Callers stand (r ∷ rs) rest = (outer : Around) × stand outer r rs × IsSettled rest

-- the end of a construct is at the place, and what is left to do behind it stands where it leads
abbrev pub EndsAt : Construct → (Around → ℕ → List ℕ → Type 0) → Code → Pos → List Way → Way → Option ℕ → ℕ → List ℕ → List Item → Type 0
EndsAt construct.Block stand code end exits back within place returns rest =
    (next : ℕ) × (outer : Around) × (exits ≡ stub_ways outer.exits (suc place)) × (back ≡ record { to = suc place + length outer.exits; loops = 0 })
    × HasAt code.lines place (end_line construct.Block end next outer.out within ∷ stubs (outer.exits ++ outer.back ∷ []) end within (suc place)) × stand outer next returns
EndsAt construct.Accept stand code end exits back within place returns rest =
    (next : ℕ) × (outer : Around) × (exits ≡ []) × (back ≡ record { to = place; loops = 0 })
    × HasAt code.lines place (end_line construct.Accept end next outer.out within ∷ []) × stand outer next returns
EndsAt construct.Unit stand code end exits back within place returns rest =
    (exits ≡ []) × (back ≡ record { to = place; loops = 0 }) × HasAt code.lines place (end_line construct.Unit end 0 place within ∷ []) × Callers stand returns rest

-- The code of the items follows at a place, within what surrounds it; so does that of the callers' items, at the places of the
-- statements that entered the bodies.
abbrev pub Stands : Code → Around → ℕ → List ℕ → List Item → Type 0
Stands code around place returns [] = (line_at code place ≡ no_line place) × (returns ≡ []) × (around ≡ in_call None place)
Stands code around place returns (Do s ∷ rest) = (next : ℕ) × HasAt code.lines place (statement_code s place next around) × Stands code around next returns rest
Stands code around place returns (InLoop s ∷ rest) =
    (next : ℕ) × (outer : Around) × (around ≡ in_loop next outer) × HasAt code.lines place (statement_code s place next outer) × Stands code outer next returns rest
Stands code around place returns (InFor s ∷ rest) =
    (next : ℕ) × (outer : Around) × (at : ℕ) × (place ≡ suc at) × (around ≡ in_for at next outer) × IsFor s × HasAt code.lines at (statement_code s at next outer) × Stands code outer next returns rest
Stands code around place returns (Begin c s h end ∷ rest) =
    (next : ℕ) × (out : ℕ) × (around.out ≡ place + main_size s h (ways_count around)) × HasAt code.lines place (main_code c s h end place next out around)
    × EndsAt c (λ a p rs. Stands code a p rs rest) code end around.exits around.back around.within around.out returns rest
Stands code around place returns (Ends c h end ∷ rest) =
    HandlersAt code around place end h × EndsAt c (λ a p rs. Stands code a p rs rest) code end around.exits around.back around.within place returns rest
Stands code around place returns (Leaving m end ∷ rest) =
    (to : ℕ) × (outer : Around) × (around ≡ in_call around.within place) × HasAt code.lines place (stub_line m to end around.within place ∷ []) × Stands code outer to returns rest

-- a place shows what is left to do: the next item is a step and stands there
pub record ShowsControl (code : Code) (spot : Spot) (items : List Item) : Type 0 where
  pub around : Around
  pub stands : Stands code around spot.place spot.returns items
  pub settled : IsSettled items
