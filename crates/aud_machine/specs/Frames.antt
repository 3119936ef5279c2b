-- The frames that a machine's tasks hold.
use Rattle.std.specs.Prelude.{ℕ, List}
use Rattle.aud_typed.specs.Tree.{Plan}
use Rattle.aud_code.specs.Flat.{Flat}
use Rattle.aud_code.specs.Seen.{IsSeen}
use Rattle.aud_code.specs.Sound.{Counts}
use Rattle.aud_framed.specs.Framed.{HasLevels, IsFramed}
use Rattle.aud_framed.specs.Runs.{AllMeet, Comes}
use Rattle.aud_machine.specs.Shown.{Shown, program_in}

-- of code that has a table of frames: how many are open at each place, at the levels of the plan
abbrev pub ByTable : Plan → Flat → (List ℕ → Type 0) → Type 0
ByTable plan code holds =
    (table : List Counts) × (tasks : List ℕ) × (barriers : List ℕ) × (seen : List ℕ) × IsSeen code table tasks barriers seen × HasLevels plan code tasks seen × holds seen

abbrev pub HasTable : Plan → Flat → Type 0
HasTable plan code = ByTable plan code (λ seen. Unit {0})

-- the same is left of it as of what its code comes to, with its limits
abbrev pub ComesTo : Shown → Type 0
ComesTo m = Comes (program_in m).plan m.code m.program.name m.limits m.all

-- Whatever its code comes to, what is asked then meets what code alone doesn't say.
abbrev pub Meets : Shown → Type 0
Meets m = AllMeet (program_in m).plan m.code m.program.name m.limits

-- each task under way holds the frames that are open where it stands, and no others
abbrev pub HoldsFrames : Shown → Type 0
HoldsFrames m = ByTable (program_in m).plan m.code (λ seen. IsFramed (program_in m).plan m.code seen m.all)
