-- What a check of a program in memory answers.
use Rattle.std.specs.Prelude.{◌≡◌, Result, Ok, Err}
use Rattle.aud_check.specs.declared.fault.CheckFault.{CheckFault}
use Rattle.aud_check.specs.declared.fault.CheckFault.TheVariants.{Memory, Wrong}
use Rattle.aud_fault.specs.declared.fault.Fault.{Fault}

-- the very answer of the definition; nothing is said where memory is refused
abbrev pub Gives : {X Y : Type 0} → (X → Y) → Result Y Fault → Result X CheckFault → Type 0
Gives plain answer (Ok x) = answer ≡ Ok (plain x)
Gives plain answer (Err (Wrong fault)) = answer ≡ Err fault
Gives plain answer (Err Memory) = Unit {0}
