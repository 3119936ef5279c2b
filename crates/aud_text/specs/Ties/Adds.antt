-- What is added at the end of a list in memory.
use Rattle.std.specs.Prelude.{◌≡◌, ℕ, List, ◌++◌, Result, OnOk, Vec}
use Rattle.std.specs.Global.{Global}

-- where the call answers Ok, the bytes stand behind those that were there
abbrev pub Adds : {A E : Type 0} → Result A E → Vec ℕ Global → Vec ℕ Global → List ℕ → Type 0
Adds result old new bytes = OnOk result (new.items ≡ old.items ++ bytes)
