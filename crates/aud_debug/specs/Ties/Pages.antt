-- Lines that are added to a page.
use Rattle.std.specs.Prelude.{◌≡◌, ◌++◌, ◌+◌, ℕ, ℤ, List, [], ◌∷◌, length, Result, OnOk, if◌then◌else◌}
use Rattle.std.specs.Fmt.{decimal}
use Rattle.aud_typed.specs.Tree.{Named}
use Rattle.aud_meaning.specs.Listings.{is_hidden, values}
use Rattle.aud_debug.specs.declared.page.Page.{Page}
use Rattle.aud_debug.specs.Listed.{ended}

-- where the call answers Ok, the lines stand behind those that were there
abbrev pub AddsLines : {A E : Type 0} → Result A E → Page → Page → List (List ℕ) → Type 0
AddsLines result old new lines = OnOk result ((new.bytes.items ≡ old.bytes.items ++ ended lines) × (new.count ≡ old.count + length lines))

-- those of a variable with these cells, in a frame of this depth
abbrev pub variable_lines : ℕ → Named → List ℤ → List (List ℕ)
variable_lines depth v cells =
    if is_hidden v.shown then []
    else (decimal depth ++ 32 ∷ (v.name ++ 32 ∷ 61 ∷ values v.shown cells)) ∷ []
