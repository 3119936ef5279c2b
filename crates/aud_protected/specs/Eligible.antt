-- Entries of an object that are eligible for service.
use Rattle.std.specs.Prelude.{ℕ, List, [], ◌∷◌, Bool, false, Result, Ok, Err}
use Rattle.aud_text.specs.declared.raise.Raise.{Raise}
use Rattle.aud_meaning.specs.Parts.{Waiting}
use Rattle.aud_protected.specs.declared.barriers.EligibleEntries.{EligibleEntries}
use Rattle.aud_protected.specs.declared.barriers.EligibleEntries.TheVariants.{Are, Raises}

abbrev pub plain_eligible : EligibleEntries → Result (List ℕ) Raise
plain_eligible (Raises raise) = Err raise
plain_eligible (Are indexes) = Ok indexes.items

-- a barrier is asked only where a call is queued
abbrev pub asked : List Waiting → Result Bool Raise → Result Bool Raise
asked [] met = Ok false
asked (w ∷ ws) met = met
