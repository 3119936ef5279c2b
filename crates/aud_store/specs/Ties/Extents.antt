-- What is listed of open frames.
use Rattle.std.specs.Prelude.{ℕ}
use Rattle.aud_meaning.specs.Configuration.{Opened}
use Rattle.aud_store.specs.declared.stack.Open.{Open}

-- the number of a frame, the table of its variables, and how many of their names are elaborated
pub record Extent : Type 0 where
  pub frame : ℕ
  pub region : ℕ
  pub elaborated : ℕ

abbrev pub extent : Opened → Extent
extent o = record { frame = o.frame; region = o.region; elaborated = o.elaborated }

abbrev pub extent_in : Open → Extent
extent_in o = record { frame = o.frame; region = o.region; elaborated = o.elaborated }
