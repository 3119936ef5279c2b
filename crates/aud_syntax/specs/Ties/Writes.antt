-- What a function that prints promises.
use Rattle.std.specs.Prelude.{◌≡◌, ℕ, List, ◌++◌, false}
use Rattle.aud_lex.specs.Why.Spaced.{Word, spaced}
use Rattle.aud_syntax.specs.declared.writing.Written.{Written}

-- unless memory is refused by now, it was not before, and these bytes are written behind what stood there
pub record Appends (before after : Written) (bytes : List ℕ) : Type 0 where
  pub kept : after.refused ≡ false → before.refused ≡ false
  pub items : after.refused ≡ false → after.text.items ≡ before.text.items ++ bytes

-- the same of these words
pub record Writes (before after : Written) (words : List Word) : Type 0 where
  pub appends : Appends before after (spaced words)
