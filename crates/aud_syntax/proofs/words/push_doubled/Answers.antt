use Rattle.std.proofs.Common.{◌≡◌, ℕ, List, [], ◌∷◌, ◌++◌, ◌==◌, true, false, refl, arith}
use Rattle.std.specs.Prelude.{Bool, if◌then◌else◌}
use Rattle.aud_syntax.specs.Why.Printed.{doubled}
use Rattle.aud_syntax.proofs.Written.{next_appended, bytes_end}
use Rattle.aud_syntax.proofs.words.push_doubled.Goals as goal

one_doubled : (is_quote : Bool) (byte : ℕ) (rest : List ℕ) → (if is_quote then 34 ∷ 34 ∷ rest else byte ∷ rest) ≡ (if is_quote then 34 ∷ 34 ∷ [] else byte ∷ []) ++ rest
one_doubled true byte rest = refl
one_doubled false byte rest = refl

doubled_opens : (byte : ℕ) (bytes : List ℕ) → doubled (byte ∷ bytes) ≡ doubled (byte ∷ []) ++ doubled bytes
doubled_opens byte bytes = one_doubled (byte == 34) byte (doubled bytes)

pub loop-byte-init : goal.loop-byte-init
loop-byte-init c = record { rest = λ after h. h }

pub loop-byte-preserved : goal.loop-byte-preserved
loop-byte-preserved c = next_appended doubled doubled_opens c.args.characters.now c.loop-byte.byte-index (omega arith) c.loop-byte.invariant c.push_character.ensures

pub returns : goal.returns
returns c = bytes_end doubled refl c.args.characters.now c.loop-byte.byte-index c.loop-byte-test.false c.loop-byte.invariant
