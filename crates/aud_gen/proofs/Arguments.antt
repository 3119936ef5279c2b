-- The code of the arguments of a call in memory.
use Rattle.std.proofs.Common.{◌≡◌, ℕ, ◌+◌, ◌<◌, List, [], ◌∷◌, ◌++◌, length, drop, get_or, Bool, ap, ◌∙◌, arith}
use Rattle.std.proofs.lemmas.List.{length-append}
use Rattle.aud_typed.specs.declared.program.Argument.{Argument}
use Rattle.aud_typed.specs.declared.program.Subtype.{Subtype}
use Rattle.aud_typed.specs.Ties.View.{plain_argument, plain_arguments}
use Rattle.aud_code.specs.Instruction.{Instruction, PassCopy}
use Rattle.aud_layout.specs.Instructions.{copied_code, argument_code, arguments_code}
use Rattle.aud_gen.proofs.Loops.{dropped}

pub copy_length : (is_in : Bool) (formal : Subtype) (number : ℕ) (found : List Instruction) → length (found ++ (copied_code is_in formal ++ PassCopy number ∷ [])) ≡ length found + length (copied_code is_in formal) + 1
copy_length is_in formal number found =
    omega (arith, length-append found (copied_code is_in formal ++ PassCopy number ∷ []), length-append (copied_code is_in formal) (PassCopy number ∷ []))

-- the code of those from one on
abbrev pub arguments_from : List Argument → ℕ → List Instruction
arguments_from xs n = arguments_code n (plain_arguments (drop n xs))

pub next_argument : (xs : List Argument) (n : ℕ) (x : Argument) → n < length xs → x ≡ get_or xs n x → arguments_from xs n ≡ argument_code n (plain_argument x) ++ arguments_from xs (n + 1)
next_argument xs n x h e = ap (λ ys. arguments_code n (plain_arguments ys)) (dropped xs n x h e)

pub next_argument_length : (xs : List Argument) (n : ℕ) (x : Argument) → n < length xs → x ≡ get_or xs n x → length (arguments_from xs n) ≡ length (argument_code n (plain_argument x)) + length (arguments_from xs (n + 1))
next_argument_length xs n x h e = ap length (next_argument xs n x h e) ∙ length-append (argument_code n (plain_argument x)) (arguments_from xs (n + 1))
