-- A declaration: its initial value, of its subtype, in a declarative part (RM 3.3.1).
use Rattle.std.proofs.Common.{[], ◌∷◌, false, refl, ◌∙◌}
use Rattle.aud_meaning.specs.Evaluation.{value_of}
use Rattle.aud_meaning.specs.Control as asked
use Rattle.aud_code.specs.Instruction.{Declare, no_operands}
use Rattle.aud_layout.specs.Instructions.{value_code}
use Rattle.aud_layout.specs.Asking.{DeclarationLaw}
use Rattle.aud_layout.proofs.Asking.Evals.{Ends, eval_value}
use Rattle.aud_layout.proofs.Asking.Statements.{at_end, asks_in_part}

pub declaration_law : DeclarationLaw
declaration_law at up_to e loops s =
    asks_in_part loops at s (Declare up_to) (value_of e s.sight) (λ z. asked.declares up_to z) (λ z. Ends false s [] (record no_operands { integers = z ∷ [] })) _ (λ raise. refl)
    (at_end false s (value_code e) no_operands ∙ eval_value false s e [] no_operands) (λ z. refl)
