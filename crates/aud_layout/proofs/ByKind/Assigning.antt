-- An assignment: the target, the value, the value's range (RM 5.2).
use Rattle.std.proofs.Common.{[], ◌∷◌, false, refl, ◌∙◌}
use Rattle.aud_meaning.specs.Evaluation.{value_of, target_of}
use Rattle.aud_meaning.specs.Control as asked
use Rattle.aud_code.specs.Instruction.{Assign, no_operands}
use Rattle.aud_layout.specs.Instructions.{value_code}
use Rattle.aud_layout.specs.Asking.{AssignmentLaw}
use Rattle.aud_layout.proofs.Asking.Evals.{Ends, eval_reference, eval_value}
use Rattle.aud_layout.proofs.Asking.Statements.{at_end, asks_then}

pub assignment_law : AssignmentLaw
assignment_law at r e loops s =
    asks_then loops at s Assign (λ raise. refl) (target_of r s.sight) _ (λ a. asked.assigns a.target a.value) (λ t. Ends false s (value_code e) (record no_operands { targets = t ∷ [] })) _
    (eval_reference false s r (value_code e) no_operands) (λ t.
    let o = record no_operands { targets = t ∷ [] } in
    asks_then loops at s Assign (λ raise. refl) (value_of e s.sight) _ (λ a. asked.assigns a.target a.value) (λ z. Ends false s [] (record o { integers = z ∷ [] })) _
    (at_end false s (value_code e) o ∙ eval_value false s e [] o) (λ z. refl))
