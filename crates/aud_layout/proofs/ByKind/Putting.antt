-- A put statement: its text (RM A.10.7).
use Rattle.std.proofs.Common.{[], false, refl, ◌∙◌}
use Rattle.aud_meaning.specs.Evaluation.{text_of}
use Rattle.aud_meaning.specs.Control as asked
use Rattle.aud_code.specs.Instruction.{Put, no_operands}
use Rattle.aud_layout.specs.Instructions.{text_code}
use Rattle.aud_layout.specs.Asking.{PutLaw}
use Rattle.aud_layout.proofs.Asking.Evals.{Ends, eval_text}
use Rattle.aud_layout.proofs.Asking.Statements.{at_end, asks_last}

pub put_law : PutLaw
put_law at t loops s =
    asks_last loops at s Put (λ raise. refl) (text_of t s.sight) (λ text. asked.puts text) (λ text. Ends false s [] (record no_operands { text = text })) _
    (at_end false s (text_code t) no_operands ∙ eval_text false s t [] no_operands) (λ text. refl)
