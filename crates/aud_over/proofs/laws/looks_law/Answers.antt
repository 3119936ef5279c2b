use Rattle.aud_over.proofs.Asking.{statements_look}
use Rattle.aud_over.proofs.Coding.{code_looks}
use Rattle.aud_over.proofs.laws.looks_law.Goals as goal

pub returns-clause-statements : goal.returns-clause-statements
returns-clause-statements c = λ program. statements_look program

pub returns-clause-code : goal.returns-clause-code
returns-clause-code c = λ plan code. code_looks plan code
