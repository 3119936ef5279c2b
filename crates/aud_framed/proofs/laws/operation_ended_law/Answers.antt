use Rattle.aud_framed.proofs.Stepping.Finished.{ended_operation, left_operation}
use Rattle.aud_framed.proofs.laws.operation_ended_law.Goals as goal

pub returns : goal.returns
returns c = record {
  ended = λ plan code table tasks barriers seen limits alternative n x t o os object r next sound fits ways w is running none still unserving unmade opened operation ending.
      ended_operation plan code table tasks barriers seen sound fits ways limits alternative n x t o os object r next w is running none still unserving unmade opened operation ending;
  left = λ plan code table tasks barriers seen limits alternative n x t o os object r p sound fits ways w is running pending still unserving unmade inner operation.
      left_operation plan code table tasks barriers seen sound fits ways limits alternative n x t o os object r p w is running pending still unserving unmade inner operation;
}
