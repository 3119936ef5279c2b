use Rattle.aud_framed.proofs.Stepping.Entering.{operation_begun}
use Rattle.aud_framed.proofs.laws.operation_begun_law.Goals as goal

pub returns : goal.returns
returns c = record {
  begun = λ plan code table tasks barriers seen at object unit p into v n x t sound fits levels ways w is running none still unserving unmade line there level free.
      operation_begun plan code table tasks barriers seen sound fits ways levels at object unit p into v n x t w is running none still unserving unmade line there level free;
}
