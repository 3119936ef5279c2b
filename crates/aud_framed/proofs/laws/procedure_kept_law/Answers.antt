use Rattle.aud_framed.proofs.Stepping.Ends.{procedure_ended}
use Rattle.aud_framed.proofs.laws.procedure_kept_law.Goals as goal

pub returns : goal.returns
returns c = record {
  kept = λ plan code table tasks barriers seen limits alternative n x t o os r next sound fits ways kept is running none still opened procedure ending h.
      procedure_ended plan code table tasks barriers seen sound fits ways limits alternative n x t o os r next kept is running none still opened procedure ending h;
}
