use Rattle.aud_framed.proofs.Stepping.Aborted.{aborted_completes}
use Rattle.aud_framed.proofs.laws.aborted_completes_law.Goals as goal

pub returns : goal.returns
returns c = record {
  completes = λ plan code table tasks barriers seen n x t sound fits ways w is alive ill free unbound.
      aborted_completes plan code table tasks barriers seen sound fits ways n x t w is alive ill free unbound;
}
