use Rattle.std.proofs.Common.{ap}
use Rattle.aud_meaning.specs.Parts.{is_over}
use Rattle.aud_framed.proofs.Stepping.Expiring.{expired, withdrew}
use Rattle.aud_framed.proofs.laws.cancelled_law.Goals as goal

pub returns : goal.returns
returns c = record {
  expires = λ plan code table tasks barriers seen n x t sound fits ways w is waiting queued idle.
      expired plan code table tasks barriers seen sound fits ways n x t w is (ap is_over waiting) waiting queued idle;
  withdraws = λ plan code table tasks barriers seen object n x t sound fits ways w is alive from free idle.
      withdrew plan code table tasks barriers seen sound fits ways n x t w is alive object from free idle;
}
