use Rattle.aud_framed.proofs.Stepping.Barriers.{barrier_good}
use Rattle.aud_framed.proofs.laws.barrier_met_law.Goals as goal

pub returns : goal.returns
returns c = record {
  met = λ plan code table tasks barriers seen b at object id n x t sound fits levels ways w is unmade still may acts outside unserved its entry healthy conditional.
      barrier_good plan code table tasks barriers seen sound fits ways levels at object id n x t w is unmade still (record { acts = acts; outside = outside }) unserved its.0 its.1 may entry healthy conditional b;
}
