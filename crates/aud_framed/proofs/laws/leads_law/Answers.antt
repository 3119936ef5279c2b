use Rattle.aud_framed.proofs.Stepping.Leading.{plain_ways}
use Rattle.aud_framed.proofs.laws.leads_law.Goals as goal

pub returns : goal.returns
returns c = record {
  leads = λ code. plain_ways code;
}
