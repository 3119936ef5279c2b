use Rattle.aud_grammar.proofs.RendezvousRows.{wrong_definitions, wrong_delays, wrong_accepts, wrong_selects}
use Rattle.aud_grammar.proofs.laws.faults_of_rendezvous.Goals as goal

pub returns : goal.returns
returns c = (wrong_definitions, wrong_delays, wrong_accepts, wrong_selects)
