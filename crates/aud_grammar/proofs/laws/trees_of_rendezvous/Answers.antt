use Rattle.aud_grammar.proofs.RendezvousRows.{definitions, delays, accepts, calls_in_select, selective_accepts}
use Rattle.aud_grammar.proofs.laws.trees_of_rendezvous.Goals as goal

pub returns : goal.returns
returns c = (definitions, delays, accepts, calls_in_select, selective_accepts)
