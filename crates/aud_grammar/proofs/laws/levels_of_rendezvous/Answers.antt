use Rattle.aud_grammar.proofs.RendezvousRows.{levels_of_rendezvous}
use Rattle.aud_grammar.proofs.laws.levels_of_rendezvous.Goals as goal

pub returns : goal.returns
returns c = levels_of_rendezvous
