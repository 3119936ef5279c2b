use Rattle.aud_grammar.proofs.RoundTrip.{round_trip}
use Rattle.aud_grammar.proofs.laws.round_trip_law.Goals as goal

pub returns : goal.returns
returns c = round_trip
