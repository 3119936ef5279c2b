use Rattle.aud_grammar.proofs.Answered.{one_parser}
use Rattle.aud_grammar.proofs.laws.one_parser_law.Goals as goal

pub returns : goal.returns
returns c = one_parser
