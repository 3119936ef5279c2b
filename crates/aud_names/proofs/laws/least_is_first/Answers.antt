use Rattle.aud_names.proofs.First.{one_of, none_before}
use Rattle.aud_names.proofs.laws.least_is_first.Goals as goal

pub returns : goal.returns
returns c = λ f fs. (one_of f fs, none_before f fs)
