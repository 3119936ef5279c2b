use Rattle.std.proofs.Common.{drop}
use Rattle.aud_names.proofs.Hiding.{IsSetAhead}
use Rattle.aud_names.proofs.hidden.set_of.Given as goal

abbrev pub invariant-loop-ident : goal.invariant-loop-ident
invariant-loop-ident l = IsSetAhead l.names.keys (drop l.ident-index l.identifiers) l.fn.identifiers
