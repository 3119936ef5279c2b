use Rattle.std.proofs.Common.{None, refl, arith}
use Rattle.aud_bench.specs.Alone.{alone}
use Rattle.aud_bench.proofs.session.Session.new.Goals as goal

pub returns-clause-asked : goal.returns-clause-asked
unfolding alone
returns-clause-asked c = record { loaded = None; is_loaded = tt; few = omega arith; time = λ going. omega arith; goes_on = λ more. refl }
