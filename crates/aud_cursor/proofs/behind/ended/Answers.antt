use Rattle.std.proofs.Common.{refl, rules}
use Rattle.std.proofs.lemmas.Result.{err_from_is_err_and}
use Rattle.aud_cursor.proofs.behind.ended.Goals as goal

pub returns-in_err-rest : goal.returns-in_err-rest
returns-in_err-rest g c = let p = err_from_is_err_and c.from_residual.result c.from_residual.ensures.1 in rw (p.1, p.2) (record { reads = c.in_err-rest.ensures.reads; shorter = tt })

pub returns : goal.returns
returns g c = record { reads = (refl, c.in_ok-rest.ensures.reads); shorter = search rules }
