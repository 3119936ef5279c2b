-- The plans of procedures in memory.
use Rattle.std.proofs.Common.{◌≡◌, ℕ, zero, suc, ◌<◌, List, [], ◌∷◌, length, get_or, ap, sym, arith}
use Rattle.aud_typed.specs.declared.program.Unit as declared
use Rattle.aud_typed.specs.Tree.{unit_plan}
use Rattle.aud_typed.specs.Ties.View.{plain_unit}
use Rattle.aud_sequential.specs.Shown.{plans_of, unit_in}

pub unit_found : (us : List declared.Unit) (n : ℕ) (u : declared.Unit) → n < length us → u ≡ get_or us n u → unit_in (plans_of us) n ≡ unit_plan (plain_unit u)
unit_found [] n u within is = absurd (omega (arith, within))
unit_found (x ∷ us) zero u within is = ap (λ y. unit_plan (plain_unit y)) (sym is)
unit_found (x ∷ us) (suc n) u within is = unit_found us n u (omega (arith, within)) is
