-- A bench that went out of a hall.
use Rattle.std.specs.Prelude.{ℕ, Option, Some, None}
use Rattle.aud_bench.specs.Seen.{Seen as Bench}

-- a bench that is out, and the seat that sent it
pub record Parcel : Type 0 where
  pub seat : ℕ
  pub bench : Bench

-- the bench of a parcel, where there is one
abbrev pub bench_of : Option Parcel → Option Bench
bench_of None = None
bench_of (Some p) = Some p.bench
