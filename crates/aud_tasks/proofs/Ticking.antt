-- How many instructions of barriers a step executes.
use Rattle.std.proofs.Common.{◌≡◌, ◌≤◌, ◌+◌, ◌-◌, ◌^◌, min, ℕ, zero, suc, List, [], ◌∷◌, length, slice_index_or, ap, ◌∙◌, arith}
use Rattle.aud_typed.specs.Tree.{Plan}
use Rattle.aud_code.specs.Flat.{Flat}
use Rattle.aud_code.specs.Instruction.{Instruction}
use Rattle.aud_expr.specs.Size.{instructions_of_all}
use Rattle.aud_protected.specs.Counting.{most_asked}
use Rattle.aud_tasks.specs.Counting.{cost_in, most_of_barriers, most_ticks, Counts}

one_of_all : (bs : List (List Instruction)) (n : ℕ) → length (slice_index_or bs n []) ≤ instructions_of_all bs
one_of_all [] n = omega arith
one_of_all (b ∷ bs) zero = omega arith
one_of_all (b ∷ bs) (suc n) = let h = one_of_all bs n in omega (arith, h)

module _ (plan p : Plan) (code k : Flat) (program : p ≡ plan) (same : k ≡ code) where
  asked_so : most_asked (cost_in k) p ≡ most_asked (cost_in code) plan
  asked_so = ap (λ (f : Flat). most_asked (cost_in f) p) same ∙ ap (most_asked (cost_in code)) program

  -- of one servicing
  pub asked_once : (ticks now was : ℕ) → was ≡ 0 → ticks ≡ now → now ≤ was + most_asked (cost_in k) p → ticks ≤ most_of_barriers plan code
  asked_once ticks now was none told few = omega (arith, none, told, few, asked_so)

  -- of a call that arrives, and of a servicing
  pub called_once : (entry ticks now was : ℕ) → was ≡ 0 → ticks ≡ now → now ≤ was + cost_in k entry + most_asked (cost_in k) p → ticks ≤ most_of_barriers plan code
  called_once entry ticks now was none told few =
      let cost : cost_in k entry ≡ cost_in code entry = ap (λ (f : Flat). cost_in f entry) same in
      let one : cost_in code entry ≤ instructions_of_all code.barriers = one_of_all code.barriers entry in
      omega (arith, none, told, few, asked_so, cost, one)

pub no_more : (plan : Plan) (code : Flat) (ticks : ℕ) → ticks ≤ most_of_barriers plan code → ticks ≤ most_ticks plan code
no_more plan code ticks few = omega (arith, few)

-- where a step executes none of its own
pub barriers_alone : (own barriers ticks : ℕ) → own ≡ 0 → ticks ≤ barriers → Counts own barriers ticks
barriers_alone own barriers ticks none few = record { least = omega (arith, none); most = omega (arith, few) }

-- two counts are added
pub counts_sum : (a b sum : ℕ) → sum ≡ min (a + b) (2 ^ 64 - 1) → Counts (a + b) 0 sum
counts_sum a b sum is = record { least = omega (arith, is); most = omega (arith, is) }
