-- How many instructions barriers cost that are evaluated one after the other.
use Rattle.std.proofs.Common.{◌≡◌, ◌<◌, ◌≤◌, ◌+◌, ℕ, zero, suc, List, [], ◌∷◌, length, drop, get_or, slice_index_or, sym, arith}
use Rattle.std.proofs.lemmas.List.{at_drop_more}
use Rattle.aud_typed.specs.Tree.{ObjectPlan}
use Rattle.aud_protected.specs.Counting.{costs, most_among}

-- those of one object
pub asked_few : (cost : ℕ → ℕ) (os : List ObjectPlan) (n : ℕ) → costs cost (slice_index_or os n (record { name = []; level = 0; components = []; entries = [] })).entries ≤ most_among cost os
asked_few cost [] n = omega arith
asked_few cost (o ∷ os) zero = omega arith
asked_few cost (o ∷ os) (suc n) = let h = asked_few cost os n in omega (arith, h)

-- the first of those that are left
pub cost_left : (cost : ℕ → ℕ) (es : List ℕ) (n d : ℕ) → n < length es → cost (get_or es n d) + costs cost (drop (n + 1) es) ≡ costs cost (drop n es)
cost_left cost es n d within = sym (at_drop_more (costs cost) es n d within)
