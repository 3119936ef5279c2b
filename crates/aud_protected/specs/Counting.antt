-- How many instructions are executed for barriers, by how many each of them has.
use Rattle.std.specs.Prelude.{ℕ, ◌+◌, max, List, [], ◌∷◌}
use Rattle.aud_typed.specs.Tree.{Plan, ObjectPlan}

module _ (cost : ℕ → ℕ) where
  -- those of some entries, each evaluated once
  abbrev pub costs : List ℕ → ℕ
  costs [] = 0
  costs (entry ∷ entries) = cost entry + costs entries

  -- those of the objects of some declarations, of which one is serviced
  abbrev pub most_among : List ObjectPlan → ℕ
  most_among [] = 0
  most_among (o ∷ os) = max (costs o.entries) (most_among os)

  -- a servicing executes no more than these
  abbrev pub most_asked : Plan → ℕ
  most_asked plan = most_among plan.objects
