-- A step executes at most twice the code's instructions, where no object has an entry twice.
use Rattle.std.proofs.Common.{◌≡◌, ◌≤◌, ◌+◌, ◌*◌, ℕ, zero, suc, List, [], ◌∷◌, length, slice_index_or, refl, ap, arith}
use Rattle.std.proofs.lemmas.Bool.{eqb-false}
use Rattle.aud_typed.specs.Tree.{ObjectPlan, Plan}
use Rattle.aud_typed.specs.Why.Scoped.{AreDistinct, HaveDistinctEntries, IsNot}
use Rattle.aud_code.specs.Instruction.{Instruction}
use Rattle.aud_code.specs.Flat.{Flat}
use Rattle.aud_expr.specs.Size.{instructions_of_all, size}
use Rattle.aud_tasks.specs.Counting.{costs, most_among, most_ticks}

-- how many instructions the barrier of a number has
abbrev cost_of : List (List Instruction) → ℕ → ℕ
cost_of bs n = length (slice_index_or bs n [])

-- without those of a number
abbrev emptied : ℕ → List (List Instruction) → List (List Instruction)
emptied n [] = []
emptied zero (b ∷ bs) = [] ∷ bs
emptied (suc n) (b ∷ bs) = b ∷ emptied n bs

apart : (bs : List (List Instruction)) (n : ℕ) → instructions_of_all bs ≡ cost_of bs n + instructions_of_all (emptied n bs)
apart [] n = omega arith
apart (b ∷ bs) zero = omega arith
apart (b ∷ bs) (suc n) = let h = apart bs n in omega (arith, h)

kept : (bs : List (List Instruction)) (n m : ℕ) → ¬ (n ≡ m) → cost_of (emptied n bs) m ≡ cost_of bs m
kept [] n m other = refl
kept (b ∷ bs) zero zero other = absurd (other refl)
kept (b ∷ bs) zero (suc m) other = refl
kept (b ∷ bs) (suc n) zero other = refl
kept (b ∷ bs) (suc n) (suc m) other = kept bs n m (λ e. other (ap suc e))

all_kept : (bs : List (List Instruction)) (n : ℕ) (ns : List ℕ) → IsNot n ns → costs (cost_of (emptied n bs)) ns ≡ costs (cost_of bs) ns
all_kept bs n [] others = refl
all_kept bs n (m ∷ ns) others =
    let one = kept bs n m (eqb-false n m others.0) in
    let rest = all_kept bs n ns others.1 in
    omega (arith, one, rest)

of_entries : (ns : List ℕ) (bs : List (List Instruction)) → AreDistinct ns → costs (cost_of bs) ns ≤ instructions_of_all bs
of_entries [] bs distinct = omega arith
of_entries (n ∷ ns) bs distinct =
    let rest = of_entries ns (emptied n bs) distinct.1 in
    let same = all_kept bs n ns distinct.0 in
    let all = apart bs n in
    omega (arith, rest, same, all)

of_objects : (os : List ObjectPlan) (bs : List (List Instruction)) → HaveDistinctEntries os → most_among (cost_of bs) os ≤ instructions_of_all bs
of_objects [] bs distinct = omega arith
of_objects (o ∷ os) bs distinct =
    let one = of_entries o.entries bs distinct.0 in
    let rest = of_objects os bs distinct.1 in
    omega (arith, one, rest)

pub at_most_twice : (plan : Plan) (code : Flat) → HaveDistinctEntries plan.objects → most_ticks plan code ≤ 2 * size code
at_most_twice plan code distinct = let asked = of_objects plan.objects code.barriers distinct in omega (arith, asked)

times : (k m n : ℕ) → m ≤ n → k * m ≤ k * n
times zero m n h = omega arith
times (suc k) m n h = let rest = times k m n h in omega (arith, rest, h)

pub each_at_most_twice : (plan : Plan) (code : Flat) (steps ticks : ℕ) → HaveDistinctEntries plan.objects → ticks ≤ steps * most_ticks plan code → ticks ≤ steps * (2 * size code)
each_at_most_twice plan code steps ticks distinct few =
    let more = times steps (most_ticks plan code) (2 * size code) (at_most_twice plan code distinct) in
    omega (arith, few, more)
