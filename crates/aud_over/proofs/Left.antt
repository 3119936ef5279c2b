-- Programs of which the same is left: moves, state, steps and runs.
use Rattle.std.proofs.Common.{◌≡◌, ℕ, zero, suc, ◌%◌, List, [], ◌∷◌, length, slice_get, slice_index_or, refl, sym, ap, ◌∙◌, subst, inl, inr}
use Rattle.std.proofs.Math.Path.{fun_ext}
use Rattle.aud_text.specs.declared.limits.Limits.{Limits}
use Rattle.aud_typed.specs.Tree.{Plan}
use Rattle.aud_meaning.specs.Configuration.{All}
use Rattle.aud_meaning.specs.Control.{Controls}
use Rattle.aud_meaning.specs.declared.state.Move.{Move}
use Rattle.aud_meaning.specs.Run.{moves_at, state_at, seen, step_with, take_by, take_one, run_by, run_with}
use Rattle.aud_over.specs.Over.{forgotten}
use Rattle.aud_over.specs.Looks.{Looks}
use Rattle.aud_meaning.specs.Listings.{view_at, vars, queues, tasks_view, moves_view}
use Rattle.aud_meaning.specs.Listings.Objects.{objects_view}
use Rattle.aud_meaning.specs.Listings.Waits.{waits_view}
use Rattle.aud_over.specs.Law.{IsOneOf}
use Rattle.aud_over.proofs.Beside.{beside}
use Rattle.aud_over.proofs.Forgetting.{kept_in, forgotten_may, left_same}
use Rattle.aud_over.proofs.Looking.{moves_at_same, state_at_same}
use Rattle.aud_over.proofs.Listing.{vars_same, queues_same, tasks_at_same, moves_listed_same}
use Rattle.aud_over.proofs.Watching.{objects_view_same, waits_at_same}
use Rattle.aud_over.proofs.Runs.{MayStep, may_step, step_chosen, choosing, step_beside}

pub again : {C : Type 0} (c : All C) → forgotten (forgotten c) ≡ forgotten c
again c = sym (left_same (kept_in c) c (forgotten c) (beside (kept_in c) c (forgotten c).shared.frames (forgotten c).shared.calls (forgotten_may c)))

module _ {C : Type 0} (plan : Plan) (k : Controls C) (through : Looks k) where
  pub moves_left : (c d : All C) → forgotten c ≡ forgotten d → moves_at plan k c ≡ moves_at plan k d
  moves_left c d h = of c ∙ ap (moves_at plan k) h ∙ sym (of d)
    where
      of : (x : All C) → moves_at plan k x ≡ moves_at plan k (forgotten x)
      of x = moves_at_same (kept_in x) plan k through x (forgotten x).shared.frames (forgotten x).shared.calls (forgotten_may x)

  pub state_left : (c d : All C) → forgotten c ≡ forgotten d → state_at plan k c ≡ state_at plan k d
  state_left c d h = of c ∙ ap (state_at plan k) h ∙ sym (of d)
    where
      of : (x : All C) → state_at plan k x ≡ state_at plan k (forgotten x)
      of x = state_at_same (kept_in x) plan k through x (forgotten x).shared.frames (forgotten x).shared.calls (forgotten_may x)

  module _ (limits : Limits) where
    -- where the task of the move may step
    abbrev Steps : Move → All C → Type 0
    Steps m c = MayStep plan k.barrier (slice_get (seen plan k c).tasks m.task) m (seen plan k c)

    step_by : (c d : All C) (m : Move) → forgotten c ≡ forgotten d → Steps m c → Steps m d → forgotten (step_with plan k limits c m) ≡ forgotten (step_with plan k limits d m)
    step_by c d m h i j = of c i ∙ ap (λ x. forgotten (step_with plan k limits x m)) h ∙ sym (of d j)
      where
        of : (x : All C) → Steps m x → forgotten (step_with plan k limits x m) ≡ forgotten (step_with plan k limits (forgotten x) m)
        of x s =
            let fs = (forgotten x).shared.frames in
            let cs = (forgotten x).shared.calls in
            left_same (kept_in x) (step_with plan k limits x m) (step_with plan k limits (forgotten x) m) (step_beside (kept_in x) plan k through limits m x fs cs (forgotten_may x) s)

    steps_of : (c : All C) (m : Move) → IsOneOf m (moves_at plan k c) → Steps m c
    steps_of c m i = may_step plan k.barrier m (seen plan k c) i

    pub step_left : (c d : All C) (m : Move) → forgotten c ≡ forgotten d → IsOneOf m (moves_at plan k c) → forgotten (step_with plan k limits c m) ≡ forgotten (step_with plan k limits d m)
    step_left c d m h i = step_by c d m h (steps_of c m i) (steps_of d m (subst (λ ms. IsOneOf m ms) (moves_left c d h) i))

    -- Runs.

    abbrev AllOf : List Move → All C → Type 0
    AllOf ms c = (m : Move) → IsOneOf m ms → IsOneOf m (moves_at plan k c)

    picked : (ms : List Move) (i : ℕ) (first : Move) (c : All C) → IsOneOf first (moves_at plan k c) → AllOf ms c → IsOneOf (slice_index_or ms i first) (moves_at plan k c)
    picked [] i first c f all = f
    picked (m ∷ ms) zero first c f all = all m (inl refl)
    picked (m ∷ ms) (suc i) first c f all = picked ms i first c f (λ x j. all x (inr j))

    taken_by : (first : Move) (ms : List Move) (choices : List ℕ) (c d : All C) → forgotten c ≡ forgotten d → IsOneOf first (moves_at plan k c) → AllOf ms c → forgotten (take_by plan k limits first ms choices c) ≡ forgotten (take_by plan k limits first ms choices d)
    taken_by first ms [] c d h f all = step_left c d first h f
    taken_by first ms (x ∷ choices) c d h f all =
        let m = slice_index_or ms (x % length ms) first in
        let i : IsOneOf m (moves_at plan k c) = picked ms (x % length ms) first c f all in
        let j : IsOneOf m (moves_at plan k d) = subst (λ ns. IsOneOf m ns) (moves_left c d h) i in
        step_by (choosing plan k.barrier choices c) (choosing plan k.barrier choices d) m (ap (λ (y : All C). choosing plan k.barrier choices y) h) (chosen m choices c (steps_of c m i)) (chosen m choices d (steps_of d m j))
      where
        chosen : (m : Move) (cs : List ℕ) (y : All C) → Steps m y → Steps m (choosing plan k.barrier cs y)
        chosen m cs y s = step_chosen plan k.barrier (slice_get (seen plan k y).tasks m.task) m cs (seen plan k y) s

    taken : (m : Move) (ms : List Move) (c d : All C) → forgotten c ≡ forgotten d → AllOf (m ∷ ms) c → forgotten (take_one plan k limits m ms c) ≡ forgotten (take_one plan k limits m ms d)
    taken m [] c d h all = step_left c d m h (all m (inl refl))
    taken m (n ∷ ms) c d h all =
        taken_by m (m ∷ n ∷ ms) c.choices c d h (all m (inl refl)) all
        ∙ ap (λ cs. forgotten (take_by plan k limits m (m ∷ n ∷ ms) cs d)) (ap (λ (y : All C). y.choices) h)

    ran_by : (go : All C → All C) (ms : List Move) (c d : All C) → forgotten c ≡ forgotten d → AllOf ms c → ((x y : All C) → forgotten x ≡ forgotten y → forgotten (go x) ≡ forgotten (go y)) → forgotten (run_by plan k limits go ms c) ≡ forgotten (run_by plan k limits go ms d)
    ran_by go [] c d h all on = h
    ran_by go (m ∷ ms) c d h all on = on (take_one plan k limits m ms c) (take_one plan k limits m ms d) (taken m ms c d h all)

    pub run_left : (n : ℕ) (c d : All C) → forgotten c ≡ forgotten d → forgotten (run_with plan k limits n c) ≡ forgotten (run_with plan k limits n d)
    run_left zero c d h = h
    run_left (suc n) c d h =
        ran_by (run_with plan k limits n) (moves_at plan k c) c d h (λ m i. i) (run_left n)
        ∙ ap (λ ms. forgotten (run_by plan k limits (run_with plan k limits n) ms d)) (moves_left c d h)

  -- Listings.

  pub vars_left : (n : ℕ) (c d : All C) → forgotten c ≡ forgotten d → vars plan n c ≡ vars plan n d
  vars_left n c d h = of c ∙ ap (vars plan n) h ∙ sym (of d)
    where
      of : (x : All C) → vars plan n x ≡ vars plan n (forgotten x)
      of x = vars_same (kept_in x) plan n x (forgotten x).shared.frames (forgotten x).shared.calls (forgotten_may x)

  pub queues_left : (c d : All C) → forgotten c ≡ forgotten d → queues plan c ≡ queues plan d
  queues_left c d h = of c ∙ ap (queues plan) h ∙ sym (of d)
    where
      of : (x : All C) → queues plan x ≡ queues plan (forgotten x)
      of x = queues_same (kept_in x) plan x (forgotten x).shared.frames (forgotten x).shared.calls (forgotten_may x)

  pub tasks_left : (c d : All C) → forgotten c ≡ forgotten d → tasks_view plan k.barrier (seen plan k c) ≡ tasks_view plan k.barrier (seen plan k d)
  tasks_left c d h = of c ∙ ap (λ x. tasks_view plan k.barrier (seen plan k x)) h ∙ sym (of d)
    where
      of : (x : All C) → tasks_view plan k.barrier (seen plan k x) ≡ tasks_view plan k.barrier (seen plan k (forgotten x))
      of x = tasks_at_same (kept_in x) plan k through x (forgotten x).shared.frames (forgotten x).shared.calls (forgotten_may x)

  pub moves_listed_left : (c d : All C) → forgotten c ≡ forgotten d → moves_view plan k.barrier (seen plan k c) ≡ moves_view plan k.barrier (seen plan k d)
  moves_listed_left c d h = of c ∙ ap (λ x. moves_view plan k.barrier (seen plan k x)) h ∙ sym (of d)
    where
      of : (x : All C) → moves_view plan k.barrier (seen plan k x) ≡ moves_view plan k.barrier (seen plan k (forgotten x))
      of x = moves_listed_same (kept_in x) plan k through x (forgotten x).shared.frames (forgotten x).shared.calls (forgotten_may x)

  pub objects_left : (c d : All C) → forgotten c ≡ forgotten d → objects_view plan k.barrier c ≡ objects_view plan k.barrier d
  objects_left c d h = of c ∙ ap (objects_view plan k.barrier) h ∙ sym (of d)
    where
      of : (x : All C) → objects_view plan k.barrier x ≡ objects_view plan k.barrier (forgotten x)
      of x = objects_view_same (kept_in x) plan k.barrier through.barrier x (forgotten x).shared.frames (forgotten x).shared.calls (forgotten_may x)

  pub waits_left : (c d : All C) → forgotten c ≡ forgotten d → waits_view plan k.barrier (seen plan k c) ≡ waits_view plan k.barrier (seen plan k d)
  waits_left c d h = of c ∙ ap (λ x. waits_view plan k.barrier (seen plan k x)) h ∙ sym (of d)
    where
      of : (x : All C) → waits_view plan k.barrier (seen plan k x) ≡ waits_view plan k.barrier (seen plan k (forgotten x))
      of x = waits_at_same (kept_in x) plan k through x (forgotten x).shared.frames (forgotten x).shared.calls (forgotten_may x)

  pub view_left : (c d : All C) → forgotten c ≡ forgotten d → view_at plan k c ≡ view_at plan k d
  view_left c d h =
      ap (λ x. record (view_at plan k c) { tasks = x }) (tasks_left c d h)
      ∙ ap (λ x. record (view_at plan k c) { tasks = (view_at plan k d).tasks; queues = x }) (queues_left c d h)
      ∙ ap (λ x. record (view_at plan k d) { vars = x; moves = (view_at plan k c).moves; objects = (view_at plan k c).objects; waits = (view_at plan k c).waits; clock = c.clock; output = c.shared.output; state = state_at plan k c }) (fun_ext (λ n. vars_left n c d h))
      ∙ ap (λ x. record (view_at plan k d) { moves = x; objects = (view_at plan k c).objects; waits = (view_at plan k c).waits; clock = c.clock; output = c.shared.output; state = state_at plan k c }) (moves_listed_left c d h)
      ∙ ap (λ x. record (view_at plan k d) { objects = x; waits = (view_at plan k c).waits; clock = c.clock; output = c.shared.output; state = state_at plan k c }) (objects_left c d h)
      ∙ ap (λ x. record (view_at plan k d) { waits = x; clock = c.clock; output = c.shared.output; state = state_at plan k c }) (waits_left c d h)
      ∙ ap (λ x. record (view_at plan k d) { clock = x; output = c.shared.output; state = state_at plan k c }) (ap (λ (a : All C). a.clock) h)
      ∙ ap (λ x. record (view_at plan k d) { output = x; state = state_at plan k c }) (ap (λ (a : All C). a.shared.output) h)
      ∙ ap (λ x. record (view_at plan k d) { state = x }) (state_left c d h)
