-- What steps and runs execute: the same whatever is forgotten, and step by step.
use Rattle.std.proofs.Common.{◌≡◌, ◌+◌, ◌*◌, ℕ, zero, suc, List, [], ◌∷◌, length, slice_get, slice_index_or, Option, Some, None, refl, ap, sym, ◌∙◌, arith}
use Rattle.std.specs.Prelude.{◌%◌}
use Rattle.std.proofs.lemmas.Option.{get_or_from_slice_get}
use Rattle.aud_text.specs.declared.limits.Limits.{Limits}
use Rattle.aud_typed.specs.Tree.{Plan}
use Rattle.aud_meaning.specs.declared.state.Move.{Move}
use Rattle.aud_meaning.specs.Configuration.{Call, Frame, TaskAt, All}
use Rattle.aud_meaning.specs.Control.{Controls, Scene, Seen}
use Rattle.aud_meaning.specs.Evaluation.{Facts}
use Rattle.aud_meaning.specs.Parts.{own_of, owns, sight_of}
use Rattle.aud_meaning.specs.Run.{moves_at, own_move, run_by, run_with, seen, take_one, turn_at}
use Rattle.aud_code.specs.Places.{Spot}
use Rattle.aud_code.specs.Flat.{Flat, flat_controls}
use Rattle.aud_over.specs.Over.{forgotten, with_kept}
use Rattle.aud_over.specs.Looks.{Looks}
use Rattle.aud_over.proofs.Beside.{facts_same, own_names, sees_same, Kept, MayHave}
use Rattle.aud_over.proofs.Coding.{code_looks}
use Rattle.aud_over.proofs.Forgetting.{forgotten_may, kept_in}
use Rattle.aud_over.proofs.Left.{moves_left, run_left}
use Rattle.aud_over.proofs.Looking.{seen_may, seen_same, turn_same}
use Rattle.aud_state.specs.Fast.{executed_at, executed_by, executed_in, scene}
use Rattle.aud_state.specs.Reads.{IsPlain}
use Rattle.aud_tasks.specs.Counting.{at_turn, executed, executed_from, most_of_barriers, step_ticks, ticks_by, ticks_of_one, Counts}
use Rattle.aud_tasks.specs.Running.{IsUnchosen, Picks, RunsOn}
use Rattle.aud_tasks.specs.Turning.{turn_in}
use Rattle.aud_tasks.proofs.Running.Seeing.{executed_seen}
use Rattle.aud_tasks.proofs.StepLaws.Turning.{turn_plain}

module _ (plan : Plan) (code : Flat) where
  abbrev K : Controls Spot
  K = flat_controls plan code

  abbrev looks : Looks K
  looks = code_looks plan code

  -- A step executes the same where nothing is changed that is named.
  module _ (p : Kept) (c : All Spot) (fs : List Frame) (cs : List Call) (may : MayHave p c fs cs) where
    abbrev kept : All Spot
    kept = with_kept fs cs c

    own_same : (n : ℕ) (o : Option (TaskAt Spot)) → executed_by code o (scene n c) ≡ executed_by code o (scene n kept)
    own_same n None = refl
    own_same n (Some t) =
        executed_seen code t.own.pending (scene n c) fs t.control (sees_same p (sight_of n c) fs may.frames (own_names p c.tasks n may.tasks).0)
        ∙ ap (λ (f : Facts). executed_at code t.own.pending (let x : Scene = record { sight = record { display = (own_of n c).display; frames = fs; facts = f }; clock = c.clock; objects = length c.shared.objects } in x) t.control) (facts_same p (owns c.tasks) c.shared.calls cs may.calls)

    turn_kept : (n : ℕ) → turn_in plan code n c ≡ turn_in plan code n kept
    turn_kept n =
        by (slice_get (seen plan K c).tasks n)
        ∙ ap (λ (s : All Seen). turn_at plan K.barrier (slice_get s.tasks n) n s) (seen_same p plan K looks c fs cs may)
      where
        by : (o : Option (TaskAt Seen)) → turn_at plan K.barrier o n (seen plan K c) ≡ turn_at plan K.barrier o n (with_kept fs cs (seen plan K c))
        by None = refl
        by (Some t) = turn_same p plan K.barrier looks.barrier n t (seen plan K c) fs cs (seen_may p plan K looks c fs cs may)

    step_kept : (m : Move) → step_ticks plan code c m ≡ step_ticks plan code kept m
    step_kept m =
        ap (λ u. at_turn u (executed_in code m.task c)) (turn_kept m.task)
        ∙ ap (at_turn (turn_in plan code m.task kept)) (own_same m.task (slice_get c.tasks m.task))

  step_left : (c d : All Spot) (m : Move) → forgotten c ≡ forgotten d → step_ticks plan code c m ≡ step_ticks plan code d m
  step_left c d m h = of c ∙ ap (λ (x : All Spot). step_ticks plan code x m) h ∙ sym (of d)
    where
      of : (x : All Spot) → step_ticks plan code x m ≡ step_ticks plan code (forgotten x) m
      of x = step_kept (kept_in x) x (forgotten x).shared.frames (forgotten x).shared.calls (forgotten_may x) m

  by_left : (first : Move) (ms : List Move) (choices : List ℕ) (c d : All Spot) → forgotten c ≡ forgotten d → ticks_by plan code first ms choices c ≡ ticks_by plan code first ms choices d
  by_left first ms [] c d h = step_left c d first h
  by_left first ms (x ∷ choices) c d h =
      step_left (record c { choices = choices }) (record d { choices = choices }) (slice_index_or ms (x % length ms) first)
      (ap (λ (y : All Spot). let z : All Spot = record y { choices = choices } in z) h)

  one_left : (m : Move) (ms : List Move) (c d : All Spot) → forgotten c ≡ forgotten d → ticks_of_one plan code m ms c ≡ ticks_of_one plan code m ms d
  one_left m [] c d h = step_left c d m h
  one_left m (n ∷ ms) c d h =
      by_left m (m ∷ n ∷ ms) c.choices c d h
      ∙ ap (λ cs. ticks_by plan code m (m ∷ n ∷ ms) cs d) (ap (λ (y : All Spot). y.choices) h)

  -- Which move is taken.

  unchosen_by : (m x : Move) (ms : List Move) (choices : List ℕ) (c : All Spot) → IsUnchosen (x ∷ ms) choices → ticks_by plan code m (m ∷ x ∷ ms) choices c ≡ step_ticks plan code c m
  unchosen_by m x ms [] c h = refl
  unchosen_by m x ms (choice ∷ choices) c h = absurd h

  pub unchosen_ticks : (m : Move) (ms : List Move) (c : All Spot) → IsUnchosen ms c.choices → ticks_of_one plan code m ms c ≡ step_ticks plan code c m
  unchosen_ticks m [] c h = refl
  unchosen_ticks m (x ∷ ms) c h = unchosen_by m x ms c.choices c h

  pub chosen_ticks : (m : Move) (ms : List Move) (choice : ℕ) (choices : List ℕ) (n : Move) (c : All Spot) → ¬ (ms ≡ []) → c.choices ≡ choice ∷ choices → slice_get (m ∷ ms) (choice % length (m ∷ ms)) ≡ Some n →
      ticks_of_one plan code m ms c ≡ step_ticks plan code (record c { choices = choices }) n
  chosen_ticks m [] choice choices n c some e h = absurd (some refl)
  chosen_ticks m (x ∷ ms) choice choices n c some e h =
      ap (λ l. ticks_by plan code m (m ∷ x ∷ ms) l c) e
      ∙ ap (step_ticks plan code (record c { choices = choices })) (get_or_from_slice_get (m ∷ x ∷ ms) (choice % length (m ∷ x ∷ ms)) n m h)

  -- one that runs as usual executes its own statements
  pub plain_ticks : (n : ℕ) (c : All Spot) → IsPlain (own_of n c) → step_ticks plan code c (own_move n) ≡ executed_in code n c
  plain_ticks n c plain = ap (λ u. at_turn u (executed_in code n c)) (turn_plain plan code n c plain)

  module _ (limits : Limits) where
    abbrev Takes : Move → List Move → All Spot → All Spot
    Takes m ms c = take_one plan K limits m ms c

    abbrev Executed : ℕ → All Spot → ℕ
    Executed k c = executed plan code limits k c

    abbrev From : ℕ → List Move → All Spot → ℕ
    From k ms c = executed_from plan code limits (executed plan code limits k) ms c

    taken_left : (m : Move) (ms : List Move) (c d : All Spot) → moves_at plan K c ≡ m ∷ ms → forgotten c ≡ forgotten d → forgotten (Takes m ms c) ≡ forgotten (Takes m ms d)
    taken_left m ms c d moves h =
        ap (λ l. forgotten (run_by plan K limits (run_with plan K limits 0) l c)) (sym moves)
        ∙ run_left plan K looks limits 1 c d h
        ∙ ap (λ l. forgotten (run_by plan K limits (run_with plan K limits 0) l d)) (sym (moves_left plan K looks c d h) ∙ moves)

    -- so does a run
    executed_left : (k : ℕ) (c d : All Spot) → forgotten c ≡ forgotten d → Executed k c ≡ Executed k d
    executed_left zero c d h = refl
    executed_left (suc k) c d h = by (executed_left k) (moves_at plan K c) refl ∙ ap (λ ms. From k ms d) (moves_left plan K looks c d h)
      where
        by : ((x y : All Spot) → forgotten x ≡ forgotten y → Executed k x ≡ Executed k y) → (ms : List Move) → moves_at plan K c ≡ ms → From k ms c ≡ From k ms d
        by on [] is = refl
        by on (m ∷ ms) is =
            ap (λ j. j + Executed k (Takes m ms c)) (one_left m ms c d h)
            ∙ ap (λ j. ticks_of_one plan code m ms d + j) (on (Takes m ms c) (Takes m ms d) (taken_left m ms c d is h))

    -- Steps one after the other.

    executed_none : (k : ℕ) (c : All Spot) → moves_at plan K c ≡ [] → Executed k c ≡ 0
    executed_none zero c none = refl
    executed_none (suc k) c none = ap (λ ms. From k ms c) none

    executed_on : (k j : ℕ) (c : All Spot) → Executed (k + j) c ≡ Executed k c + Executed j (run_with plan K limits k c)
    executed_on zero j c =
        let none : 0 + j ≡ j = omega arith in
        let sum : Executed j c ≡ 0 + Executed j c = omega arith in
        ap (λ i. Executed i c) none ∙ sum
    executed_on (suc k) j c =
        let count : suc k + j ≡ suc (k + j) = omega arith in
        ap (λ i. Executed i c) count ∙ by (executed_on k j) (moves_at plan K c) refl
      where
        by : ((x : All Spot) → Executed (k + j) x ≡ Executed k x + Executed j (run_with plan K limits k x)) → (ms : List Move) → moves_at plan K c ≡ ms → From (k + j) ms c ≡ From k ms c + Executed j (run_by plan K limits (run_with plan K limits k) ms c)
        by on [] is =
            let none : Executed j c ≡ 0 = executed_none j c is in
            let sum : 0 ≡ 0 + Executed j c = omega (arith, none) in
            sum
        by on (m ∷ ms) is =
            let x = Takes m ms c in
            let one = ticks_of_one plan code m ms c in
            let sum : one + (Executed k x + Executed j (run_with plan K limits k x)) ≡ one + Executed k x + Executed j (run_with plan K limits k x) = omega arith in
            ap (λ i. one + i) (on x) ∙ sum

    -- of which the same is left
    pub executed_then : (k j : ℕ) (old there : All Spot) → forgotten (run_with plan K limits k old) ≡ forgotten there → Executed (k + j) old ≡ Executed k old + Executed j there
    executed_then k j old there left = executed_on k j old ∙ ap (λ i. Executed k old + i) (executed_left j (run_with plan K limits k old) there left)

    pub leads_left : (k : ℕ) (old there : All Spot) → RunsOn plan code limits k old there → forgotten (run_with plan K limits k old) ≡ forgotten there
    leads_left k old there leads =
        let all : k ≡ k + 0 = omega arith in
        ap (λ (c : All Spot). forgotten c) (ap (λ i. run_with plan K limits i old) all ∙ leads 0)

    -- A single step.

    executed_one : (c : All Spot) (first : Move) (others : List Move) → moves_at plan K c ≡ first ∷ others → Executed 1 c ≡ ticks_of_one plan code first others c
    executed_one c first others moves =
        let none : ticks_of_one plan code first others c + 0 ≡ ticks_of_one plan code first others c = omega arith in
        ap (λ ms. From 0 ms c) moves ∙ none

    pub executed_unchosen : (c : All Spot) (m : Move) (others : List Move) → moves_at plan K c ≡ m ∷ others → IsUnchosen others c.choices → Executed 1 c ≡ step_ticks plan code c m
    executed_unchosen c m others moves unchosen = executed_one c m others moves ∙ unchosen_ticks m others c unchosen

    pub executed_picked : (old mid : All Spot) (m : Move) → Picks plan code m old mid → Executed 1 old ≡ step_ticks plan code mid m
    executed_picked old mid m picks = executed_one old picks.first picks.others picks.moves ∙ picks.ticks

    -- Counts.

    abbrev pub RunCounts : ℕ → All Spot → ℕ → Type 0
    RunCounts steps old ticks = Counts (executed plan code limits steps old) (steps * most_of_barriers plan code) ticks

    pub counts_none : (old : All Spot) → RunCounts 0 old 0
    counts_none old =
        let none : executed plan code limits 0 old ≡ 0 = refl in
        record { least = omega (arith, none); most = omega (arith, none) }

    -- of a move that is picked
    pub counts_one : (old mid : All Spot) (m : Move) (ticks : ℕ) → Picks plan code m old mid → Counts (step_ticks plan code mid m) (most_of_barriers plan code) ticks → RunCounts 1 old ticks
    counts_one old mid m ticks picks counts =
        let same : executed plan code limits 1 old ≡ step_ticks plan code mid m = executed_picked old mid m picks in
        record { least = omega (arith, same, counts.least); most = omega (arith, same, counts.most) }

    -- of some steps and others behind them
    pub counts_then : (k j t u all : ℕ) (old there : All Spot) → forgotten (run_with plan K limits k old) ≡ forgotten there → RunCounts k old t → RunCounts j there u → Counts (t + u) 0 all → RunCounts (k + j) old all
    counts_then k j t u all old there left first more sum =
        let both : executed plan code limits (k + j) old ≡ executed plan code limits k old + executed plan code limits j there = executed_then k j old there left in
        record {
          least = omega (arith, both, first.least, more.least, sum.least);
          most = omega (arith, both, first.most, more.most, sum.most);
        }
