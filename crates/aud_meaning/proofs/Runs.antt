-- Where two controls agree, so do moves, steps and runs.
use Rattle.std.proofs.Common.{◌≡◌, ℕ, zero, suc, ◌+◌, ◌%◌, List, [], ◌∷◌, ◌++◌, map, length, slice_get, slice_index_or, Option, Some, None, refl, sym, ap, ◌∙◌, subst}
use Rattle.aud_text.specs.declared.limits.Limits.{Limits}
use Rattle.aud_text.specs.declared.place.Pos.{Pos}
use Rattle.aud_typed.specs.Tree.{Plan}
use Rattle.aud_meaning.specs.declared.state.Pending.{Pending}
use Rattle.aud_meaning.specs.Configuration.{Own, Shared, TaskAt, All}
use Rattle.aud_meaning.specs.Evaluation.{Sight}
use Rattle.aud_meaning.specs.Control.{Coming, Scene, Seen, Moved, here, takes_part, does_accept, enters_body, begins_body, gets_out, passes_end, to_handler, out_by, Controls, moved, all_moved, ordered}
use Rattle.aud_meaning.specs.Parts.{owns, sight_in}
use Rattle.aud_meaning.specs.declared.state.Move.{Move}
use Rattle.aud_meaning.specs.Run.{moves, moves_at, state_of, state_at, shown_place, seen_from, seen, scene_of, orders, step_of, step_with, take_by, take_one, run_by, run_with, main_raised, supplied, advanced, opening_with}
use Rattle.aud_meaning.specs.Why.Agree.{Agrees, ShowsTask, ShowsTasks, ShowsAll}

abbrev all_with : {T : Type 0} → List (TaskAt T) → Shared → List ℕ → ℕ → ℕ → All T
all_with ts shared choices clock steps = record { tasks = ts; shared = shared; choices = choices; clock = clock; steps = steps }

abbrev scene_in : ℕ → List Own → Shared → ℕ → Scene
scene_in n os shared clock = record { sight = sight_in n os shared; clock = clock; objects = length shared.objects }

-- before a step nothing is ordered
abbrev bare : {T : Type 0} → TaskAt T → TaskAt Moved
bare t = record { control = here; own = t.own }

abbrev carried : {T : Type 0} → Controls T → All T → All Moved → All T
carried j a d = record a { tasks = all_moved j a.tasks d.tasks; shared = d.shared }

module _ {C D : Type 0} (shows : C → D → Type 0) (k : Controls C) (l : Controls D) (agrees : Agrees C D shows k l) where
  -- What is read.

  -- a task, seen among tasks
  abbrev seen_as : Coming → Pos → Own → TaskAt Seen
  seen_as coming place own = record { control = record { coming = coming; place = place }; own = own }

  same_place : (plan : Plan) (p : Option Pending) (m : C) (c : D) → shows m c → shown_place plan k p m ≡ shown_place plan l p c
  same_place plan None m c h = agrees.place m c h
  same_place plan (Some p) m c h = refl

  same_task : (plan : Plan) (s : Sight) (m : TaskAt C) (c : TaskAt D) → ShowsTask C D shows m c → seen_as (k.coming m.own.pending s m.control) (shown_place plan k m.own.pending m.control) m.own ≡ seen_as (l.coming c.own.pending s c.control) (shown_place plan l c.own.pending c.control) c.own
  same_task plan s m c h =
      ap (λ (o : Own). seen_as (k.coming o.pending s m.control) (shown_place plan k o.pending m.control) o) h.own
      ∙ ap (λ (x : Coming). seen_as x (shown_place plan k c.own.pending m.control) c.own) (agrees.coming c.own.pending s m.control c.control h.control)
      ∙ ap (λ (x : Pos). seen_as (l.coming c.own.pending s c.control) x c.own) (same_place plan c.own.pending m.control c.control h.control)

  same_seen_from : (plan : Plan) (n : ℕ) (ms : List (TaskAt C)) (cs : List (TaskAt D)) (os : List Own) (shared : Shared) → ShowsTasks C D shows ms cs → seen_from plan k n ms os shared ≡ seen_from plan l n cs os shared
  same_seen_from plan n [] [] os shared h = refl
  same_seen_from plan n [] (c ∷ cs) os shared h = absurd h
  same_seen_from plan n (m ∷ ms) [] os shared h = absurd h
  same_seen_from plan n (m ∷ ms) (c ∷ cs) os shared h =
      ap (λ (t : TaskAt Seen). t ∷ seen_from plan k (suc n) ms os shared) (same_task plan (sight_in n os shared) m c h.0)
      ∙ ap (λ (ts : List (TaskAt Seen)). seen_as (l.coming c.own.pending (sight_in n os shared) c.control) (shown_place plan l c.own.pending c.control) c.own ∷ ts) (same_seen_from plan (suc n) ms cs os shared h.1)

  same_owns : (ms : List (TaskAt C)) (cs : List (TaskAt D)) → ShowsTasks C D shows ms cs → owns ms ≡ owns cs
  same_owns [] [] h = refl
  same_owns [] (c ∷ cs) h = absurd h
  same_owns (m ∷ ms) [] h = absurd h
  same_owns (m ∷ ms) (c ∷ cs) h = ap (λ (o : Own). o ∷ owns ms) h.0.own ∙ ap (λ (os : List Own). c.own ∷ os) (same_owns ms cs h.1)

  -- the same, with these tasks
  same_but : {T : Type 0} (ts : List (TaskAt T)) (m : All C) (c : All D) → ShowsAll C D shows m c → all_with ts m.shared m.choices m.clock m.steps ≡ all_with ts c.shared c.choices c.clock c.steps
  same_but ts m c h =
      ap (λ (s : Shared). record { tasks = ts; shared = s; choices = m.choices; clock = m.clock; steps = m.steps }) h.shared
      ∙ ap (λ (s : List ℕ). record { tasks = ts; shared = c.shared; choices = s; clock = m.clock; steps = m.steps }) h.choices
      ∙ ap (λ (s : ℕ). record { tasks = ts; shared = c.shared; choices = c.choices; clock = s; steps = m.steps }) h.clock
      ∙ ap (λ (s : ℕ). record { tasks = ts; shared = c.shared; choices = c.choices; clock = c.clock; steps = s }) h.steps

  pub same_seen : (plan : Plan) (m : All C) (c : All D) → ShowsAll C D shows m c → seen plan k m ≡ seen plan l c
  same_seen plan m c h =
      ap (λ (os : List Own). all_with (seen_from plan k 0 m.tasks os m.shared) m.shared m.choices m.clock m.steps) (same_owns m.tasks c.tasks h.tasks)
      ∙ ap (λ (s : Shared). all_with (seen_from plan k 0 m.tasks (owns c.tasks) s) m.shared m.choices m.clock m.steps) h.shared
      ∙ ap (λ (ts : List (TaskAt Seen)). all_with ts m.shared m.choices m.clock m.steps) (same_seen_from plan 0 m.tasks c.tasks (owns c.tasks) c.shared h.tasks)
      ∙ same_but (seen_from plan l 0 c.tasks (owns c.tasks) c.shared) m c h

  same_scene : (plan : Plan) (n : ℕ) (m : All C) (c : All D) → ShowsAll C D shows m c → scene_of plan k n m ≡ scene_of plan l n c
  same_scene plan n m c h =
      ap (λ (os : List Own). scene_in n os m.shared m.clock) (same_owns m.tasks c.tasks h.tasks)
      ∙ ap (λ (s : Shared). scene_in n (owns c.tasks) s m.clock) h.shared
      ∙ ap (λ (t : ℕ). scene_in n (owns c.tasks) c.shared t) h.clock

  -- What is ordered.

  pub moved_shown : (o : Moved) (m : C) (c : D) → shows m c → shows (moved k m o) (moved l c o)
  moved_shown here m c h = h
  moved_shown (takes_part n o) m c h = agrees.takes n (moved k m o) (moved l c o) (moved_shown o m c h)
  moved_shown (does_accept n o) m c h = agrees.accepts n (moved k m o) (moved l c o) (moved_shown o m c h)
  moved_shown (enters_body n o) m c h = agrees.enters n (moved k m o) (moved l c o) (moved_shown o m c h)
  moved_shown (begins_body n) m c h = agrees.begins n
  moved_shown (gets_out o) m c h = agrees.out (moved k m o) (moved l c o) (moved_shown o m c h)
  moved_shown (passes_end o) m c h = agrees.behind (moved k m o) (moved l c o) (moved_shown o m c h)
  moved_shown (to_handler x o) m c h = agrees.handling x (moved k m o) (moved l c o) (moved_shown o m c h)
  moved_shown (out_by x o) m c h = agrees.left x (moved k m o) (moved l c o) (moved_shown o m c h)

  all_moved_shown : (ms : List (TaskAt C)) (cs : List (TaskAt D)) (os : List (TaskAt Moved)) → ShowsTasks C D shows ms cs → ShowsTasks C D shows (all_moved k ms os) (all_moved l cs os)
  all_moved_shown ms cs [] h = tt
  all_moved_shown [] [] (o ∷ os) h = (record { own = refl; control = moved_shown o.control (k.begins 0) (l.begins 0) (agrees.begins 0) }, all_moved_shown [] [] os tt)
  all_moved_shown [] (c ∷ cs) (o ∷ os) h = absurd h
  all_moved_shown (m ∷ ms) [] (o ∷ os) h = absurd h
  all_moved_shown (m ∷ ms) (c ∷ cs) (o ∷ os) h = (record { own = refl; control = moved_shown o.control m.control c.control h.0.control }, all_moved_shown ms cs os h.1)

  same_bare : (ms : List (TaskAt C)) (cs : List (TaskAt D)) → ShowsTasks C D shows ms cs → map (λ (t : TaskAt C). bare t) ms ≡ map (λ (t : TaskAt D). bare t) cs
  same_bare [] [] h = refl
  same_bare [] (c ∷ cs) h = absurd h
  same_bare (m ∷ ms) [] h = absurd h
  same_bare (m ∷ ms) (c ∷ cs) h =
      ap (λ (o : Own). record { control = here; own = o } ∷ map (λ (t : TaskAt C). bare t) ms) h.0.own
      ∙ ap (λ (xs : List (TaskAt Moved)). record { control = here; own = c.own } ∷ xs) (same_bare ms cs h.1)

  carried_out : (m : All C) (c : All D) (d : All Moved) → ShowsAll C D shows m c → ShowsAll C D shows (carried k m d) (carried l c d)
  carried_out m c d h = record { tasks = all_moved_shown m.tasks c.tasks d.tasks h.tasks; shared = refl; choices = h.choices; clock = h.clock; steps = h.steps }

  pub ordered_shown : (m : All C) (c : All D) (step : All Moved → All Moved) → ShowsAll C D shows m c → ShowsAll C D shows (ordered k m step) (ordered l c step)
  ordered_shown m c step h =
      let bm : All Moved = record { tasks = map (λ (t : TaskAt C). record { control = here; own = t.own }) m.tasks; shared = m.shared; choices = m.choices; clock = m.clock; steps = m.steps } in
      let bc : All Moved = record { tasks = map (λ (t : TaskAt D). record { control = here; own = t.own }) c.tasks; shared = c.shared; choices = c.choices; clock = c.clock; steps = c.steps } in
      let same : bm ≡ bc =
      ap (λ (ts : List (TaskAt Moved)). record { tasks = ts; shared = m.shared; choices = m.choices; clock = m.clock; steps = m.steps }) (same_bare m.tasks c.tasks h.tasks)
      ∙ same_but (map (λ (t : TaskAt D). record { control = here; own = t.own }) c.tasks) m c h in
      subst (λ b. ShowsAll C D shows (carried k m (step b)) (ordered l c step)) (sym same) (carried_out m c (step bc) h)

  -- Moves, steps, runs.
  module _ (plan : Plan) where
    pub moves_same : (m : All C) (c : All D) → ShowsAll C D shows m c → moves_at plan k m ≡ moves_at plan l c
    moves_same m c h = ap (λ b. moves plan b (seen plan k m)) agrees.barrier ∙ ap (moves plan l.barrier) (same_seen plan m c h)

    pub state_same : (m : All C) (c : All D) → ShowsAll C D shows m c → state_at plan k m ≡ state_at plan l c
    state_same m c h = ap (λ b. state_of plan b (seen plan k m)) agrees.barrier ∙ ap (state_of plan l.barrier) (same_seen plan m c h)

    module _ (limits : Limits) where
      -- a step of a task: what it sees and asks is the same
      task_shown : (m : All C) (c : All D) (move : Move) (t : TaskAt C) (u : TaskAt D) → ShowsTask C D shows t u → ShowsAll C D shows m c → ShowsAll C D shows (step_of plan k limits (Some t) move m) (step_of plan l limits (Some u) move c)
      task_shown m c move t u g h =
          let m' : All C = record m { steps = suc m.steps } in
          let c' : All D = record c { steps = suc c.steps } in
          let h' : ShowsAll C D shows m' c' = record { tasks = h.tasks; shared = h.shared; choices = h.choices; clock = h.clock; steps = ap suc h.steps } in
          let asked_k = k.asks t.own.pending (scene_of plan k move.task m) t.control in
          let asked_l = l.asks u.own.pending (scene_of plan l move.task c) u.control in
          let same : asked_k ≡ asked_l =
          ap (λ (o : Own). k.asks o.pending (scene_of plan k move.task m) t.control) g.own
          ∙ ap (λ (s : Scene). k.asks u.own.pending s t.control) (same_scene plan move.task m c h)
          ∙ agrees.asks u.own.pending (scene_of plan l move.task c) t.control u.control g.control in
          let step : orders plan k.barrier limits (seen plan k m) asked_k move ≡ orders plan l.barrier limits (seen plan l c) asked_l move =
          ap (λ b. orders plan b limits (seen plan k m) asked_k move) agrees.barrier
          ∙ ap (λ s. orders plan l.barrier limits s asked_k move) (same_seen plan m c h)
          ∙ ap (λ a. orders plan l.barrier limits (seen plan l c) a move) same in
          subst (λ f. ShowsAll C D shows (ordered k m' f) (ordered l c' (orders plan l.barrier limits (seen plan l c) asked_l move))) (sym step)
          (ordered_shown m' c' (orders plan l.barrier limits (seen plan l c) asked_l move) h')

      got_shown : (ms : List (TaskAt C)) (cs : List (TaskAt D)) (n : ℕ) (move : Move) (m : All C) (c : All D) → ShowsTasks C D shows ms cs → ShowsAll C D shows m c → ShowsAll C D shows (step_of plan k limits (slice_get ms n) move m) (step_of plan l limits (slice_get cs n) move c)
      got_shown [] [] n move m c g h = h
      got_shown [] (u ∷ us) n move m c g h = absurd g
      got_shown (t ∷ ts) [] n move m c g h = absurd g
      got_shown (t ∷ ts) (u ∷ us) zero move m c g h = task_shown m c move t u g.0 h
      got_shown (t ∷ ts) (u ∷ us) (suc n) move m c g h = got_shown ts us n move m c g.1 h

      pub step_shown : (m : All C) (c : All D) (move : Move) → ShowsAll C D shows m c → ShowsAll C D shows (step_with plan k limits m move) (step_with plan l limits c move)
      step_shown m c move h = got_shown m.tasks c.tasks move.task move m c h.tasks h

      take_by_shown : (first : Move) (ms : List Move) (choices : List ℕ) (m : All C) (c : All D) → ShowsAll C D shows m c → ShowsAll C D shows (take_by plan k limits first ms choices m) (take_by plan l limits first ms choices c)
      take_by_shown first ms [] m c h = step_shown m c first h
      take_by_shown first ms (n ∷ choices) m c h =
          step_shown (record m { choices = choices }) (record c { choices = choices }) (slice_index_or ms (n % length ms) first)
          (record { tasks = h.tasks; shared = h.shared; choices = refl; clock = h.clock; steps = h.steps })

      take_one_shown : (move : Move) (ms : List Move) (m : All C) (c : All D) → ShowsAll C D shows m c → ShowsAll C D shows (take_one plan k limits move ms m) (take_one plan l limits move ms c)
      take_one_shown move [] m c h = step_shown m c move h
      take_one_shown move (n ∷ ms) m c h =
          subst (λ cs. ShowsAll C D shows (take_by plan k limits move (move ∷ n ∷ ms) cs m) (take_by plan l limits move (move ∷ n ∷ ms) c.choices c)) (sym h.choices)
          (take_by_shown move (move ∷ n ∷ ms) c.choices m c h)

      run_by_shown : (go : All C → All C) (go' : All D → All D) → ((m : All C) (c : All D) → ShowsAll C D shows m c → ShowsAll C D shows (go m) (go' c)) → (ms : List Move) (m : All C) (c : All D) → ShowsAll C D shows m c → ShowsAll C D shows (run_by plan k limits go ms m) (run_by plan l limits go' ms c)
      run_by_shown go go' on [] m c h = h
      run_by_shown go go' on (move ∷ ms) m c h = on (take_one plan k limits move ms m) (take_one plan l limits move ms c) (take_one_shown move ms m c h)

      pub run_shown : (n : ℕ) (m : All C) (c : All D) → ShowsAll C D shows m c → ShowsAll C D shows (run_with plan k limits n m) (run_with plan l limits n c)
      run_shown zero m c h = h
      run_shown (suc n) m c h =
          subst (λ ms. ShowsAll C D shows (run_by plan k limits (run_with plan k limits n) ms m) (run_by plan l limits (run_with plan l limits n) (moves_at plan l c) c)) (sym (moves_same m c h))
          (run_by_shown (run_with plan k limits n) (run_with plan l limits n) (run_shown n) (moves_at plan l c) m c h)

  -- What the user supplies, and the beginning.

  pub supplied_shown : (choices : List ℕ) (m : All C) (c : All D) → ShowsAll C D shows m c → ShowsAll C D shows (supplied choices m) (supplied choices c)
  supplied_shown choices m c h = record { tasks = h.tasks; shared = h.shared; choices = ap (λ cs. cs ++ choices) h.choices; clock = h.clock; steps = h.steps }

  pub advanced_shown : (milliseconds : ℕ) (m : All C) (c : All D) → ShowsAll C D shows m c → ShowsAll C D shows (advanced milliseconds m) (advanced milliseconds c)
  advanced_shown milliseconds m c h = record { tasks = h.tasks; shared = h.shared; choices = h.choices; clock = ap (λ n. n + milliseconds) h.clock; steps = h.steps }

  pub opening_shown : (plan : Plan) (name : List ℕ) → ShowsAll C D shows (opening_with plan name (k.begins 0)) (opening_with plan name (l.begins 0))
  opening_shown plan name = record { tasks = (record { own = refl; control = agrees.begins 0 }, tt); shared = refl; choices = refl; clock = refl; steps = refl }

  pub raised_same : (ms : List (TaskAt C)) (cs : List (TaskAt D)) → ShowsTasks C D shows ms cs → main_raised ms ≡ main_raised cs
  raised_same [] [] h = refl
  raised_same [] (c ∷ cs) h = absurd h
  raised_same (m ∷ ms) [] h = absurd h
  raised_same (m ∷ ms) (c ∷ cs) h = ap (λ (o : Own). o.raised) h.0.own
