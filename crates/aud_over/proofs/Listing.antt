-- What is listed is the same where programs are the same but for what nothing names.
use Rattle.std.proofs.Common.{◌≡◌, ℕ, suc, ◌+◌, List, [], ◌∷◌, ◌++◌, length, reverse, slice_index_or, Bool, true, false, refl, sym, ap, ◌∙◌}
use Rattle.std.specs.Prelude.{Result, codes}
use mathlib.Core.List.{reverse_aux}
use Rattle.std.specs.Fmt.{decimal}
use Rattle.aud_text.specs.declared.raise.Raise.{Raise}
use Rattle.aud_typed.specs.Tree.{Plan}
use Rattle.aud_meaning.specs.declared.state.Status.{Status}
use Rattle.aud_meaning.specs.declared.state.Status.TheVariants.{Created, Running, Activating, Accepting, Delaying, Calling, Completed, Terminated}
use Rattle.aud_meaning.specs.declared.state.CallState.{CallState}
use Rattle.aud_meaning.specs.declared.state.CallState.TheVariants.{Queued, Selected, Done, Cancelled}
use Rattle.aud_meaning.specs.Configuration.{Frame, Opened, Call, Object, TaskAt, All}
use Rattle.aud_meaning.specs.Evaluation.{Sight}
use Rattle.aud_meaning.specs.Control.{Seen, Controls}
use Rattle.aud_meaning.specs.Parts.{own_of, call_of, object_plan, entry_plan, Waiting, queue}
use Rattle.aud_meaning.specs.declared.state.Move.{Move}
use Rattle.aud_meaning.specs.Run.{Turn, turn, turn_moves, moves, seen}
use Rattle.aud_meaning.specs.Listings.{spaced, frame_lines, opened_lines, vars, callers, queue_lines, entries_by, task_queues, object_queues, queues, place_by, line, serves_now, call_word, running_word, turn_leaves, status_by, abnormal_word, status_of, task_lines, tasks_view, move_lines_of, move_lines, moves_by_enabled, moves_view, word, turn_kind, alternative_word}
use Rattle.aud_over.specs.Over.{with_kept, is_call_over}
use Rattle.aud_over.specs.Looks.{Looks}
use Rattle.aud_over.proofs.Frames.{Agree, agree_at}
use Rattle.aud_over.proofs.Calls.{told_same, true_is_not_false, queue_same}
use Rattle.aud_over.proofs.Beside.{Kept, NamesAll, MayHave, own_names}
use Rattle.aud_over.proofs.Constructs.{BarrierLooks}
use Rattle.aud_over.proofs.Looking.{turn_same, task_moves_same, moves_same, seen_same, seen_may}

module _ (p : Kept) (plan : Plan) where
  -- Variables.

  opened_same : (depth : ℕ) (os : List Opened) (fs gs : List Frame) → NamesAll p os → Agree p.named fs gs → opened_lines plan depth os fs ≡ opened_lines plan depth os gs
  opened_same depth [] fs gs h a = refl
  opened_same depth (o ∷ os) fs gs h a =
      ap (λ (f : Frame). frame_lines depth o.elaborated (slice_index_or plan.regions o.region []) f ++ opened_lines plan (suc depth) os fs) (agree_at p.named fs gs a o.frame h.0.0)
      ∙ ap (λ xs. frame_lines depth o.elaborated (slice_index_or plan.regions o.region []) (slice_index_or gs o.frame []) ++ xs) (opened_same (suc depth) os fs gs h.1 a)

  names_moved : (os acc : List Opened) → NamesAll p os → NamesAll p acc → NamesAll p (reverse_aux os acc)
  names_moved [] acc h g = g
  names_moved (o ∷ os) acc h g = names_moved os (o ∷ acc) h.1 (h.0, g)

  names_reversed : (os : List Opened) → NamesAll p os → NamesAll p (reverse os)
  names_reversed os h = names_moved os [] h tt

  abbrev with_line : List ℕ → List ℕ → ℕ → ℕ → List Waiting → List (List ℕ) → List (List ℕ)
  with_line what name n e [] rest = rest
  with_line what name n e (w ∷ ws) rest = spaced what (spaced (decimal (suc n)) (name ++ 46 ∷ ((entry_plan plan e).name ++ 58 ∷ callers (w ∷ ws)))) ∷ rest

joined : {A : Type 0} (xs ys xs' ys' : List A) → xs ≡ xs' → ys ≡ ys' → (xs ++ ys) ≡ (xs' ++ ys')
joined xs ys xs' ys' h g = ap (λ zs. zs ++ ys) h ∙ ap (λ zs. xs' ++ zs) g

module _ {C : Type 0} (p : Kept) (plan : Plan) where
  pub vars_same : (n : ℕ) (c : All C) (fs : List Frame) (cs : List Call) → MayHave p c fs cs → vars plan n c ≡ vars plan n (with_kept fs cs c)
  vars_same n c fs cs m = opened_same p plan 1 (reverse (own_of n c).opened) c.shared.frames fs (names_reversed p plan (own_of n c).opened (own_names p c.tasks n m.tasks).1) m.frames

  -- Queues.

  line_same : (what name : List ℕ) (n : ℕ) (es : List ℕ) (c : All C) (fs : List Frame) (cs : List Call) → MayHave p c fs cs → queue_lines plan what name n es c ≡ queue_lines plan what name n es (with_kept fs cs c)
  line_same what name n [] c fs cs m = refl
  line_same what name n (e ∷ es) c fs cs m =
      ap (λ q. with_line p plan what name n e q (queue_lines plan what name n es c)) (queue_same p.kept n e c.shared.calls cs m.calls)
      ∙ ap (with_line p plan what name n e (queue n e cs)) (line_same what name n es c fs cs m)

  tasks_same : (n : ℕ) (ts : List (TaskAt C)) (c : All C) (fs : List Frame) (cs : List Call) → MayHave p c fs cs → task_queues plan n ts c ≡ task_queues plan n ts (with_kept fs cs c)
  tasks_same n [] c fs cs m = refl
  tasks_same n (t ∷ ts) c fs cs m =
      let lines = λ (x : All C). queue_lines plan (codes "task") t.own.name n (entries_by plan t.own.task_type) x in
      joined (lines c) (task_queues plan (suc n) ts c) (lines (with_kept fs cs c)) (task_queues plan (suc n) ts (with_kept fs cs c))
      (line_same (codes "task") t.own.name n (entries_by plan t.own.task_type) c fs cs m) (tasks_same (suc n) ts c fs cs m)

  objects_same : (n : ℕ) (os : List Object) (c : All C) (fs : List Frame) (cs : List Call) → MayHave p c fs cs → object_queues plan n os c ≡ object_queues plan n os (with_kept fs cs c)
  objects_same n [] c fs cs m = refl
  objects_same n (o ∷ os) c fs cs m =
      let declared = object_plan plan o.declaration in
      let lines = λ (x : All C). queue_lines plan (codes "object") declared.name n declared.entries x in
      joined (lines c) (object_queues plan (suc n) os c) (lines (with_kept fs cs c)) (object_queues plan (suc n) os (with_kept fs cs c))
      (line_same (codes "object") declared.name n declared.entries c fs cs m) (objects_same (suc n) os c fs cs m)

  pub queues_same : (c : All C) (fs : List Frame) (cs : List Call) → MayHave p c fs cs → queues plan c ≡ queues plan (with_kept fs cs c)
  queues_same c fs cs m =
      joined (task_queues plan 0 c.tasks c) (object_queues plan 0 c.shared.objects c) (task_queues plan 0 c.tasks (with_kept fs cs c)) (object_queues plan 0 c.shared.objects (with_kept fs cs c))
      (tasks_same 0 c.tasks c fs cs m) (objects_same 0 c.shared.objects c fs cs m)

module _ (p : Kept) (plan : Plan) (barrier : ℕ → Sight → Result Bool Raise) (through : BarrierLooks barrier) where
  -- Tasks and moves.

  shown_line : (n : ℕ) (t : TaskAt Seen) (c : All Seen) (fs : List Frame) (cs : List Call) → MayHave p c fs cs → line plan barrier n t c ≡ line plan barrier n t (with_kept fs cs c)
  shown_line n t c fs cs m = ap (λ u. decimal (place_by plan barrier u t).line) (turn_same p plan barrier through n t c fs cs m)

  word_alike : (s r : CallState) (ms : List Move) → is_call_over s ≡ true → is_call_over r ≡ true → call_word plan barrier s ms ≡ call_word plan barrier r ms
  word_alike Done Done ms h g = refl
  word_alike Done Cancelled ms h g = refl
  word_alike Cancelled Done ms h g = refl
  word_alike Cancelled Cancelled ms h g = refl
  word_alike Queued r ms h g = true_is_not_false (sym h)
  word_alike Selected r ms h g = true_is_not_false (sym h)
  word_alike Done Queued ms h g = true_is_not_false (sym g)
  word_alike Done Selected ms h g = true_is_not_false (sym g)
  word_alike Cancelled Queued ms h g = true_is_not_false (sym g)
  word_alike Cancelled Selected ms h g = true_is_not_false (sym g)

  word_by : (b : Bool) (status : Status) (n : ℕ) (t : TaskAt Seen) (c : All Seen) (fs : List Frame) (cs : List Call) → MayHave p c fs cs → status_by plan barrier b status n t c ≡ status_by plan barrier b status n t (with_kept fs cs c)
  word_by b Completed n t c fs cs m = refl
  word_by b Terminated n t c fs cs m = refl
  word_by b Created n t c fs cs m = refl
  word_by true Running n t c fs cs m = refl
  word_by true Activating n t c fs cs m = refl
  word_by true Accepting n t c fs cs m = refl
  word_by true Delaying n t c fs cs m = refl
  word_by true Calling n t c fs cs m = refl
  word_by false Running n t c fs cs m =
      ap (λ u. running_word plan barrier (turn_leaves plan barrier u t.own) (turn_moves plan barrier (turn plan barrier n t c) n c)) (turn_same p plan barrier through n t c fs cs m)
      ∙ ap (running_word plan barrier (turn_leaves plan barrier (turn plan barrier n t (with_kept fs cs c)) t.own)) (task_moves_same p plan barrier through n t c fs cs m)
  word_by false Activating n t c fs cs m = refl
  word_by false Accepting n t c fs cs m = refl
  word_by false Delaying n t c fs cs m = refl
  word_by false Calling n t c fs cs m =
      told_same p.kept (λ (a : Call). call_word plan barrier a.state (turn_moves plan barrier (turn plan barrier n t c) n c)) (λ a b h g. word_alike a.state b.state (turn_moves plan barrier (turn plan barrier n t c) n c) h g) 0 c.shared.calls cs m.calls t.own.call
      ∙ ap (call_word plan barrier (call_of t.own.call (with_kept fs cs c)).state) (task_moves_same p plan barrier through n t c fs cs m)

  task_lines_same : (n : ℕ) (ts : List (TaskAt Seen)) (c : All Seen) (fs : List Frame) (cs : List Call) → MayHave p c fs cs → task_lines plan barrier n ts c ≡ task_lines plan barrier n ts (with_kept fs cs c)
  task_lines_same n [] c fs cs m = refl
  task_lines_same n (t ∷ ts) c fs cs m =
      ap (λ w. spaced (decimal (suc n)) (spaced t.own.name (spaced (w ++ abnormal_word plan barrier t.own) (line plan barrier n t c))) ∷ task_lines plan barrier (suc n) ts c) (word_by (serves_now plan barrier t.own.serving t.own.opened) t.own.status n t c fs cs m)
      ∙ ap (λ l. spaced (decimal (suc n)) (spaced t.own.name (spaced (status_of plan barrier n t (with_kept fs cs c)) l)) ∷ task_lines plan barrier (suc n) ts c) (shown_line n t c fs cs m)
      ∙ ap (λ ls. spaced (decimal (suc n)) (spaced t.own.name (spaced (status_of plan barrier n t (with_kept fs cs c)) (line plan barrier n t (with_kept fs cs c)))) ∷ ls) (task_lines_same (suc n) ts c fs cs m)

  pub tasks_view_same : (c : All Seen) (fs : List Frame) (cs : List Call) → MayHave p c fs cs → tasks_view plan barrier c ≡ tasks_view plan barrier (with_kept fs cs c)
  tasks_view_same c fs cs m = task_lines_same 0 c.tasks c fs cs m

  of_move : (i : ℕ) (ms : List Move) (t : TaskAt Seen) (u : Turn) (c : All Seen) (fs : List Frame) (cs : List Call) → MayHave p c fs cs → move_lines_of plan barrier i ms t u c ≡ move_lines_of plan barrier i ms t u (with_kept fs cs c)
  of_move i [] t u c fs cs m = refl
  of_move i (x ∷ xs) t u c fs cs m =
      ap (λ l. spaced (decimal i) (spaced (decimal (suc x.task)) (spaced t.own.name (spaced l (word (turn_kind plan barrier u t.own) ++ alternative_word plan barrier x.alternative)))) ∷ move_lines_of plan barrier (suc i) xs t u c) (shown_line x.task t c fs cs m)
      ∙ ap (λ ls. spaced (decimal i) (spaced (decimal (suc x.task)) (spaced t.own.name (spaced (line plan barrier x.task t (with_kept fs cs c)) (word (turn_kind plan barrier u t.own) ++ alternative_word plan barrier x.alternative)))) ∷ ls) (of_move (suc i) xs t u c fs cs m)

  move_lines_same : (i n : ℕ) (ts : List (TaskAt Seen)) (c : All Seen) (fs : List Frame) (cs : List Call) → MayHave p c fs cs → move_lines plan barrier i n ts c ≡ move_lines plan barrier i n ts (with_kept fs cs c)
  move_lines_same i n [] c fs cs m = refl
  move_lines_same i n (t ∷ ts) c fs cs m =
      let e : All Seen = with_kept fs cs c in
      let u = turn plan barrier n t c in
      let v = turn plan barrier n t e in
      let ms = turn_moves plan barrier u n c in
      let ns = turn_moves plan barrier v n e in
      let same : ms ≡ ns = task_moves_same p plan barrier through n t c fs cs m in
      ap (λ xs. move_lines_of plan barrier i xs t u c ++ move_lines plan barrier (i + length xs) (suc n) ts c) same
      ∙ ap (λ w. move_lines_of plan barrier i ns t w c ++ move_lines plan barrier (i + length ns) (suc n) ts c) (turn_same p plan barrier through n t c fs cs m)
      ∙ ap (λ ls. ls ++ move_lines plan barrier (i + length ns) (suc n) ts c) (of_move i ns t v c fs cs m)
      ∙ ap (λ ls. move_lines_of plan barrier i ns t v e ++ ls) (move_lines_same (i + length ns) (suc n) ts c fs cs m)

  enabled_same : (ms : List Move) (c : All Seen) (fs : List Frame) (cs : List Call) → MayHave p c fs cs → moves_by_enabled plan barrier ms c ≡ moves_by_enabled plan barrier ms (with_kept fs cs c)
  enabled_same [] c fs cs m = refl
  enabled_same (x ∷ xs) c fs cs m = move_lines_same 0 0 c.tasks c fs cs m

  pub moves_view_same : (c : All Seen) (fs : List Frame) (cs : List Call) → MayHave p c fs cs → moves_view plan barrier c ≡ moves_view plan barrier (with_kept fs cs c)
  moves_view_same c fs cs m = enabled_same (moves plan barrier c) c fs cs m ∙ ap (λ ms. moves_by_enabled plan barrier ms (with_kept fs cs c)) (moves_same p plan barrier through c fs cs m)

module _ {C : Type 0} (p : Kept) (plan : Plan) (k : Controls C) (through : Looks k) where
  pub tasks_at_same : (c : All C) (fs : List Frame) (cs : List Call) → MayHave p c fs cs → tasks_view plan k.barrier (seen plan k c) ≡ tasks_view plan k.barrier (seen plan k (with_kept fs cs c))
  tasks_at_same c fs cs m = tasks_view_same p plan k.barrier through.barrier (seen plan k c) fs cs (seen_may p plan k through c fs cs m) ∙ ap (tasks_view plan k.barrier) (seen_same p plan k through c fs cs m)

  pub moves_listed_same : (c : All C) (fs : List Frame) (cs : List Call) → MayHave p c fs cs → moves_view plan k.barrier (seen plan k c) ≡ moves_view plan k.barrier (seen plan k (with_kept fs cs c))
  moves_listed_same c fs cs m = moves_view_same p plan k.barrier through.barrier (seen plan k c) fs cs (seen_may p plan k through c fs cs m) ∙ ap (moves_view plan k.barrier) (seen_same p plan k through c fs cs m)
