-- What is shown of a machine is what is shown of its program.
use Rattle.std.proofs.Common.{◌≡◌, ℕ, suc, List, [], ◌∷◌, ◌++◌, slice_index_or, Result, Bool, true, false, refl, sym, ap, ◌∙◌}
use Rattle.std.specs.Prelude.{◌||◌, codes, nat_eq, reverse}
use Rattle.std.proofs.Math.Path.{fun_ext}
use Rattle.aud_text.specs.declared.limits.Limits.{Limits}
use Rattle.aud_text.specs.declared.raise.Raise.{Raise}
use Rattle.aud_typed.specs.declared.program.Program.{Program}
use Rattle.aud_typed.specs.Ties.View.{plain_program}
use Rattle.aud_typed.specs.Tree as tree
use Rattle.aud_meaning.specs.declared.state.State.{State}
use Rattle.aud_meaning.specs.Configuration.{Opened, Own, Object, Shared, TaskAt, All, Configuration}
use Rattle.aud_meaning.specs.Control.{Controls, Seen}
use Rattle.aud_meaning.specs.Evaluation.{Sight}
use Rattle.aud_meaning.specs.Statements.{controls}
use Rattle.aud_meaning.specs.Parts.{any, nobody, owns, facts_in, object_of, object_plan, entry_plan, Waiting, queue}
use Rattle.aud_meaning.specs.Run.{seen, seen_from, state_at}
use Rattle.aud_meaning.specs.Tasks.{barrier_of}
use Rattle.aud_meaning.specs.Listings.{View, spaced, opened_lines, vars, callers, queue_lines, entries_by, task_queues, object_queues, queues, tasks_view, moves_view, view, view_at}
use Rattle.aud_meaning.specs.Listings.Objects.{action_words, barrier_lines, barrier_word, component_lines, is_open, lines_if_open, object_lines, objects_view, part_around}
use Rattle.aud_meaning.specs.Listings.Waits.{waits_view}
use Rattle.std.specs.Fmt.{decimal}
use Rattle.aud_code.specs.Places.{Spot}
use Rattle.aud_code.specs.Flat.{Flat, flat_controls}
use Rattle.aud_layout.specs.Assembly.{flat_program}
use Rattle.aud_layout.specs.Law.{flat}
use Rattle.aud_layout.specs.Law as code
use Rattle.aud_layout.proofs.Flat.Laws.{agreement_law, seen_law, state_law}
use Rattle.aud_over.proofs.Coding.{code_looks}
use Rattle.aud_over.proofs.Left.{view_left}
use Rattle.aud_machine.specs.Shows.{Shows}
use Rattle.aud_machine.proofs.Bridges.{owns_seen}

module _ (plan : tree.Plan) where
  abbrev with_line : List ℕ → List ℕ → ℕ → ℕ → List Waiting → List (List ℕ) → List (List ℕ)
  with_line what name n e [] rest = rest
  with_line what name n e (w ∷ ws) rest = spaced what (spaced (decimal (suc n)) (name ++ 46 ∷ ((entry_plan plan e).name ++ 58 ∷ callers (w ∷ ws)))) ∷ rest

  abbrev barrier_line : ℕ → tree.ObjectPlan → ℕ → Result Bool Raise → List ℕ
  barrier_line n d e b = spaced (decimal (suc n)) (spaced (d.name ++ 46 ∷ (entry_plan plan e).name) (barrier_word b))

  -- all that is shown, from what is seen
  abbrev view_by : (ℕ → Sight → Result Bool Raise) → All Seen → State → List (List ℕ) → (ℕ → List (List ℕ)) → List (List ℕ) → View
  view_by barrier s state waiting variables objects = record {
    tasks = tasks_view plan barrier s;
    queues = waiting;
    vars = variables;
    moves = moves_view plan barrier s;
    objects = objects;
    waits = waits_view plan barrier s;
    clock = s.clock;
    output = s.shared.output;
    state = state;
  }

  abbrev view_of : (ℕ → Sight → Result Bool Raise) → All Seen → State → View
  view_of barrier s state = view_by barrier s state (queues plan s) (λ n. vars plan n s) (objects_view plan barrier s)

abbrev opens : ℕ → Own → Bool
opens frame own = any (λ (o : Opened). nat_eq o.frame frame) own.opened

any_own : {C : Type 0} (g : Own → Bool) (ts : List (TaskAt C)) → any (λ (t : TaskAt C). g t.own) ts ≡ any g (owns ts)
any_own g [] = refl
any_own g (t ∷ ts) = ap (λ b. g t.own || b) (any_own g ts)

-- Variables, queues and objects depend on what is seen alone.
module _ {C : Type 0} (plan : tree.Plan) (k : Controls C) where
  vars_seen : (n : ℕ) (c : All C) → vars plan n (seen plan k c) ≡ vars plan n c
  vars_seen n c =
      ap (λ (os : List Own). opened_lines plan 1 (reverse (slice_index_or os n nobody).opened) c.shared.frames) (owns_seen plan k 0 c.tasks (owns c.tasks) c.shared)

  lines_seen : (what name : List ℕ) (n : ℕ) (es : List ℕ) (c : All C) → queue_lines plan what name n es (seen plan k c) ≡ queue_lines plan what name n es c
  lines_seen what name n [] c = refl
  lines_seen what name n (e ∷ es) c = ap (with_line plan what name n e (queue n e c.shared.calls)) (lines_seen what name n es c)

  tasks_seen : (n i : ℕ) (ts : List (TaskAt C)) (os : List Own) (s : Shared) (c : All C) → task_queues plan n (seen_from plan k i ts os s) (seen plan k c) ≡ task_queues plan n ts c
  tasks_seen n i [] os s c = refl
  tasks_seen n i (t ∷ ts) os s c =
      let es = entries_by plan t.own.task_type in
      ap (λ xs. xs ++ task_queues plan (suc n) (seen_from plan k (suc i) ts os s) (seen plan k c)) (lines_seen (codes "task") t.own.name n es c)
      ∙ ap (λ xs. queue_lines plan (codes "task") t.own.name n es c ++ xs) (tasks_seen (suc n) (suc i) ts os s c)

  objects_seen : (n : ℕ) (os : List Object) (c : All C) → object_queues plan n os (seen plan k c) ≡ object_queues plan n os c
  objects_seen n [] c = refl
  objects_seen n (o ∷ os) c =
      let declared = object_plan plan o.declaration in
      ap (λ xs. xs ++ object_queues plan (suc n) os (seen plan k c)) (lines_seen (codes "object") declared.name n declared.entries c)
      ∙ ap (λ xs. queue_lines plan (codes "object") declared.name n declared.entries c ++ xs) (objects_seen (suc n) os c)

  queues_seen : (c : All C) → queues plan (seen plan k c) ≡ queues plan c
  queues_seen c =
      ap (λ xs. xs ++ object_queues plan 0 c.shared.objects (seen plan k c)) (tasks_seen 0 0 c.tasks (owns c.tasks) c.shared c)
      ∙ ap (λ xs. task_queues plan 0 c.tasks c ++ xs) (objects_seen 0 c.shared.objects c)

  open_seen : (frame : ℕ) (c : All C) → is_open frame (seen plan k c) ≡ is_open frame c
  open_seen frame c =
      any_own (opens frame) (seen plan k c).tasks
      ∙ ap (any (opens frame)) (owns_seen plan k 0 c.tasks (owns c.tasks) c.shared)
      ∙ sym (any_own (opens frame) c.tasks)

  barrier_seen : (n e : ℕ) (c : All C) → barrier_of plan k.barrier n e (seen plan k c) ≡ barrier_of plan k.barrier n e c
  barrier_seen n e c =
      ap (λ (os : List Own). k.barrier e (record { display = (object_of n c).display; frames = c.shared.frames; facts = facts_in os c.shared.calls })) (owns_seen plan k 0 c.tasks (owns c.tasks) c.shared)

  barriers_seen : (n : ℕ) (d : tree.ObjectPlan) (es : List ℕ) (c : All C) → barrier_lines plan k.barrier n d es (seen plan k c) ≡ barrier_lines plan k.barrier n d es c
  barriers_seen n d [] c = refl
  barriers_seen n d (e ∷ es) c =
      ap (λ b. barrier_line plan n d e b ∷ barrier_lines plan k.barrier n d es (seen plan k c)) (barrier_seen n e c)
      ∙ ap (λ ls. barrier_line plan n d e (barrier_of plan k.barrier n e c) ∷ ls) (barriers_seen n d es c)

  if_open_seen : (there : Bool) (n : ℕ) (d : tree.ObjectPlan) (o : Object) (c : All C) → lines_if_open plan k.barrier there n d o (seen plan k c) ≡ lines_if_open plan k.barrier there n d o c
  if_open_seen false n d o c = refl
  if_open_seen true n d o c =
      ap (λ ls. spaced (decimal (suc n)) (d.name ++ action_words o.actions) ∷ (component_lines n d o c.shared.frames ++ ls)) (barriers_seen n d d.entries c)

  shown_objects_seen : (n : ℕ) (os : List Object) (c : All C) → object_lines plan k.barrier n os (seen plan k c) ≡ object_lines plan k.barrier n os c
  shown_objects_seen n [] c = refl
  shown_objects_seen n (o ∷ os) c =
      let d = object_plan plan o.declaration in
      ap (λ b. lines_if_open plan k.barrier b n d o (seen plan k c) ++ object_lines plan k.barrier (suc n) os (seen plan k c)) (open_seen (part_around d o) c)
      ∙ ap (λ ls. ls ++ object_lines plan k.barrier (suc n) os (seen plan k c)) (if_open_seen (is_open (part_around d o) c) n d o c)
      ∙ ap (λ ls. lines_if_open plan k.barrier (is_open (part_around d o) c) n d o c ++ ls) (shown_objects_seen (suc n) os c)

  view_seen : (c : All C) → view_of plan k.barrier (seen plan k c) (state_at plan k c) ≡ view_at plan k c
  view_seen c =
      ap (λ q. view_by plan k.barrier (seen plan k c) (state_at plan k c) q (λ n. vars plan n (seen plan k c)) (objects_view plan k.barrier (seen plan k c))) (queues_seen c)
      ∙ ap (λ vs. view_by plan k.barrier (seen plan k c) (state_at plan k c) (queues plan c) vs (objects_view plan k.barrier (seen plan k c))) (fun_ext (λ n. vars_seen n c))
      ∙ ap (view_by plan k.barrier (seen plan k c) (state_at plan k c) (queues plan c) (λ n. vars plan n c)) (shown_objects_seen 0 c.shared.objects c)

-- What code under way shows is what its program does.
agreed : (program : tree.Program) (m : All Spot) (c : Configuration) → code.Shows program m c → view_at program.plan (flat program) m ≡ view program c
agreed program m c h =
    let there = seen program.plan (controls program) c in
    sym (view_seen program.plan (flat program) m)
    ∙ ap (λ s. view_of program.plan (flat program).barrier s (state_at program.plan (flat program) m)) (seen_law program m c h)
    ∙ ap (λ b. view_of program.plan b there (state_at program.plan (flat program) m)) (agreement_law program).barrier
    ∙ ap (view_of program.plan (controls program).barrier there) (state_law program m c h)
    ∙ view_seen program.plan (controls program) c

-- and so is what a machine shows
pub view_shown : (p : Program) (lines : Flat) (is : lines ≡ flat_program (plain_program p)) (limits : Limits) (spent : Bool) (m : All Spot) (c : Configuration) → Shows (record { program = p; code = lines; limits = limits; all = m; spent = spent }) c →
    view_at (plain_program p).plan (flat_controls (plain_program p).plan lines) m ≡ view (plain_program p) c
view_shown p lines is limits spent m c h =
    let plan = (plain_program p).plan in
    sym (view_left plan (flat_controls plan lines) (code_looks plan lines) h.through m h.left)
    ∙ ap (λ x. view_at plan (flat_controls plan x) h.through) is
    ∙ agreed (plain_program p) h.through c h.all
