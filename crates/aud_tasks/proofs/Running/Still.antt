-- What comes next of other tasks stays of the same sort while one of them goes on by itself and hinders none: the first move stays, and
-- whether there are others.
use Rattle.std.proofs.Common.{◌≡◌, ◌<◌, ◌+◌, ◌⊎◌, inl, inr, ℕ, zero, suc, List, [], ◌∷◌, Option, Some, None, true, refl, ap, sym, subst, ◌∙◌, slice_get, slice_index_or, arith}
use Rattle.std.proofs.lemmas.Option.{same_Some}
use Rattle.std.specs.Prelude.{IfSome}
use Rattle.aud_typed.specs.Tree.{Plan}
use Rattle.aud_meaning.specs.declared.state.Move.{Move}
use Rattle.aud_meaning.specs.declared.state.Pending.{Pending}
use Rattle.aud_meaning.specs.declared.state.Serving.{Serving}
use Rattle.aud_meaning.specs.declared.state.Status.{Status}
use Rattle.aud_meaning.specs.declared.state.Status.TheVariants.{Created, Running, Activating, Accepting, Delaying, Calling, Completed, Terminated}
use Rattle.aud_meaning.specs.Configuration.{Own, Shared, TaskAt, All}
use Rattle.aud_meaning.specs.Evaluation.{Sight}
use Rattle.aud_meaning.specs.Control.{Coming, Seen, simply, ending, selecting, calling, starting, Controls}
use Rattle.aud_meaning.specs.Statements.{coming_raised}
use Rattle.aud_meaning.specs.Parts.{nobody, owns, own_of, changed, queue, sight_in, sight_of, on_shared, on_task}
use Rattle.aud_meaning.specs.Ties.Part.{Part}
use Rattle.aud_meaning.specs.Tasks.{barrier_of, eligible_from, eligible_if, entries_of}
use Rattle.aud_meaning.specs.Run.{Turn, own_move, seen, seen_from, moves_at, turn, turn_at, turn_moves, shown_place}
use Rattle.aud_code.specs.declared.line.EndLine.{EndLine}
use Rattle.aud_code.specs.declared.line.Ending.TheVariants.{Declare, DeclareArray, Null, Assign, Put, If, While, Loop, Exit, Raise, RaiseAgain, Block, Return, ReturnValue, OwnCall, Call}
use Rattle.aud_code.specs.declared.line.Last.{Last}
use Rattle.aud_code.specs.declared.line.Among.TheVariants as among
use Rattle.aud_code.specs.declared.line.Last.TheVariants.{Does, Concerns, Continues, Guards, Ends, Leaves}
use Rattle.aud_code.specs.Places.{Spot, is_there}
use Rattle.aud_code.specs.Instruction.{Ended, no_operands}
use Rattle.aud_code.specs.Eval.{eval}
use Rattle.aud_code.specs.Flat.{Flat, flat_controls, coming_at, coming_last, handler_at, instructions_at, no_scene}
use Rattle.aud_code.specs.Flat as flat
use Rattle.aud_code.specs.View.{plain_found, plain_last, EndsPlainly}
use Rattle.aud_state.specs.Fast.{stands_so}
use Rattle.aud_state.specs.Reads.{IsPlain}
use Rattle.aud_tasks.specs.Choices.{IsNoStart}
use Rattle.aud_tasks.specs.Turning.{turn_in}
use Rattle.aud_tasks.specs.Running.{AreIdle, BeginsAlone, HindersNone}
use Rattle.aud_tasks.proofs.Running.Moves as moves
use Rattle.aud_tasks.specs.Moving.{moves_of}
use Rattle.aud_tasks.proofs.ViewLaws.Seen.{one_seen, seen_at}
use Rattle.aud_tasks.proofs.Running.Moves.{AreAlike, alike_self, AlikeTasks, elsewhere, left_in, stays, differs, moves_there}

-- whether the step at a place leaves a construct is not a question of what is seen
module _ (Free Other : Type 0) (other : Other) (plan : Plan) (s r : Sight) where
  -- no action is to begin, or all objects are idle
  abbrev IsOpen : Coming → Type 0
  IsOpen x = IsNoStart x ⊎ Free

  last_alike : (last : Last) (x y : Ended) → IsOpen (coming_last plan (plain_last last) s x) → AreAlike Free Other (coming_last plan (plain_last last) s x) (coming_last plan (plain_last last) r y)
  last_alike (Does (Declare up_to again) next) x y h = tt
  last_alike (Does (DeclareArray t n) next) x y h = tt
  last_alike (Does Null next) x y h = tt
  last_alike (Does Assign next) x y h = tt
  last_alike (Does Put next) x y h = tt
  last_alike (Does (If inside) next) x y h = tt
  last_alike (Does (While inside) next) x y h = tt
  last_alike (Does (Loop f inside) next) x y h = tt
  last_alike (Does (Exit w) next) x y h = tt
  last_alike (Does (Raise z) next) x y h = tt
  last_alike (Does RaiseAgain next) x y h = tt
  last_alike (Does (Block region inside) next) x y h = tt
  last_alike (Does (Return w) next) x y h = tt
  last_alike (Does (Call unit) next) x y h = tt
  last_alike (Does (ReturnValue w) next) x y h = tt
  last_alike (Does OwnCall next) x y h = tt
  last_alike (Concerns (among.DeclareTasks ts) next) x y h = tt
  last_alike (Concerns (among.DeclareObject k) next) x y h = tt
  last_alike (Concerns among.Activate next) x y h = tt
  last_alike (Concerns among.Activated next) x y h = tt
  last_alike (Concerns (among.Call entry form otherwise) next) x y h = differs other
  last_alike (Concerns (among.CallObject v entry form otherwise) next) x y (inl none) = absurd none
  last_alike (Concerns (among.CallObject v entry form otherwise) next) x y (inr free) = differs free
  last_alike (Concerns (among.Operation v unit) next) x y (inl none) = absurd none
  last_alike (Concerns (among.Operation v unit) next) x y (inr free) = differs free
  last_alike (Concerns among.Delay next) x y h = tt
  last_alike (Concerns among.Abort next) x y h = tt
  last_alike (Concerns (among.RequeueTask again way) next) x y h = tt
  last_alike (Concerns (among.RequeueObject v again way) next) x y h = tt
  last_alike (Concerns (among.Accept entry region body) next) x y h = tt
  last_alike (Concerns (among.Select has_else own offers) next) x y h = differs other
  last_alike (Continues f behind inside) x y h = tt
  last_alike (Guards gs) x y h = tt
  last_alike (Ends c next) x y h = tt
  last_alike (Leaves n to) x y h = tt

  found_alike : (place : ℕ) (l : Option EndLine) (x y : Ended) → IsOpen (coming_last plan (plain_found place l).last s x) → AreAlike Free Other (coming_last plan (plain_found place l).last s x) (coming_last plan (plain_found place l).last r y)
  found_alike place None x y h = tt
  found_alike place (Some l) x y h = last_alike l.last x y h

  pub comes_alike : (code : Flat) → EndsPlainly code → (pending : Option Pending) (t : Spot) → IsOpen (coming_at code plan pending s t) → AreAlike Free Other (coming_at code plan pending s t) (coming_at code plan pending r t)
  comes_alike code plain None t h =
      let x = eval true (no_scene s) (instructions_at code t.place) 0 no_operands in
      let y = eval true (no_scene r) (instructions_at code t.place) 0 no_operands in
      subst (λ (l : flat.EndLine). IsOpen (coming_last plan l.last s x) → AreAlike Free Other (coming_last plan l.last s x) (coming_last plan l.last r y)) (plain t.place).1 (found_alike t.place (plain t.place).0 x y) h
  comes_alike code plain (Some p) t h = alike_self Free Other (coming_raised (is_there (handler_at code p.exception t)))

no_start_alike : (Free Other : Type 0) (x y : Coming) → AreAlike Free Other x y → IsNoStart x → IsNoStart y
no_start_alike Free Other (simply w) (simply v) h none = tt
no_start_alike Free Other ending ending h none = tt
no_start_alike Free Other (selecting xs) (selecting ys) h none = tt
no_start_alike Free Other (calling t x) (calling u y) h none = tt
no_start_alike Free Other (starting o r) (starting p q) h none = absurd none
no_start_alike Free Other x y h none = subst IsNoStart h none

-- an action of another task is not to begin where it was not
pub still_no_start : (plan : Plan) (code : Flat) → EndsPlainly code → (s r : Sight) (pending : Option Pending) (t : Spot) → IsNoStart (coming_at code plan pending s t) → IsNoStart (coming_at code plan pending r t)
still_no_start plan code plain s r pending t none =
    no_start_alike ⊥ (Unit {0}) (coming_at code plan pending s t) (coming_at code plan pending r t)
    (comes_alike ⊥ (Unit {0}) tt plan s r code plain pending t (inl none)) none

-- Parts of tasks of which one stands elsewhere.

-- a task stays plain where one stands elsewhere
pub plain_there : (p : Part Spot) (m k : ℕ) (ts : List (TaskAt Spot)) → IsPlain (slice_index_or (owns ts) k nobody) → IsPlain (slice_index_or (owns (changed m (stands_so p) ts)) k nobody)
plain_there p m k [] h = h
plain_there p zero zero (t ∷ ts) h = record { runs = h.runs; normal = h.normal; free = h.free; settled = h.settled }
plain_there p zero (suc k) (t ∷ ts) h = h
plain_there p (suc m) zero (t ∷ ts) h = h
plain_there p (suc m) (suc k) (t ∷ ts) h = plain_there p m k ts h

pub here_changed : (p : Part Spot) (n : ℕ) (t : TaskAt Spot) (ts : List (TaskAt Spot)) → slice_get ts n ≡ Some t → slice_get (changed n (stands_so p) ts) n ≡ Some (stands_so p t)
here_changed p n t [] at = absurd cc
here_changed p zero t (x ∷ ts) at = ap (λ (y : TaskAt Spot). Some (stands_so p y)) (same_Some x t at)
here_changed p (suc n) t (x ∷ ts) at = here_changed p n t ts at

-- it has gone on, one step later, and no output was cut
abbrev pub gone_on : ℕ → Part Spot → All Spot → All Spot
gone_on n p c = on_shared (λ s. record s { frames = p.frames; output = p.output }) (on_task n (stands_so p) (record c { steps = suc c.steps }))

pub changed_other : {A : Type 0} (n k : ℕ) (f : A → A) (xs : List A) → ¬ (k ≡ n) → slice_get (changed n f xs) k ≡ slice_get xs k
changed_other n k f [] other = refl
changed_other zero zero f (x ∷ xs) other = absurd (other refl)
changed_other zero (suc k) f (x ∷ xs) other = refl
changed_other (suc n) zero f (x ∷ xs) other = refl
changed_other (suc n) (suc k) f (x ∷ xs) other = changed_other n k f xs (λ is. other (ap suc is))

pub served_all : (serving : Option Serving) → IfSome serving (λ s. Unit {0})
served_all None = tt
served_all (Some s) = tt

module _ (plan : Plan) (code : Flat) where
  abbrev K : Controls Spot
  K = flat_controls plan code

  pub self_seen : (d e : All Seen) (i : ℕ) (ts : List (TaskAt Spot)) (os : List Own) (shared : Shared) → AlikeTasks plan K.barrier d e (λ s. ⊥) (Unit {0}) (λ k. ⊥) (λ k. ⊥) i (seen_from plan K i ts os shared) (seen_from plan K i ts os shared)
  self_seen d e i [] os shared = tt
  self_seen d e i (t ∷ ts) os shared = (
    inl (record {
      unmoved = λ none. none;
      own = refl;
      coming = alike_self ⊥ ⊥ (coming_at code plan t.own.pending (sight_in i os shared) t.control);
      serving = stays (served_all t.own.serving);
    }),
    self_seen d e (suc i) ts os shared,
  )

  pub unchosen_from : (c : All Seen) (choices : List ℕ) (i : ℕ) (es : List ℕ) (object : ℕ) → eligible_from plan K.barrier i es object c ≡ eligible_from plan K.barrier i es object (record c { choices = choices })
  unchosen_from c choices i [] object = refl
  unchosen_from c choices i (e ∷ es) object =
      ap (λ r. eligible_if (queue object e c.shared.calls) (barrier_of plan K.barrier object e c) i r) (unchosen_from c choices (suc i) es object)

  abbrev seen_task : ℕ → TaskAt Spot → List Own → Shared → TaskAt Seen
  seen_task i t os shared = record { control = record { coming = coming_at code plan t.own.pending (sight_in i os shared) t.control; place = shown_place plan K t.own.pending t.control }; own = t.own }

  -- choices decide on no move
  pub moves_unchosen : (c : All Spot) (choices : List ℕ) → moves_at plan K c ≡ moves_at plan K (record c { choices = choices })
  moves_unchosen c choices =
      let d = seen plan K c in
      moves_there plan K.barrier (λ s. ⊥) (Unit {0}) (λ k. ⊥) d (λ none. absurd none) d.tasks (left_in c.shared) choices c.steps (λ all object. unchosen_from d choices 1 (entries_of plan K.barrier object d) object) (self_seen d (elsewhere d.tasks (left_in c.shared) choices c.steps d) 0 c.tasks (owns c.tasks) c.shared)

  -- A task that has moved.

  seen_here : (n : ℕ) (c : All Spot) (t : TaskAt Spot) → slice_get c.tasks n ≡ Some t → slice_get (seen plan K c).tasks n ≡ Some (seen_task n t (owns c.tasks) c.shared)
  seen_here n c t at = seen_at plan code 0 n n c.tasks (owns c.tasks) c.shared (omega arith) ∙ ap (one_seen plan code n (owns c.tasks) c.shared) at

  abbrev turn_here : ℕ → All Spot → TaskAt Spot → Turn
  turn_here n c t = turn plan K.barrier n (seen_task n t (owns c.tasks) c.shared) (seen plan K c)

  turn_so : (n : ℕ) (c : All Spot) (t : TaskAt Spot) → slice_get c.tasks n ≡ Some t → turn_in plan code n c ≡ turn_here n c t
  turn_so n c t at = ap (λ o. turn_at plan K.barrier o n (seen plan K c)) (seen_here n c t at)

  moves_so : (n : ℕ) (c : All Spot) (t : TaskAt Spot) → slice_get c.tasks n ≡ Some t → turn_moves plan K.barrier (turn_here n c t) n (seen plan K c) ≡ moves_of plan code n c
  moves_so n c t at = ap (λ u. turn_moves plan K.barrier u n (seen plan K c)) (sym (turn_so n c t at))

  -- with the same moves, where it has gone on
  pub moved_by : (n : ℕ) (p : Part Spot) (c : All Spot) (t : TaskAt Spot) → slice_get c.tasks n ≡ Some t → moves_of plan code n c ≡ own_move n ∷ [] → moves_of plan code n (gone_on n p c) ≡ own_move n ∷ [] →
      moves.MovedTask plan K.barrier (seen plan K c) (seen plan K (gone_on n p c)) n (seen_task n t (owns c.tasks) c.shared) (seen_task n (stands_so p t) (owns (gone_on n p c).tasks) (gone_on n p c).shared)
  moved_by n p c t at only_here only_there =
      let gone = gone_on n p c in
      let after : slice_get gone.tasks n ≡ Some (stands_so p t) = here_changed p n t c.tasks at in
      record {
        own = refl;
        moves = moves_so n c t at ∙ only_here ∙ sym only_there ∙ sym (moves_so n gone (stands_so p t) after);
      }

  -- objects are idle where a task that is to begin an action runs
  abbrev IfRunning : (Idle : Type 0) → Status → Type 0
  IfRunning Idle status = status ≡ Running → Idle

  module _ (Idle : Type 0) (plain : EndsPlainly code) (d e : All Seen) (os rs : List Own) (sh th : Shared) (of : ℕ) where
    abbrev Alike : ℕ → List (TaskAt Seen) → List (TaskAt Seen) → Type 0
    Alike i ts us = AlikeTasks plan K.barrier d e (IfRunning Idle) ⊥ (λ k. ¬ (k ≡ of)) (λ k. k ≡ of) i ts us

    -- another task is not to begin an action, or all objects are idle
    abbrev IsOpenTo : ℕ → TaskAt Spot → Type 0
    IsOpenTo i t = ¬ (i ≡ of) → IsNoStart (coming_at code plan t.own.pending (sight_in i os sh) t.control) ⊎ IfRunning Idle t.own.status

    abbrev AreOpen : ℕ → List (TaskAt Spot) → Type 0
    AreOpen i [] = Unit {0}
    AreOpen i (t ∷ ts) = IsOpenTo i t × AreOpen (suc i) ts

    open_each : (i : ℕ) (ts : List (TaskAt Spot)) → ((k j : ℕ) (t : TaskAt Spot) → k ≡ i + j → slice_get ts j ≡ Some t → IsOpenTo k t) → AreOpen i ts
    open_each i [] h = tt
    open_each i (t ∷ ts) h = (h i 0 t (omega arith) refl, open_each (suc i) ts (λ k j u is at. h k (suc j) u (omega (arith, is)) at))

    other_seen : (i : ℕ) (t : TaskAt Spot) → ¬ (i ≡ of) → IsOpenTo i t → moves.AlikeTask (IfRunning Idle) ⊥ (¬ (i ≡ of)) (i ≡ of) (seen_task i t os sh) (seen_task i t rs th)
    other_seen i t other opens = record {
      unmoved = other;
      own = refl;
      coming = comes_alike (IfRunning Idle t.own.status) (¬ (i ≡ of)) other plan (sight_in i os sh) (sight_in i rs th) code plain t.own.pending t.control (opens other);
      serving = differs other;
    }

    -- those behind it
    others_seen : (i : ℕ) (ts : List (TaskAt Spot)) → of < i → AreOpen i ts → Alike i (seen_from plan K i ts os sh) (seen_from plan K i ts rs th)
    others_seen i [] past opens = tt
    others_seen i (t ∷ ts) past opens = (inl (other_seen i t (λ is. omega (arith, is, past)) opens.0), others_seen (suc i) ts (omega (arith, past)) opens.1)

    -- it has moved, with the same moves
    abbrev pub MovedThere : ℕ → TaskAt Spot → Part Spot → Type 0
    MovedThere i t p = moves.MovedTask plan K.barrier d e i (seen_task i t os sh) (seen_task i (stands_so p t) rs th)

    all_seen : (n i : ℕ) (ts : List (TaskAt Spot)) (t : TaskAt Spot) (p : Part Spot) → i + n ≡ of → slice_get ts n ≡ Some t → MovedThere of t p → AreOpen i ts → Alike i (seen_from plan K i ts os sh) (seen_from plan K i (changed n (stands_so p) ts) rs th)
    all_seen n i [] t p at is moved opens = tt
    all_seen zero i (x ∷ ts) t p at is moved opens =
        let here : i ≡ of = omega (arith, at) in (
          inr (here, subst (λ k. MovedThere k x p) (sym here) (subst (λ (y : TaskAt Spot). MovedThere of y p) (sym (same_Some x t is)) moved)),
          others_seen (suc i) ts (omega (arith, at)) opens.1,
        )
    all_seen (suc n) i (x ∷ ts) t p at is moved opens = (
      inl (other_seen i x (λ here. omega (arith, here, at)) opens.0),
      all_seen n (suc i) ts t p (omega (arith, at)) is moved opens.1,
    )

  -- its move is still the first one where it has gone on so, and alone where it was alone
  module _ (plain : EndsPlainly code) (c : All Spot) (n : ℕ) (hinders : HindersNone plan code n c) (t : TaskAt Spot) (p : Part Spot) (at : slice_get c.tasks n ≡ Some t) (own_plain : IsPlain (own_of n c)) (only_here : moves_of plan code n c ≡ own_move n ∷ []) (only_there : moves_of plan code n (gone_on n p c) ≡ own_move n ∷ []) where
    abbrev gone : All Spot
    gone = gone_on n p c

    is_open : HindersNone plan code n c → (k : ℕ) (x : TaskAt Spot) → slice_get c.tasks k ≡ Some x → ¬ (k ≡ n) → (status : Status) → x.own.status ≡ status →
        IsNoStart (coming_at code plan x.own.pending (sight_of k c) x.control) ⊎ (status ≡ Running → AreIdle c)
    is_open (inl idle) k x there other status is = inr (λ runs. idle)
    is_open (inr alone) k x there other Running is = inl (alone k x there other is)
    is_open (inr alone) k x there other Created is = inr (λ runs. absurd cc)
    is_open (inr alone) k x there other Activating is = inr (λ runs. absurd cc)
    is_open (inr alone) k x there other Accepting is = inr (λ runs. absurd cc)
    is_open (inr alone) k x there other Delaying is = inr (λ runs. absurd cc)
    is_open (inr alone) k x there other Calling is = inr (λ runs. absurd cc)
    is_open (inr alone) k x there other Completed is = inr (λ runs. absurd cc)
    is_open (inr alone) k x there other Terminated is = inr (λ runs. absurd cc)

    pub plain_gone : IsPlain (own_of n gone)
    plain_gone = plain_there p n n c.tasks own_plain

    moved : MovedThere (AreIdle c) plain (seen plan K c) (seen plan K gone) (owns c.tasks) (owns gone.tasks) c.shared gone.shared n n t p
    moved = moved_by n p c t at only_here only_there

    alike_gone : AlikeTasks plan K.barrier (seen plan K c) (seen plan K gone) (IfRunning (AreIdle c)) ⊥ (λ k. ¬ (k ≡ n)) (λ k. k ≡ n) 0 (seen plan K c).tasks (seen plan K gone).tasks
    alike_gone =
        all_seen (AreIdle c) plain (seen plan K c) (seen plan K gone) (owns c.tasks) (owns gone.tasks) c.shared gone.shared n n 0 c.tasks t p (omega arith) at moved
        (open_each (AreIdle c) plain (seen plan K c) (seen plan K gone) (owns c.tasks) (owns gone.tasks) c.shared gone.shared n 0 c.tasks (λ k j x is there other.
        is_open hinders k x (let same : k ≡ j = omega (arith, is) in ap (slice_get c.tasks) same ∙ there) other x.own.status refl))

    pub first_still : (others : List Move) → moves_at plan K c ≡ own_move n ∷ others → (more : List Move) × (moves_at plan K gone ≡ own_move n ∷ more) × (others ≡ [] → more ≡ [])
    first_still others first = moves.first_still plan K.barrier (IfRunning (AreIdle c)) ⊥ (λ k. k ≡ n) n (seen plan K c) (λ idle. idle refl) (seen plan K gone).tasks (left_in gone.shared) c.choices (suc c.steps) (λ none. absurd none) alike_gone others first

    -- and it hinders none still
    still_alone : BeginsAlone plan code n c → BeginsAlone plan code n gone
    still_alone alone k x there other runs =
        still_no_start plan code plain (sight_of k c) (sight_of k gone) x.own.pending x.control
        (alone k x (sym (changed_other n k (stands_so p) c.tasks other) ∙ there) other runs)

    hinders_by : HindersNone plan code n c → HindersNone plan code n gone
    hinders_by (inl idle) = inl idle
    hinders_by (inr alone) = inr (still_alone alone)

    pub hinders_still : HindersNone plan code n gone
    hinders_still = hinders_by hinders
