-- Moves that stay, where what comes next of each task is of the same sort. Those of other tasks at a select or a call, or that service
-- an object, may differ, since guards, names and barriers depend on variables; then they have some moves all the same.
use Rattle.std.proofs.Common.{◌≡◌, ◌+◌, ◌⊎◌, inl, inr, ℕ, zero, suc, List, [], ◌∷◌, ◌++◌, drop, Option, Some, None, Bool, true, false, not, ◌&&◌, ◌||◌, if◌then◌else◌, map, refl, ap, sym, subst, ◌∙◌, arith}
use Rattle.std.proofs.lemmas.Option.{same_Some}
use Rattle.std.specs.Prelude.{Result, Ok, Err, IfSome, filter, is_some, nat_le, slice_get, slice_index_or}
use Rattle.aud_text.specs.declared.raise.Raise.{Raise}
use Rattle.aud_typed.specs.Tree.{Plan}
use Rattle.aud_meaning.specs.declared.state.Move.{Move}
use Rattle.aud_meaning.specs.declared.state.Status.{Status}
use Rattle.aud_meaning.specs.declared.state.Status.TheVariants.{Created, Running, Activating, Accepting, Delaying, Calling, Completed, Terminated}
use Rattle.aud_meaning.specs.declared.state.Owner.{Owner}
use Rattle.aud_meaning.specs.declared.state.Owner.TheVariants as owner
use Rattle.aud_meaning.specs.declared.state.Serving.{Serving}
use Rattle.aud_meaning.specs.declared.state.Action.{Action}
use Rattle.aud_meaning.specs.declared.state.Restart.{Restart}
use Rattle.aud_meaning.specs.Configuration.{Call, Frame, Object, Own, Shared, TaskAt, All}
use Rattle.aud_meaning.specs.Evaluation.{Sight}
use Rattle.aud_meaning.specs.Control.{Seen, Coming, simply, ending, selecting, calling, starting}
use Rattle.aud_meaning.specs.Parts.{nobody, in_the_way, is_idle, object_of, own_of, call_of, is_queued, owns, any, depends, may_terminate, Closable, body_master, in_action, open_alternatives}
use Rattle.aud_meaning.specs.Tasks.{eligible}
use Rattle.aud_meaning.specs.Run.{Turn, own_move, only, owner_idle, call_time_by, call_time, end_moves, call_moves, ending_moves, each_or_one, alternatives_of, has_queue, acting_moves, again_left, master_left_by, construct_left, is_leave, is_bound, Deferred, at_once, serve_moves, running, usual, under_way, turn_by, turn, turn_moves, moves_from, has_ended, moves_by, moves}
use Rattle.aud_tasks.proofs.Running.Whose.{AreOf, moves_of}

-- the same in both, or of a task of which it may differ
pub data SameOr (Other Same : Type 0) : Type 0 where
  stays : Same → SameOr Other Same
  differs : Other → SameOr Other Same

-- what comes next is of the same sort in both: both leave a construct, or neither does. What is open in a select, and who is called,
-- may differ of some tasks; which object is called, where all are idle
abbrev pub AreAlike : (Free Other : Type 0) → Coming → Coming → Type 0
AreAlike Free Other (simply w) (simply v) = Unit {0}
AreAlike Free Other ending ending = Unit {0}
AreAlike Free Other (selecting xs) (selecting ys) = SameOr Other (xs ≡ ys)
AreAlike Free Other (calling t x) (calling u y) = SameOr Other ((t ≡ u) × (x ≡ y))
AreAlike Free Other (starting o r) (starting p q) = SameOr Free ((o ≡ p) × (r ≡ q))
AreAlike Free Other x y = x ≡ y

pub alike_self : (Free Other : Type 0) (x : Coming) → AreAlike Free Other x x
alike_self Free Other (simply w) = tt
alike_self Free Other ending = tt
alike_self Free Other (selecting xs) = stays refl
alike_self Free Other (calling t x) = stays (refl, refl)
alike_self Free Other (starting object reading) = stays (refl, refl)

-- whatever it services, those that are eligible are the same in both, or may differ of it
abbrev pub ServesSame : (Served Other : Type 0) → Option Serving → Type 0
ServesSame Served Other serving = SameOr Other (IfSome serving (λ s. Served))

-- what is left of a task's own besides what is pending and its open frames
abbrev pub bare : Own → Own
bare own = record own { pending = None; display = []; opened = [] }

abbrev pub bares : {C : Type 0} → List (TaskAt C) → List Own
bares [] = []
bares (t ∷ ts) = bare t.own ∷ bares ts

-- The same task, elsewhere in its code. Free is what makes objects idle, where the task's status lets it begin an action.
pub record AlikeTask (Free : Status → Type 0) (Served Other Moved : Type 0) (t u : TaskAt Seen) : Type 0 where
  pub unmoved : Moved → ⊥
  pub own : t.own ≡ u.own
  pub coming : AreAlike (Free t.own.status) Other t.control.coming u.control.coming
  pub serving : ServesSame Served Other t.own.serving

module _ (plan : Plan) (barrier : ℕ → Sight → Result Bool Raise) (d e : All Seen) where
  -- one that has moved: its open frames and what is pending of it may differ, and its moves do not
  pub record MovedTask (n : ℕ) (t u : TaskAt Seen) : Type 0 where
    pub own : bare t.own ≡ bare u.own
    pub moves : turn_moves plan barrier (turn plan barrier n t d) n d ≡ turn_moves plan barrier (turn plan barrier n u e) n e

  -- from a number on
  abbrev pub AlikeTasks : (Status → Type 0) → (Served : Type 0) → (Other Moved : ℕ → Type 0) → ℕ → List (TaskAt Seen) → List (TaskAt Seen) → Type 0
  AlikeTasks Free Served Other Moved n [] [] = Unit {0}
  AlikeTasks Free Served Other Moved n (t ∷ ts) (u ∷ us) = (AlikeTask Free Served (Other n) (Moved n) t u ⊎ (Moved n × MovedTask n t u)) × AlikeTasks Free Served Other Moved (suc n) ts us
  AlikeTasks Free Served Other Moved n ts us = ⊥

  bare_same : (Free : Status → Type 0) (Served Other Moved : Type 0) (n : ℕ) (t u : TaskAt Seen) → AlikeTask Free Served Other Moved t u ⊎ (Moved × MovedTask n t u) → bare t.own ≡ bare u.own
  bare_same Free Served Other Moved n t u (inl h) = ap bare h.own
  bare_same Free Served Other Moved n t u (inr h) = h.1.own

  pub bares_alike : (Free : Status → Type 0) (Served : Type 0) (Other Moved : ℕ → Type 0) (n : ℕ) (ts us : List (TaskAt Seen)) → AlikeTasks Free Served Other Moved n ts us → bares ts ≡ bares us
  bares_alike Free Served Other Moved n [] [] h = refl
  bares_alike Free Served Other Moved n [] (u ∷ us) h = absurd h
  bares_alike Free Served Other Moved n (t ∷ ts) [] h = absurd h
  bares_alike Free Served Other Moved n (t ∷ ts) (u ∷ us) h =
      ap (λ o. o ∷ bares ts) (bare_same Free Served (Other n) (Moved n) n t u h.0) ∙ ap (λ os. bare u.own ∷ os) (bares_alike Free Served Other Moved (suc n) ts us h.1)

  -- the own part of the task of a number
  abbrev pub own_in : ℕ → List (TaskAt Seen) → Own
  own_in k ts = slice_index_or (owns ts) k nobody

  own_same : (Free : Status → Type 0) (Served Other Moved : Type 0) (n : ℕ) (t u : TaskAt Seen) → AlikeTask Free Served Other Moved t u ⊎ (Moved × MovedTask n t u) → (t.own ≡ u.own) ⊎ Moved
  own_same Free Served Other Moved n t u (inl h) = inl h.own
  own_same Free Served Other Moved n t u (inr h) = inr h.0

  pub own_alike : (Free : Status → Type 0) (Served : Type 0) (Other Moved : ℕ → Type 0) (n i k : ℕ) (ts us : List (TaskAt Seen)) → n + i ≡ k → AlikeTasks Free Served Other Moved n ts us → (own_in i ts ≡ own_in i us) ⊎ Moved k
  own_alike Free Served Other Moved n i k [] [] is h = inl refl
  own_alike Free Served Other Moved n i k [] (u ∷ us) is h = absurd h
  own_alike Free Served Other Moved n i k (t ∷ ts) [] is h = absurd h
  own_alike Free Served Other Moved n zero k (t ∷ ts) (u ∷ us) is h =
      let same : n ≡ k = omega (arith, is) in
      subst (λ m. (t.own ≡ u.own) ⊎ Moved m) same (own_same Free Served (Other n) (Moved n) n t u h.0)
  own_alike Free Served Other Moved n (suc i) k (t ∷ ts) (u ∷ us) is h = own_alike Free Served Other Moved (suc n) i k ts us (omega (arith, is)) h.1

bare_at : (k : ℕ) (ts : List (TaskAt Seen)) → bare (slice_index_or (owns ts) k nobody) ≡ slice_index_or (bares ts) k nobody
bare_at k [] = refl
bare_at zero (t ∷ ts) = refl
bare_at (suc k) (t ∷ ts) = bare_at k ts

-- Moves that are the same, or of which both have some.
abbrev pub HasSome : List Move → Type 0
HasSome [] = ⊥
HasSome (m ∷ ms) = Unit {0}

pub data AgreeMoves (Other : Type 0) (ms ns : List Move) : Type 0 where
  same_moves : ms ≡ ns → AgreeMoves Other ms ns
  some_moves : Other → HasSome ms → HasSome ns → AgreeMoves Other ms ns

none_differ : {ms ns : List Move} → AgreeMoves ⊥ ms ns → ms ≡ ns
none_differ (same_moves is) = is
none_differ (some_moves other some there) = absurd other

none_agree : {Other : Type 0} (ms ns : List Move) → AgreeMoves Other ms ns → ms ≡ [] → ns ≡ []
none_agree ms ns (same_moves is) none = sym is ∙ none
none_agree [] ns (some_moves other some there) none = absurd some
none_agree (m ∷ ms) ns (some_moves other some there) none = absurd cc

none_before : (ms ns : List Move) → ms ++ ns ≡ [] → ms ≡ []
none_before [] ns h = refl
none_before (m ∷ ms) ns h = absurd cc

none_after : (ms ns : List Move) → ms ++ ns ≡ [] → ns ≡ []
none_after [] ns h = h
none_after (m ∷ ms) ns h = absurd cc

head_of : (x y : Move) (xs ys : List Move) → x ∷ xs ≡ y ∷ ys → x ≡ y
head_of x y xs ys h = same_Some x y (ap (λ l. slice_get l 0) h)

tail_of : (x y : Move) (xs ys : List Move) → x ∷ xs ≡ y ∷ ys → xs ≡ ys
tail_of x y xs ys h = ap (drop 1) h

-- whether it keeps a master open
abbrev keeps : ℕ → Own → Bool
keeps master own = depends master own && not (may_terminate own)

any_bares : (master : ℕ) (ts : List (TaskAt Seen)) → any (λ (t : TaskAt Seen). keeps master t.own) ts ≡ any (keeps master) (bares ts)
any_bares master [] = refl
any_bares master (t ∷ ts) = ap (λ b. keeps master t.own || b) (any_bares master ts)

-- what cells hold then, and the output
pub record Left : Type 0 where
  pub frames : List Frame
  pub output : List ℕ

abbrev pub left_in : Shared → Left
left_in shared = record { frames = shared.frames; output = shared.output }

-- with other frames, another output and other choices, after other steps
abbrev pub elsewhere : List (TaskAt Seen) → Left → List ℕ → ℕ → All Seen → All Seen
elsewhere us left choices steps d = record d { tasks = us; shared = record d.shared { frames = left.frames; output = left.output }; choices = choices; steps = steps }

-- no object has an action under way
abbrev pub AreIdle : All Seen → Type 0
AreIdle d = (object : ℕ) → is_idle (object_of object d) ≡ true

-- none is in the way then
free_by : (actions : List Action) (o : Object) (n : ℕ) (reading : Bool) → o.actions ≡ actions → is_idle o ≡ true → in_the_way n reading o ≡ false
free_by [] o n reading are idle = rw are refl
free_by (a ∷ more) o n reading are idle = absurd (let busy : is_idle o ≡ false = rw are refl in cc)

-- the entries of each object that are eligible are the same in both
abbrev pub ServesAlike : Plan → (ℕ → Sight → Result Bool Raise) → All Seen → All Seen → Type 0
ServesAlike plan barrier d e = (object : ℕ) → eligible plan barrier object d ≡ eligible plan barrier object e

-- a task of which something holds has none
abbrev pub Quiet : Plan → (ℕ → Sight → Result Bool Raise) → All Seen → (ℕ → Type 0) → ℕ → List (TaskAt Seen) → Type 0
Quiet plan barrier d Other n [] = Unit {0}
Quiet plan barrier d Other n (t ∷ ts) = (Other n → HasSome (turn_moves plan barrier (turn plan barrier n t d) n d) → ⊥) × Quiet plan barrier d Other (suc n) ts

quiet_same : (Other : Type 0) (ms ns : List Move) → (Other → HasSome ms → ⊥) → AgreeMoves Other ms ns → ms ≡ ns
quiet_same Other ms ns quiet (same_moves is) = is
quiet_same Other ms ns quiet (some_moves other some there) = absurd (quiet other some)

module _ (plan : Plan) (barrier : ℕ → Sight → Result Bool Raise) (Free : Status → Type 0) (Served : Type 0) (d : All Seen) (free : Free Running → AreIdle d) (us : List (TaskAt Seen)) (left : Left) (choices : List ℕ) (steps : ℕ) (serves : Served → ServesAlike plan barrier d (elsewhere us left choices steps d)) (Moved : ℕ → Type 0) (same : bares d.tasks ≡ bares us) (opens : (n : ℕ) → (own_in plan barrier d (elsewhere us left choices steps d) n d.tasks ≡ own_in plan barrier d (elsewhere us left choices steps d) n us) ⊎ Moved n) where
  abbrev e : All Seen
  e = elsewhere us left choices steps d

  closable : (master : ℕ) → Closable master d ≡ Closable master e
  closable master = ap not (any_bares master d.tasks ∙ ap (any (keeps master)) same ∙ sym (any_bares master us))

  bare_there : (n : ℕ) → bare (own_of n d) ≡ bare (own_of n e)
  bare_there n = bare_at n d.tasks ∙ ap (λ os. slice_index_or os n nobody) same ∙ sym (bare_at n us)

  own_there : (n : ℕ) → (Moved n → ⊥) → own_of n d ≡ own_of n e
  own_there n unmoved = by (opens n)
    where
      by : (own_of n d ≡ own_of n e) ⊎ Moved n → own_of n d ≡ own_of n e
      by (inl is) = is
      by (inr moved) = absurd (unmoved moved)

  end_there : (master : Option ℕ) (n : ℕ) → end_moves plan barrier master n d ≡ end_moves plan barrier master n e
  end_there None n = refl
  end_there (Some master) n = ap (λ b. only plan barrier b n) (closable master)

  call_there : (task : Option ℕ) (entry n : ℕ) → call_moves plan barrier task entry n d ≡ call_moves plan barrier task entry n e
  call_there None entry n = refl
  call_there (Some task) entry n = ap (λ (o : Own). each_or_one plan barrier (alternatives_of plan barrier (open_alternatives o entry)) n) (bare_there task)

  ending_there : (again : Option (ℕ × ℕ)) (n : ℕ) → (Moved n → ⊥) → ending_moves plan barrier again n d ≡ ending_moves plan barrier again n e
  ending_there None n unmoved =
      ap (λ (o : Own). end_moves plan barrier (master_left_by (construct_left o)) n d) (own_there n unmoved)
      ∙ end_there (master_left_by (construct_left (own_of n e))) n
  ending_there (Some x) n unmoved = call_there (Some x.0) x.1 n

  coming_there : (x : Coming) (n : ℕ) → (Moved n → ⊥) → acting_moves plan barrier x n d ≡ acting_moves plan barrier x n e
  coming_there (simply w) n unmoved = refl
  coming_there ending n unmoved =
      ap (λ (o : Own). ending_moves plan barrier (again_left o.pending o.again (construct_left o)) n d) (own_there n unmoved)
      ∙ ending_there (again_left (own_of n e).pending (own_of n e).again (construct_left (own_of n e))) n unmoved
  coming_there (selecting ones) n unmoved = refl
  coming_there (calling task entry) n unmoved = call_there task entry n
  coming_there (starting object reading) n unmoved = refl

  each_some : (picked : List ℕ) (n : ℕ) → HasSome (each_or_one plan barrier picked n)
  each_some [] n = tt
  each_some (a ∷ more) n = tt

  call_some : (task : Option ℕ) (entry n : ℕ) (c : All Seen) → HasSome (acting_moves plan barrier (calling task entry) n c)
  call_some None entry n c = tt
  call_some (Some task) entry n c = each_some (alternatives_of plan barrier (open_alternatives (own_of task c) entry)) n

  serve_some : (r : Result (List ℕ) Raise) (n : ℕ) → HasSome (serve_moves plan barrier r n)
  serve_some (Err raise) n = tt
  serve_some (Ok places) n = each_some places n

  -- no action is in the way where all objects are idle
  starts_free : (object : ℕ) (reading : Bool) (n : ℕ) → AreIdle d → acting_moves plan barrier (starting object reading) n d ≡ own_move n ∷ []
  starts_free object reading n idle = ap (λ b. only plan barrier (not b) n) (free_by (object_of object d).actions (object_of object d) n reading refl (idle object))

  alike_there : (Other : Type 0) (x y : Coming) (n : ℕ) → (Moved n → ⊥) → AreAlike (Free Running) Other x y → AgreeMoves Other (acting_moves plan barrier x n d) (acting_moves plan barrier y n e)
  alike_there Other (simply w) (simply v) n unmoved h = same_moves refl
  alike_there Other ending ending n unmoved h = same_moves (coming_there ending n unmoved)
  alike_there Other (selecting xs) (selecting ys) n unmoved (stays h) = same_moves (ap (λ zs. acting_moves plan barrier (selecting zs) n d) h ∙ coming_there (selecting ys) n unmoved)
  alike_there Other (selecting xs) (selecting ys) n unmoved (differs other) =
      some_moves other
      (each_some (alternatives_of plan barrier (filter (has_queue plan barrier n d) xs)) n)
      (each_some (alternatives_of plan barrier (filter (has_queue plan barrier n e) ys)) n)
  alike_there Other (calling t x) (calling u y) n unmoved (stays h) =
      same_moves
      (ap (λ z. acting_moves plan barrier (calling z x) n d) h.0 ∙ ap (λ z. acting_moves plan barrier (calling u z) n d) h.1 ∙ coming_there (calling u y) n unmoved)
  alike_there Other (calling t x) (calling u y) n unmoved (differs other) = some_moves other (call_some t x n d) (call_some u y n e)
  alike_there Other (starting o r) (starting p q) n unmoved (stays h) =
      same_moves
      (ap (λ z. acting_moves plan barrier (starting z r) n d) h.0 ∙ ap (λ z. acting_moves plan barrier (starting p z) n d) h.1 ∙ coming_there (starting p q) n unmoved)
  alike_there Other (starting o r) (starting p q) n unmoved (differs all) =
      same_moves (starts_free o r n (free all) ∙ sym (starts_free p q n (free all)) ∙ coming_there (starting p q) n unmoved)
  alike_there Other x y n unmoved h = same_moves (ap (λ c. acting_moves plan barrier c n d) h ∙ coming_there y n unmoved)

  idle_there : (o : Owner) → owner_idle plan barrier o d ≡ owner_idle plan barrier o e
  idle_there (owner.Task m) = refl
  idle_there (owner.Object m) = refl

  times_there : (call : Call) → call_time plan barrier call d ≡ call_time plan barrier call e
  times_there call = ap (λ b. if is_queued call.state && not call.stays && b then call_time_by call.form else []) (idle_there call.owner)

  abbrev with_own : Seen → Own → TaskAt Seen
  with_own x own = record { control = x; own = own }

  -- both give the same moves, or some
  abbrev SameTurn : (Other : Type 0) (n : ℕ) (u v : Turn) → Type 0
  SameTurn Other n u v = AgreeMoves Other (turn_moves plan barrier u n d) (turn_moves plan barrier v n e)

  module _ (Other : Type 0) (n : ℕ) (x y : Seen) (o : Own) (unmoved : Moved n → ⊥) (alike : AreAlike (Free o.status) Other x.coming y.coming) (served : ServesSame Served Other o.serving) where
    leave_there : (a b : Coming) → AreAlike (Free o.status) Other a b → is_leave a o ≡ is_leave b o
    leave_there (simply w) (simply v) h = refl
    leave_there ending ending h = refl
    leave_there (selecting xs) (selecting ys) h = refl
    leave_there (calling t x) (calling u y) h = refl
    leave_there (starting x r) (starting y q) h = refl
    leave_there a b h = ap (λ c. is_leave c o) h

    bound_there : (status : Status) → is_bound plan barrier status n (with_own x o) d ≡ is_bound plan barrier status n (with_own y o) e
    bound_there Created = refl
    bound_there Running = ap (λ b. is_some o.restart || b) (leave_there x.coming y.coming alike)
    bound_there Activating = refl
    bound_there Accepting = refl
    bound_there Delaying = refl
    bound_there Calling = refl
    bound_there Completed = refl
    bound_there Terminated = refl

    deferred_there : Deferred plan barrier n (with_own x o) d ≡ Deferred plan barrier n (with_own y o) e
    deferred_there = ap (λ b. if in_action n d then true else b) (bound_there o.status)

    abbrev SameUsual : Option Serving → Status → Type 0
    SameUsual serving status = SameTurn Other n (usual plan barrier serving status n (with_own x o) d) (usual plan barrier serving status n (with_own y o) e)

    serving_there : (s : Serving) (status : Status) → ServesSame Served Other (Some s) → SameUsual (Some s) status
    serving_there s status (stays same) = same_moves (ap (λ r. serve_moves plan barrier r n) (serves same s.object))
    serving_there s status (differs other) = some_moves other (serve_some (eligible plan barrier s.object d) n) (serve_some (eligible plan barrier s.object e) n)

    running_there : (again : Option Restart) → AreAlike (Free Running) Other x.coming y.coming → SameTurn Other n (running plan barrier again x.coming) (running plan barrier again y.coming)
    running_there None h = alike_there Other x.coming y.coming n unmoved h
    running_there (Some r) h = same_moves refl

    usual_there : (serving : Option Serving) (status : Status) → AreAlike (Free status) Other x.coming y.coming → ServesSame Served Other serving → SameUsual serving status
    usual_there (Some s) status h same = serving_there s status same
    usual_there None Created h same = same_moves refl
    usual_there None Running h same = running_there o.restart h
    usual_there None Activating h same = same_moves refl
    usual_there None Accepting h same = same_moves refl
    usual_there None Delaying h same = same_moves refl
    usual_there None Calling h same = same_moves (ap (λ times. map (λ time. own_move n) (filter (λ time. nat_le time d.clock) times)) (times_there (call_of o.call d)))
    usual_there None Completed h same = same_moves refl
    usual_there None Terminated h same = same_moves refl

    once_there : (withdraw : Option ℕ) → SameTurn Other n (at_once plan barrier withdraw) (at_once plan barrier withdraw)
    once_there None = same_moves refl
    once_there (Some object) = same_moves refl

    under_there : (abnormal : Bool) → SameTurn Other n (under_way plan barrier abnormal n (with_own x o) d) (under_way plan barrier abnormal n (with_own y o) e)
    under_there false = usual_there o.serving o.status alike served
    under_there true = by (Deferred plan barrier n (with_own x o) d) (Deferred plan barrier n (with_own y o) e) refl refl deferred_there
      where
        by : (b c : Bool) → Deferred plan barrier n (with_own x o) d ≡ b → Deferred plan barrier n (with_own y o) e ≡ c → b ≡ c → SameTurn Other n (under_way plan barrier true n (with_own x o) d) (under_way plan barrier true n (with_own y o) e)
        by true true f g h = rw (f, g) (usual_there o.serving o.status alike served)
        by false false f g h = rw (f, g) (once_there o.withdraw)
        by true false f g h = absurd cc
        by false true f g h = absurd cc

    turn_there : (status : Status) → SameTurn Other n (turn_by plan barrier status n (with_own x o) d) (turn_by plan barrier status n (with_own y o) e)
    turn_there Created = same_moves refl
    turn_there Running = under_there o.abnormal
    turn_there Activating = under_there o.abnormal
    turn_there Accepting = under_there o.abnormal
    turn_there Delaying = under_there o.abnormal
    turn_there Calling = under_there o.abnormal
    turn_there Completed = same_moves (ap (λ (w : Own). only plan barrier (Closable (body_master w) d) n) (own_there n unmoved) ∙ ap (λ b. only plan barrier b n) (closable (body_master (own_of n e))))
    turn_there Terminated = same_moves refl

  abbrev AlikeOrMoved : (Other : Type 0) (n : ℕ) (t u : TaskAt Seen) → Type 0
  AlikeOrMoved Other n t u = AlikeTask Free Served Other (Moved n) t u ⊎ (Moved n × MovedTask plan barrier d e n t u)

  abbrev Alikes : (Other : ℕ → Type 0) (n : ℕ) (ts vs : List (TaskAt Seen)) → Type 0
  Alikes Other n ts vs = AlikeTasks plan barrier d e Free Served Other Moved n ts vs

  -- those of a task, in both
  moves_of_task : (Other : Type 0) (n : ℕ) (t u : TaskAt Seen) → AlikeOrMoved Other n t u → SameTurn Other n (turn plan barrier n t d) (turn plan barrier n u e)
  moves_of_task Other n t u (inl h) =
      subst (λ (o : Own). SameTurn Other n (turn plan barrier n t d) (turn plan barrier n (with_own u.control o) e)) h.own
      (turn_there Other n t.control u.control t.own h.unmoved h.coming h.serving t.own.status)
  moves_of_task Other n t u (inr h) = same_moves h.1.moves

  -- where they differ of no task
  all_there : (n : ℕ) (ts vs : List (TaskAt Seen)) → Alikes (λ k. ⊥) n ts vs → moves_from plan barrier n ts d ≡ moves_from plan barrier n vs e
  all_there n [] [] h = refl
  all_there n [] (v ∷ vs) h = absurd h
  all_there n (t ∷ ts) [] h = absurd h
  all_there n (t ∷ ts) (v ∷ vs) h =
      ap (λ ms. ms ++ moves_from plan barrier (suc n) ts d) (none_differ (moves_of_task ⊥ n t v h.0))
      ∙ ap (λ ms. turn_moves plan barrier (turn plan barrier n v e) n e ++ ms) (all_there (suc n) ts vs h.1)

  -- the same of such a task in both, and of all
  pub quiet_task : (Other : Type 0) (n : ℕ) (t v : TaskAt Seen) → (Other → HasSome (turn_moves plan barrier (turn plan barrier n t d) n d) → ⊥) → AlikeOrMoved Other n t v → turn_moves plan barrier (turn plan barrier n t d) n d ≡ turn_moves plan barrier (turn plan barrier n v e) n e
  quiet_task Other n t v quiet h = quiet_same Other _ _ quiet (moves_of_task Other n t v h)

  quiet_there : (Other : ℕ → Type 0) (n : ℕ) (ts vs : List (TaskAt Seen)) → Quiet plan barrier d Other n ts → Alikes Other n ts vs → moves_from plan barrier n ts d ≡ moves_from plan barrier n vs e
  quiet_there Other n [] [] quiet h = refl
  quiet_there Other n [] (v ∷ vs) quiet h = absurd h
  quiet_there Other n (t ∷ ts) [] quiet h = absurd h
  quiet_there Other n (t ∷ ts) (v ∷ vs) quiet h =
      ap (λ l. l ++ moves_from plan barrier (suc n) ts d) (quiet_task (Other n) n t v quiet.0 h.0)
      ∙ ap (λ l. turn_moves plan barrier (turn plan barrier n v e) n e ++ l) (quiet_there Other (suc n) ts vs quiet.1 h.1)

  -- none in both, where there is none in the one
  none_there : (Other : ℕ → Type 0) (n : ℕ) (ts vs : List (TaskAt Seen)) → Alikes Other n ts vs → moves_from plan barrier n ts d ≡ [] → moves_from plan barrier n vs e ≡ []
  none_there Other n [] [] h none = refl
  none_there Other n [] (v ∷ vs) h none = absurd h
  none_there Other n (t ∷ ts) [] h none = absurd h
  none_there Other n (t ∷ ts) (v ∷ vs) h none =
      let ms = turn_moves plan barrier (turn plan barrier n t d) n d in
      let ns = turn_moves plan barrier (turn plan barrier n v e) n e in
      let here : ns ≡ [] = none_agree ms ns (moves_of_task (Other n) n t v h.0) (none_before ms (moves_from plan barrier (suc n) ts d) none) in
      ap (λ l. l ++ moves_from plan barrier (suc n) vs e) here
      ∙ none_there Other (suc n) ts vs h.1 (none_after ms (moves_from plan barrier (suc n) ts d) none)

  -- Of one task they do not differ. If its own move is the first one, it is so in both, and where it is alone, it is alone in both.
  module _ (of : ℕ) where
    abbrev Others : ℕ → Type 0
    Others k = ¬ (k ≡ of)

    abbrev Behind : List Move → List Move → Type 0
    Behind others ms = (more : List Move) × (ms ≡ own_move of ∷ more) × (others ≡ [] → more ≡ [])

    behind_here : (ms ns others rest left : List Move) → ms ≡ ns → ms ++ rest ≡ own_move of ∷ others → (ms ≡ [] → Behind others left) → (rest ≡ [] → left ≡ []) → Behind others (ns ++ left)
    behind_here [] ns others rest left is first here none = subst (λ l. Behind others (l ++ left)) is (here refl)
    behind_here (m ∷ ms) ns others rest left is first here none = subst (λ l. Behind others (l ++ left)) is (
      ms ++ left,
      ap (λ x. x ∷ (ms ++ left)) (head_of m (own_move of) (ms ++ rest) others first),
      λ alone. let tail = tail_of m (own_move of) (ms ++ rest) others first ∙ alone in
          ap (λ l. l ++ left) (none_before ms rest tail) ∙ none (none_after ms rest tail),
    )

    first_by : (n : ℕ) (ms ns rest left others : List Move) → AreOf n ms → AgreeMoves (Others n) ms ns → ms ++ rest ≡ own_move of ∷ others → (ms ≡ [] → Behind others left) → (rest ≡ [] → left ≡ []) → Behind others (ns ++ left)
    first_by n ms ns rest left others theirs (same_moves is) first here none = behind_here ms ns others rest left is first here none
    first_by n [] ns rest left others theirs (some_moves other some there) first here none = absurd some
    first_by n (m ∷ ms) ns rest left others theirs (some_moves other some there) first here none =
        absurd (other (sym theirs.0 ∙ ap (λ (x : Move). x.task) (head_of m (own_move of) (ms ++ rest) others first)))

    first_there : (n : ℕ) (ts vs : List (TaskAt Seen)) (others : List Move) → Alikes Others n ts vs → moves_from plan barrier n ts d ≡ own_move of ∷ others → Behind others (moves_from plan barrier n vs e)
    first_there n [] [] others h first = absurd cc
    first_there n [] (v ∷ vs) others h first = absurd h
    first_there n (t ∷ ts) [] others h first = absurd h
    first_there n (t ∷ ts) (v ∷ vs) others h first =
        let ms = turn_moves plan barrier (turn plan barrier n t d) n d in
        let ns = turn_moves plan barrier (turn plan barrier n v e) n e in
        let rest = moves_from plan barrier (suc n) ts d in
        first_by n ms ns rest (moves_from plan barrier (suc n) vs e) others
        (moves_of plan barrier (turn plan barrier n t d) n d) (moves_of_task (Others n) n t v h.0) first
        (λ none. first_there (suc n) ts vs others h.1 (sym (ap (λ l. l ++ rest) none) ∙ first))
        (none_there Others (suc n) ts vs h.1)

module _ (plan : Plan) (barrier : ℕ → Sight → Result Bool Raise) (Free : Status → Type 0) (Served : Type 0) (Moved Other : ℕ → Type 0) (d : All Seen) (free : Free Running → AreIdle d) (us : List (TaskAt Seen)) (left : Left) (choices : List ℕ) (steps : ℕ) (serves : Served → ServesAlike plan barrier d (elsewhere us left choices steps d)) (alike : AlikeTasks plan barrier d (elsewhere us left choices steps d) Free Served Other Moved 0 d.tasks us) where
  abbrev there : All Seen
  there = elsewhere us left choices steps d

  abbrev AlikeFrom : ℕ → List (TaskAt Seen) → List (TaskAt Seen) → Type 0
  AlikeFrom n ts vs = AlikeTasks plan barrier d (elsewhere us left choices steps d) Free Served Other Moved n ts vs

  ended_there : (n : ℕ) (ts vs : List (TaskAt Seen)) → AlikeFrom n ts vs → has_ended plan barrier ts ≡ has_ended plan barrier vs
  ended_there n [] [] h = refl
  ended_there n [] (v ∷ vs) h = absurd h
  ended_there n (t ∷ ts) [] h = absurd h
  ended_there n (t ∷ ts) (v ∷ vs) h = ap (λ (o : Own). has_ended plan barrier (record t { own = o } ∷ ts)) (bare_same plan barrier d (elsewhere us left choices steps d) Free Served (Other n) (Moved n) n t v h.0)

  pub as_ended : has_ended plan barrier d.tasks ≡ has_ended plan barrier us
  as_ended = ended_there 0 d.tasks us alike

-- nothing differs
module _ (plan : Plan) (barrier : ℕ → Sight → Result Bool Raise) (Free : Status → Type 0) (Served : Type 0) (Moved : ℕ → Type 0) (d : All Seen) (free : Free Running → AreIdle d) (us : List (TaskAt Seen)) (left : Left) (choices : List ℕ) (steps : ℕ) (serves : Served → ServesAlike plan barrier d (elsewhere us left choices steps d)) (alike : AlikeTasks plan barrier d (elsewhere us left choices steps d) Free Served (λ k. ⊥) Moved 0 d.tasks us) where
  abbrev same_there : All Seen
  same_there = there plan barrier Free Served Moved (λ k. ⊥) d free us left choices steps serves alike

  pub moves_there : moves plan barrier d ≡ moves plan barrier same_there
  moves_there = ap (λ b. moves_by plan barrier b d.shared.cut d) (as_ended plan barrier Free Served Moved (λ k. ⊥) d free us left choices steps serves alike) ∙ by (has_ended plan barrier us) d.shared.cut
    where
      by : (ended cut : Bool) → moves_by plan barrier ended cut d ≡ moves_by plan barrier ended cut same_there
      by true cut = refl
      by false true = refl
      by false false = all_there plan barrier Free Served d free us left choices steps serves Moved (bares_alike plan barrier d (elsewhere us left choices steps d) Free Served (λ k. ⊥) Moved 0 d.tasks us alike) (λ k. own_alike plan barrier d (elsewhere us left choices steps d) Free Served (λ k. ⊥) Moved 0 k k d.tasks us (omega arith) alike) 0 d.tasks us alike

-- nothing differs of the task of a number
module _ (plan : Plan) (barrier : ℕ → Sight → Result Bool Raise) (Free : Status → Type 0) (Served : Type 0) (Moved : ℕ → Type 0) (of : ℕ) (d : All Seen) (free : Free Running → AreIdle d) (us : List (TaskAt Seen)) (left : Left) (choices : List ℕ) (steps : ℕ) (serves : Served → ServesAlike plan barrier d (elsewhere us left choices steps d)) (alike : AlikeTasks plan barrier d (elsewhere us left choices steps d) Free Served (λ k. ¬ (k ≡ of)) Moved 0 d.tasks us) where
  abbrev Different : ℕ → Type 0
  Different k = ¬ (k ≡ of)

  abbrev other_there : All Seen
  other_there = there plan barrier Free Served Moved Different d free us left choices steps serves alike

  pub first_still : (others : List Move) → moves plan barrier d ≡ own_move of ∷ others → (more : List Move) × (moves plan barrier other_there ≡ own_move of ∷ more) × (others ≡ [] → more ≡ [])
  first_still others first =
      let is = as_ended plan barrier Free Served Moved Different d free us left choices steps serves alike in
      by (has_ended plan barrier us) d.shared.cut (sym (ap (λ b. moves_by plan barrier b d.shared.cut d) is) ∙ first)
    where
      by : (ended cut : Bool) → moves_by plan barrier ended cut d ≡ own_move of ∷ others → (more : List Move) × (moves_by plan barrier ended cut other_there ≡ own_move of ∷ more) × (others ≡ [] → more ≡ [])
      by true cut h = absurd cc
      by false true h = absurd cc
      by false false h = first_there plan barrier Free Served d free us left choices steps serves Moved (bares_alike plan barrier d (elsewhere us left choices steps d) Free Served Different Moved 0 d.tasks us alike) (λ k. own_alike plan barrier d (elsewhere us left choices steps d) Free Served Different Moved 0 k k d.tasks us (omega arith) alike) of 0 d.tasks us others alike h

-- those of which they may differ have none
module _ (plan : Plan) (barrier : ℕ → Sight → Result Bool Raise) (Free : Status → Type 0) (Served : Type 0) (Moved Other : ℕ → Type 0) (d : All Seen) (free : Free Running → AreIdle d) (us : List (TaskAt Seen)) (left : Left) (choices : List ℕ) (steps : ℕ) (serves : Served → ServesAlike plan barrier d (elsewhere us left choices steps d)) (alike : AlikeTasks plan barrier d (elsewhere us left choices steps d) Free Served Other Moved 0 d.tasks us) where
  abbrev quietly_there : All Seen
  quietly_there = there plan barrier Free Served Moved Other d free us left choices steps serves alike

  pub moves_quiet : Quiet plan barrier d Other 0 d.tasks → moves plan barrier d ≡ moves plan barrier quietly_there
  moves_quiet quiet = ap (λ b. moves_by plan barrier b d.shared.cut d) (as_ended plan barrier Free Served Moved Other d free us left choices steps serves alike) ∙ by (has_ended plan barrier us) d.shared.cut
    where
      by : (ended cut : Bool) → moves_by plan barrier ended cut d ≡ moves_by plan barrier ended cut quietly_there
      by true cut = refl
      by false true = refl
      by false false = quiet_there plan barrier Free Served d free us left choices steps serves Moved (bares_alike plan barrier d (elsewhere us left choices steps d) Free Served Other Moved 0 d.tasks us alike) (λ k. own_alike plan barrier d (elsewhere us left choices steps d) Free Served Other Moved 0 k k d.tasks us (omega arith) alike) Other 0 d.tasks us quiet alike

  pub task_quiet : (n : ℕ) (t v : TaskAt Seen) → (Other n → HasSome (turn_moves plan barrier (turn plan barrier n t d) n d) → ⊥) → AlikeTask Free Served (Other n) (Moved n) t v ⊎ (Moved n × MovedTask plan barrier d quietly_there n t v) → turn_moves plan barrier (turn plan barrier n t d) n d ≡ turn_moves plan barrier (turn plan barrier n v quietly_there) n quietly_there
  task_quiet n t v quiet h = quiet_task plan barrier Free Served d free us left choices steps serves Moved (bares_alike plan barrier d (elsewhere us left choices steps d) Free Served Other Moved 0 d.tasks us alike) (λ k. own_alike plan barrier d (elsewhere us left choices steps d) Free Served Other Moved 0 k k d.tasks us (omega arith) alike) (Other n) n t v quiet h
