-- The list of moves stays as it is where each task that has one acts simply, one of these goes on to another simple step, and no action
-- is to begin or all objects are idle.
use Rattle.std.specs.Prelude.{IfSome}
use Rattle.std.proofs.Common.{◌≡◌, ◌<◌, ◌+◌, ◌⊎◌, inl, inr, ℕ, zero, suc, List, [], ◌∷◌, Option, Some, None, Bool, true, false, not, refl, ap, sym, subst, ◌∙◌, slice_get, slice_index_or, arith}
use Rattle.std.proofs.lemmas.Option.{same_Some}
use Rattle.aud_typed.specs.Tree.{Plan}
use Rattle.aud_meaning.specs.declared.state.Move.{Move}
use Rattle.aud_meaning.specs.declared.state.Restart.{Restart}
use Rattle.aud_meaning.specs.declared.state.Serving.{Serving}
use Rattle.aud_meaning.specs.declared.state.Status.{Status}
use Rattle.aud_meaning.specs.declared.state.Status.TheVariants.{Created, Running, Activating, Accepting, Delaying, Calling, Completed, Terminated}
use Rattle.aud_meaning.specs.Configuration.{Own, Shared, TaskAt, All}
use Rattle.aud_meaning.specs.Control.{Coming, Seen, simply, ending, selecting, calling, starting, Controls}
use Rattle.aud_meaning.specs.Parts.{nobody, owns, own_of, changed, sight_in, sight_of}
use Rattle.aud_meaning.specs.Ties.Part.{Part}
use Rattle.aud_meaning.specs.Run.{acting_moves, each_or_one, seen, seen_from, moves_at, shown_place, turn, turn_at, turn_moves}
use Rattle.aud_code.specs.Places.{Spot}
use Rattle.aud_code.specs.Flat.{Flat, barrier_at, flat_controls, coming_at}
use Rattle.aud_code.specs.View.{EndsPlainly}
use Rattle.aud_state.specs.Fast.{stands_so}
use Rattle.aud_state.specs.Reads.{IsPlain, coming_by}
use Rattle.aud_tasks.specs.Choices.{IsNoStart}
use Rattle.aud_tasks.specs.Moving.{IsSimple, has_some, moves_of}
use Rattle.aud_tasks.specs.Turning.{coming_in, turn_in}
use Rattle.aud_tasks.specs.Running.{AreIdle, AreSimple, AreSteady, BeginsNone}
use Rattle.aud_tasks.proofs.StepLaws.Turning.{turn_plain}
use Rattle.aud_tasks.proofs.ViewLaws.Seen.{one_seen, seen_at}
use Rattle.aud_tasks.proofs.Running.Moves as moves
use Rattle.aud_tasks.proofs.Running.Moves.{AreAlike, AlikeTasks, HasSome, left_in, stays, differs}
use Rattle.aud_tasks.proofs.MoveLaws.Moving.{runs_simply}
use Rattle.aud_tasks.proofs.Running.Still.{changed_other, comes_alike, gone_on, here_changed, moved_by, plain_there, still_no_start}

-- at a select or a call
abbrev IsChoice : Coming → Type 0
IsChoice (selecting ones) = Unit {0}
IsChoice (calling task entry) = Unit {0}
IsChoice next = ⊥

-- nothing may differ of what is none
unchosen_alike : (Free Other : Type 0) (x y : Coming) → (IsChoice x → ⊥) → AreAlike Free (Unit {0}) x y → AreAlike Free Other x y
unchosen_alike Free Other (simply w) (simply v) none h = tt
unchosen_alike Free Other ending ending none h = tt
unchosen_alike Free Other (selecting xs) (selecting ys) none h = absurd (none tt)
unchosen_alike Free Other (calling t x) (calling u y) none h = absurd (none tt)
unchosen_alike Free Other (starting o r) (starting p q) none h = h
unchosen_alike Free Other x y none h = h

pub simple_no_start : (x : Coming) → IsSimple x → IsNoStart x
simple_no_start (simply w) h = tt
simple_no_start x h = absurd h

simple_no_choice : (x : Coming) → IsSimple x → IsChoice x → ⊥
simple_no_choice (simply w) h choice = choice
simple_no_choice x h choice = absurd h

some_is : (ms : List Move) → HasSome ms → has_some ms ≡ true
some_is [] h = absurd h
some_is (m ∷ ms) h = refl

-- whether a task is plain
plainness : (own : Own) → IsPlain own ⊎ (IsPlain own → ⊥)
plainness own = by own.status own.abnormal own.serving own.restart refl refl refl refl
  where
    by : (s : Status) (b : Bool) (o : Option Serving) (r : Option Restart) → own.status ≡ s → own.abnormal ≡ b → own.serving ≡ o → own.restart ≡ r → IsPlain own ⊎ (IsPlain own → ⊥)
    by Running false None None runs normal free settled = inl (record { runs = runs; normal = normal; free = free; settled = settled })
    by Running false None (Some r) runs normal free settled = inr (λ plain. let wrong : Some r ≡ None = sym settled ∙ plain.settled in absurd cc)
    by Running true o r runs normal free settled = inr (λ plain. let wrong : true ≡ false = sym normal ∙ plain.normal in absurd cc)
    by Running false (Some s) r runs normal free settled = inr (λ plain. let wrong : Some s ≡ None = sym free ∙ plain.free in absurd cc)
    by Created b o r runs normal free settled = inr (λ plain. let wrong : Created ≡ Running = sym runs ∙ plain.runs in absurd cc)
    by Activating b o r runs normal free settled = inr (λ plain. let wrong : Activating ≡ Running = sym runs ∙ plain.runs in absurd cc)
    by Accepting b o r runs normal free settled = inr (λ plain. let wrong : Accepting ≡ Running = sym runs ∙ plain.runs in absurd cc)
    by Delaying b o r runs normal free settled = inr (λ plain. let wrong : Delaying ≡ Running = sym runs ∙ plain.runs in absurd cc)
    by Calling b o r runs normal free settled = inr (λ plain. let wrong : Calling ≡ Running = sym runs ∙ plain.runs in absurd cc)
    by Completed b o r runs normal free settled = inr (λ plain. let wrong : Completed ≡ Running = sym runs ∙ plain.runs in absurd cc)
    by Terminated b o r runs normal free settled = inr (λ plain. let wrong : Terminated ≡ Running = sym runs ∙ plain.runs in absurd cc)

pub own_at : (ts : List (TaskAt Spot)) (n : ℕ) (t : TaskAt Spot) → slice_get ts n ≡ Some t → slice_index_or (owns ts) n nobody ≡ t.own
own_at [] n t at = absurd cc
own_at (x ∷ ts) zero t at = ap (λ (y : TaskAt Spot). y.own) (same_Some x t at)
own_at (x ∷ ts) (suc n) t at = own_at ts n t at

-- a task is this one, or another
same_or_other : (k n : ℕ) → (k ≡ n) ⊎ (k ≡ n → ⊥)
same_or_other zero zero = inl refl
same_or_other zero (suc n) = inr (λ is. omega (arith, is))
same_or_other (suc k) zero = inr (λ is. omega (arith, is))
same_or_other (suc k) (suc n) = by (same_or_other k n)
  where
    by : (k ≡ n) ⊎ (k ≡ n → ⊥) → (suc k ≡ suc n) ⊎ (suc k ≡ suc n → ⊥)
    by (inl is) = inl (ap suc is)
    by (inr other) = inr (λ is. other (omega (arith, is)))

pub simple_alike : (x y : Coming) → AreAlike ⊥ (Unit {0}) x y → IsSimple x → IsSimple y
simple_alike (simply w) (simply v) h simple = tt
simple_alike (simply w) y h simple = subst IsSimple h tt
simple_alike x y h simple = absurd simple

module _ (plan : Plan) (code : Flat) where
  abbrev K : Controls Spot
  K = flat_controls plan code

  -- one at a choice always has a move
  each_some : (numbers : List ℕ) (n : ℕ) → has_some (each_or_one plan (barrier_at code) numbers n) ≡ true
  each_some [] n = refl
  each_some (a ∷ more) n = refl

  choice_some : (x : Coming) (n : ℕ) (d : All Seen) → IsChoice x → has_some (acting_moves plan (barrier_at code) x n d) ≡ true
  choice_some (selecting ones) n d choice = each_some _ n
  choice_some (calling None entry) n d choice = refl
  choice_some (calling (Some task) entry) n d choice = each_some _ n
  choice_some (simply w) n d choice = absurd choice
  choice_some ending n d choice = absurd choice
  choice_some (starting o r) n d choice = absurd choice

  plain_moves : (k : ℕ) (c : All Spot) → IsPlain (own_of k c) → moves_of plan code k c ≡ acting_moves plan (barrier_at code) (coming_in plan code k c) k (seen plan K c)
  plain_moves k c plain = ap (λ u. turn_moves plan (barrier_at code) u k (seen plan K c)) (turn_plain plan code k c plain)

  no_choice : (k : ℕ) (c : All Spot) → AreSimple plan code c → IsPlain (own_of k c) → IsChoice (coming_in plan code k c) → ⊥
  no_choice k c simple plain choice =
      let some : has_some (moves_of plan code k c) ≡ true = ap has_some (plain_moves k c plain) ∙ choice_some (coming_in plan code k c) k (seen plan K c) choice in
      simple_no_choice (coming_in plan code k c) (simple k some).1 choice

  abbrev seen_task : ℕ → TaskAt Spot → List Own → Shared → TaskAt Seen
  seen_task i t os shared = record { control = record { coming = coming_at code plan t.own.pending (sight_in i os shared) t.control; place = shown_place plan K t.own.pending t.control }; own = t.own }

  -- a task that acts simply goes on to another simple step
  module _ (plain : EndsPlainly code) (c : All Spot) (n : ℕ) (steady : AreSteady plan code c) (t : TaskAt Spot) (p : Part Spot) (at : slice_get c.tasks n ≡ Some t) (own_plain : IsPlain (own_of n c)) (here_simple : IsSimple (coming_in plan code n c)) (there_simple : IsSimple (coming_in plan code n (gone_on n p c))) where
    abbrev gone : All Spot
    gone = gone_on n p c

    abbrev Free : Status → Type 0
    Free status = status ≡ Running → AreIdle c

    -- of the moves of tasks that are not plain something may differ
    abbrev Other : ℕ → Type 0
    Other k = IsPlain (own_of k c) → ⊥

    abbrev Alike : ℕ → TaskAt Spot → TaskAt Spot → Type 0
    Alike k x y = moves.AlikeTask Free ⊥ (Other k) (k ≡ n) (seen_task k x (owns c.tasks) c.shared) (seen_task k y (owns gone.tasks) gone.shared)

    comes_in : (k : ℕ) (x : TaskAt Spot) → slice_get c.tasks k ≡ Some x → coming_in plan code k c ≡ coming_at code plan x.own.pending (sight_of k c) x.control
    comes_in k x there = ap (coming_by code plan (sight_of k c)) there

    opens : AreIdle c ⊎ BeginsNone plan code c → (k : ℕ) (x : TaskAt Spot) → slice_get c.tasks k ≡ Some x → (status : Status) → x.own.status ≡ status → IsNoStart (coming_at code plan x.own.pending (sight_of k c) x.control) ⊎ (status ≡ Running → AreIdle c)
    opens (inl idle) k x there status is = inr (λ runs. idle)
    opens (inr none) k x there Running is = inl (none k x there is)
    opens (inr none) k x there Created is = inr (λ runs. absurd cc)
    opens (inr none) k x there Activating is = inr (λ runs. absurd cc)
    opens (inr none) k x there Accepting is = inr (λ runs. absurd cc)
    opens (inr none) k x there Delaying is = inr (λ runs. absurd cc)
    opens (inr none) k x there Calling is = inr (λ runs. absurd cc)
    opens (inr none) k x there Completed is = inr (λ runs. absurd cc)
    opens (inr none) k x there Terminated is = inr (λ runs. absurd cc)

    serves_nothing : (serving : Option Serving) → serving ≡ None → IfSome serving (λ s. ⊥)
    serves_nothing None is = tt
    serves_nothing (Some s) is = absurd cc

    other_alike : (k : ℕ) (x : TaskAt Spot) → (k ≡ n → ⊥) → slice_get c.tasks k ≡ Some x → Alike k x x
    other_alike k x unmoved there = by (plainness x.own)
      where
        open_to : IsNoStart (coming_at code plan x.own.pending (sight_of k c) x.control) ⊎ (x.own.status ≡ Running → AreIdle c)
        open_to = opens steady.starts k x there x.own.status refl

        by : IsPlain x.own ⊎ (IsPlain x.own → ⊥) → Alike k x x
        by (inl is) = record {
          unmoved = unmoved;
          own = refl;
          coming = unchosen_alike (Free x.own.status) (Other k)
              (coming_at code plan x.own.pending (sight_of k c) x.control) (coming_at code plan x.own.pending (sight_of k gone) x.control)
              (λ choice. no_choice k c steady.simple (subst IsPlain (sym (own_at c.tasks k x there)) is) (subst IsChoice (sym (comes_in k x there)) choice))
              (comes_alike (Free x.own.status) (Unit {0}) tt plan (sight_of k c) (sight_of k gone) code plain x.own.pending x.control open_to);
          serving = stays (serves_nothing x.own.serving is.free);
        }
        by (inr not) =
            let other : Other k = λ is. not (subst IsPlain (own_at c.tasks k x there) is) in
            record {
              unmoved = unmoved;
              own = refl;
              coming = comes_alike (Free x.own.status) (Other k) other plan (sight_of k c) (sight_of k gone) code plain x.own.pending x.control open_to;
              serving = differs other;
            }

    abbrev Element : ℕ → TaskAt Spot → TaskAt Spot → Type 0
    Element i x y = Alike i x y ⊎ ((i ≡ n) × moves.MovedTask plan K.barrier (seen plan K c) (seen plan K gone) i (seen_task i x (owns c.tasks) c.shared) (seen_task i y (owns gone.tasks) gone.shared))

    moved : moves.MovedTask plan K.barrier (seen plan K c) (seen plan K gone) n (seen_task n t (owns c.tasks) c.shared) (seen_task n (stands_so p t) (owns gone.tasks) gone.shared)
    moved =
        let after = plain_there p n n c.tasks own_plain in
        moved_by plan code n p c t at (runs_simply plan code c n own_plain here_simple) (runs_simply plan code gone n after there_simple)

    abbrev EachAlike : ℕ → List (TaskAt Spot) → Type 0
    EachAlike i [] = Unit {0}
    EachAlike i (x ∷ ts) = ((i ≡ n → ⊥) → Alike i x x) × EachAlike (suc i) ts

    each_alike : (i : ℕ) (ts : List (TaskAt Spot)) → ((k j : ℕ) (x : TaskAt Spot) → k ≡ i + j → slice_get ts j ≡ Some x → (k ≡ n → ⊥) → Alike k x x) → EachAlike i ts
    each_alike i [] h = tt
    each_alike i (x ∷ ts) h = (h i 0 x (omega arith) refl, each_alike (suc i) ts (λ k j y is there. h k (suc j) y (omega (arith, is)) there))

    abbrev AllAlike : ℕ → List (TaskAt Spot) → List (TaskAt Spot) → Type 0
    AllAlike i ts us = AlikeTasks plan K.barrier (seen plan K c) (seen plan K gone) Free ⊥ Other (λ k. k ≡ n) i (seen_from plan K i ts (owns c.tasks) c.shared) (seen_from plan K i us (owns gone.tasks) gone.shared)

    behind_alike : (i : ℕ) (ts : List (TaskAt Spot)) → n < i → EachAlike i ts → AllAlike i ts ts
    behind_alike i [] past each = tt
    behind_alike i (x ∷ ts) past each = (inl (each.0 (λ is. omega (arith, is, past))), behind_alike (suc i) ts (omega (arith, past)) each.1)

    all_alike : (m i : ℕ) (ts : List (TaskAt Spot)) → i + m ≡ n → slice_get ts m ≡ Some t → EachAlike i ts → AllAlike i ts (changed m (stands_so p) ts)
    all_alike m i [] here is each = tt
    all_alike zero i (x ∷ ts) here is each =
        let same : i ≡ n = omega (arith, here) in
        let element : Element n x (stands_so p x) = subst (λ (y : TaskAt Spot). Element n y (stands_so p y)) (sym (same_Some x t is)) (inr (refl, moved)) in
        (subst (λ k. Element k x (stands_so p x)) (sym same) element, behind_alike (suc i) ts (omega (arith, here)) each.1)
    all_alike (suc m) i (x ∷ ts) here is each = (inl (each.0 (λ same. omega (arith, same, here))), all_alike m (suc i) ts (omega (arith, here)) is each.1)

    abbrev d : All Seen
    d = seen plan K c

    alike_gone : AlikeTasks plan K.barrier d (seen plan K gone) Free ⊥ Other (λ k. k ≡ n) 0 d.tasks (seen plan K gone).tasks
    alike_gone = all_alike n 0 c.tasks (omega arith) at (each_alike 0 c.tasks (λ k j x is there unmoved. let same : k ≡ j = omega (arith, is) in other_alike k x unmoved (ap (slice_get c.tasks) same ∙ there)))

    -- one that has moves is plain
    seen_there : (k : ℕ) (x : TaskAt Spot) → slice_get c.tasks k ≡ Some x → slice_get d.tasks k ≡ Some (seen_task k x (owns c.tasks) c.shared)
    seen_there k x there = seen_at plan code 0 k k c.tasks (owns c.tasks) c.shared (omega arith) ∙ ap (one_seen plan code k (owns c.tasks) c.shared) there

    turn_there : (k : ℕ) (x : TaskAt Spot) → slice_get c.tasks k ≡ Some x → turn_in plan code k c ≡ turn plan K.barrier k (seen_task k x (owns c.tasks) c.shared) d
    turn_there k x there = ap (λ o. turn_at plan K.barrier o k d) (seen_there k x there)

    some_there : (k : ℕ) (x : TaskAt Spot) → slice_get c.tasks k ≡ Some x → HasSome (turn_moves plan K.barrier (turn plan K.barrier k (seen_task k x (owns c.tasks) c.shared) d) k d) → has_some (moves_of plan code k c) ≡ true
    some_there k x there some = ap (λ w. has_some (turn_moves plan K.barrier w k d)) (turn_there k x there) ∙ some_is _ some

    quiet_each : (i : ℕ) (ts : List (TaskAt Spot)) → ((k j : ℕ) (x : TaskAt Spot) → k ≡ i + j → slice_get ts j ≡ Some x → slice_get c.tasks k ≡ Some x) → moves.Quiet plan K.barrier d Other i (seen_from plan K i ts (owns c.tasks) c.shared)
    quiet_each i [] h = tt
    quiet_each i (x ∷ ts) h = (
      λ other some. other (steady.simple i (some_there i x (h i 0 x (omega arith) refl) some)).0,
      quiet_each (suc i) ts (λ k j y is there. h k (suc j) y (omega (arith, is)) there),
    )

    quiet_all : moves.Quiet plan K.barrier d Other 0 d.tasks
    quiet_all = quiet_each 0 c.tasks (λ k j x is there. let same : k ≡ j = omega (arith, is) in ap (slice_get c.tasks) same ∙ there)

    pub moves_steady : moves_at plan K c ≡ moves_at plan K gone
    moves_steady = moves.moves_quiet plan K.barrier Free ⊥ (λ k. k ≡ n) Other d (λ idle. idle refl) (seen plan K gone).tasks (left_in gone.shared) c.choices (suc c.steps) (λ none. absurd none) alike_gone quiet_all

    -- and it is so behind the step
    moves_stay : (k : ℕ) (x : TaskAt Spot) → (k ≡ n → ⊥) → slice_get c.tasks k ≡ Some x → slice_get gone.tasks k ≡ Some x → moves_of plan code k c ≡ moves_of plan code k gone
    moves_stay k x unmoved there after =
        ap (λ w. turn_moves plan K.barrier w k d) (turn_there k x there)
        ∙ moves.task_quiet plan K.barrier Free ⊥ (λ k. k ≡ n) Other d (λ idle. idle refl) (seen plan K gone).tasks (left_in gone.shared) c.choices (suc c.steps) (λ none. absurd none) alike_gone k
        (seen_task k x (owns c.tasks) c.shared) (seen_task k x (owns gone.tasks) gone.shared)
        (λ other some. other (steady.simple k (some_there k x there some)).0) (inl (other_alike k x unmoved there))
        ∙ sym (ap (λ o. turn_moves plan K.barrier (turn_at plan K.barrier o k (seen plan K gone)) k (seen plan K gone))
        (seen_at plan code 0 k k gone.tasks (owns gone.tasks) gone.shared (omega arith) ∙ ap (one_seen plan code k (owns gone.tasks) gone.shared) after))

    plain_gone : (k : ℕ) → IsPlain (own_of k c) → IsPlain (own_of k gone)
    plain_gone k h = plain_there p n k c.tasks h

    abbrev Simple : ℕ → Type 0
    Simple k = IsPlain (own_of k gone) × IsSimple (coming_in plan code k gone)

    own_simple : (k : ℕ) → k ≡ n → Simple k
    own_simple k is = subst Simple (sym is) (plain_gone n own_plain, there_simple)

    other_simple : (k : ℕ) (x : TaskAt Spot) → (k ≡ n → ⊥) → slice_get c.tasks k ≡ Some x → has_some (moves_of plan code k gone) ≡ true → Simple k
    other_simple k x other there some =
        let after : slice_get gone.tasks k ≡ Some x = changed_other n k (stands_so p) c.tasks other ∙ there in
        let was = steady.simple k (ap has_some (moves_stay k x other there after) ∙ some) in
        let simple : IsSimple (coming_at code plan x.own.pending (sight_of k c) x.control) = subst IsSimple (comes_in k x there) was.1 in (
          plain_gone k was.0,
          subst IsSimple (sym (ap (coming_by code plan (sight_of k gone)) after))
              (simple_alike (coming_at code plan x.own.pending (sight_of k c) x.control) (coming_at code plan x.own.pending (sight_of k gone) x.control)
              (comes_alike ⊥ (Unit {0}) tt plan (sight_of k c) (sight_of k gone) code plain x.own.pending x.control (inl (simple_no_start _ simple))) simple),
        )

    nobody_moves : (k : ℕ) → slice_get gone.tasks k ≡ None → has_some (moves_of plan code k gone) ≡ true → ⊥
    nobody_moves k after some =
        let none : has_some (moves_of plan code k gone) ≡ false =
        ap (λ o. has_some (turn_moves plan K.barrier (turn_at plan K.barrier o k (seen plan K gone)) k (seen plan K gone)))
        (seen_at plan code 0 k k gone.tasks (owns gone.tasks) gone.shared (omega arith) ∙ ap (one_seen plan code k (owns gone.tasks) gone.shared) after) in
        absurd (cc)

    simple_gone : AreSimple plan code gone
    simple_gone k some = by (same_or_other k n) (slice_get c.tasks k) refl
      where
        by : (k ≡ n) ⊎ (k ≡ n → ⊥) → (o : Option (TaskAt Spot)) → slice_get c.tasks k ≡ o → Simple k
        by (inl is) o there = own_simple k is
        by (inr other) (Some x) there = other_simple k x other there some
        by (inr other) None there = absurd (nobody_moves k (changed_other n k (stands_so p) c.tasks other ∙ there) some)

    starts_gone : AreIdle c ⊎ BeginsNone plan code c → AreIdle gone ⊎ BeginsNone plan code gone
    starts_gone (inl idle) = inl idle
    starts_gone (inr none) = inr (λ k x after runs. by k x after runs (same_or_other k n))
      where
        by : (k : ℕ) (x : TaskAt Spot) → slice_get gone.tasks k ≡ Some x → x.own.status ≡ Running → (k ≡ n) ⊎ (k ≡ n → ⊥) → IsNoStart (coming_at code plan x.own.pending (sight_of k gone) x.control)
        by k x after runs (inl is) =
            let same : stands_so p t ≡ x = same_Some (stands_so p t) x (sym (here_changed p n t c.tasks at) ∙ ap (slice_get gone.tasks) (sym is) ∙ after) in
            let simple : IsSimple (coming_at code plan p.pending (sight_of n gone) p.control) = subst IsSimple (ap (coming_by code plan (sight_of n gone)) (here_changed p n t c.tasks at)) there_simple in
            subst (λ (y : TaskAt Spot). IsNoStart (coming_at code plan y.own.pending (sight_of k gone) y.control)) same
            (subst (λ m. IsNoStart (coming_at code plan p.pending (sight_of m gone) p.control)) (sym is) (simple_no_start _ simple))
        by k x after runs (inr other) =
            still_no_start plan code plain (sight_of k c) (sight_of k gone) x.own.pending x.control
            (none k x (sym (changed_other n k (stands_so p) c.tasks other) ∙ after) runs)

    pub steady_gone : AreSteady plan code gone
    steady_gone = record { simple = simple_gone; starts = starts_gone steady.starts }
