-- Enabled moves by which a selective accept is taken without an alternative: no call is queued for it.
use Rattle.std.proofs.Common.{◌≡◌, ℕ, zero, suc, List, [], ◌∷◌, ◌++◌, map, filter, Option, Some, None, Bool, true, false, cond, Result, refl, sym, ap, ◌∙◌, subst, slice_get, slice_index_or}
use Rattle.std.proofs.lemmas.Bool.{true≢false}
use Rattle.aud_text.specs.declared.raise.Raise.{Raise}
use Rattle.aud_typed.specs.Tree.{Plan}
use Rattle.aud_meaning.specs.declared.state.OpenAccept.{OpenAccept}
use Rattle.aud_meaning.specs.declared.state.Move.{Move}
use Rattle.aud_meaning.specs.Configuration.{Call, TaskAt, All}
use Rattle.aud_meaning.specs.Evaluation.{Sight}
use Rattle.aud_meaning.specs.Control.{Coming, simply, ending, selecting, calling, starting, Seen}
use Rattle.aud_meaning.specs.Parts.{Waiting, queue}
use Rattle.aud_meaning.specs.Run.{picks, Turn, resting, closing, completing, withdrawing, serving, restarting, expiring, cancelling, acting, turn, turn_at, each_or_one, has_queue, alternatives_of, acting_moves, turn_moves, moves_from, has_ended, moves_by, moves}
use Rattle.aud_meaning.proofs.Counts.{Of, turn_of}
use Rattle.aud_meaning.proofs.Stuck.{turn_same}
use Rattle.aud_meaning.proofs.Open.Queues.{AllUnqueued, not_empty}

-- the alternatives of a selective accept are numbered from 1
abbrev pub IsNumbered : ℕ → Type 0
IsNumbered zero = ⊥
IsNumbered (suc n) = Unit {0}

abbrev pub AllNumbered : List OpenAccept → Type 0
AllNumbered [] = Unit {0}
AllNumbered (a ∷ ones) = IsNumbered a.alternative × AllNumbered ones

-- what an enabled move tells of the task that it is of
abbrev pub FitsNext : Coming → ℕ → List Call → Move → Type 0
FitsNext (simply w) n calls m = Unit {0}
FitsNext ending n calls m = Unit {0}
FitsNext (selecting ones) n calls m = AllNumbered ones → m.alternative ≡ None → AllUnqueued n calls ones
FitsNext (calling task entry) n calls m = Unit {0}
FitsNext (starting object reading) n calls m = Unit {0}

abbrev pub FitsTurn : Turn → ℕ → List Call → Move → Type 0
FitsTurn resting n calls m = Unit {0}
FitsTurn closing n calls m = Unit {0}
FitsTurn completing n calls m = Unit {0}
FitsTurn (withdrawing object) n calls m = Unit {0}
FitsTurn (serving s) n calls m = Unit {0}
FitsTurn (restarting r) n calls m = Unit {0}
FitsTurn (expiring ds) n calls m = Unit {0}
FitsTurn (cancelling id) n calls m = Unit {0}
FitsTurn (acting next) n calls m = FitsNext next n calls m

-- Lists of moves.

abbrev pub AllMoves : (Move → Type 0) → List Move → Type 0
AllMoves P [] = Unit {0}
AllMoves P (m ∷ ms) = P m × AllMoves P ms

module _ (P : Move → Type 0) where
  each_move : ((m : Move) → P m) → (ms : List Move) → AllMoves P ms
  each_move g [] = tt
  each_move g (m ∷ ms) = (g m, each_move g ms)

  joined : (ms ns : List Move) → AllMoves P ms → AllMoves P ns → AllMoves P (ms ++ ns)
  joined [] ns h i = i
  joined (m ∷ ms) ns h i = (h.0, joined ms ns h.1 i)

  pub at_number : (ms : List Move) (i : ℕ) (m : Move) → slice_get ms i ≡ Some m → AllMoves P ms → P m
  at_number [] i m e h = absurd cc
  at_number (x ∷ ms) zero m e h = let same : x ≡ m = cc in subst P same h.0
  at_number (x ∷ ms) (suc i) m e h = at_number ms i m e h.1

  pub at_or_first : (ms : List Move) (i : ℕ) (m : Move) → P m → AllMoves P ms → P (slice_index_or ms i m)
  at_or_first [] i m first h = first
  at_or_first (x ∷ ms) zero m first h = h.0
  at_or_first (x ∷ ms) (suc i) m first h = at_or_first ms i m first h.1

abbrev HasOne : Option ℕ → Type 0
HasOne None = ⊥
HasOne (Some n) = Unit {0}

picked_one : (n a : ℕ) → IsNumbered a → (picks n a).alternative ≡ None → ⊥
picked_one n zero h e = h
picked_one n (suc a) h e = subst HasOne e tt

kept_numbered : (p : OpenAccept → Bool) (ones : List OpenAccept) → AllNumbered ones → AllNumbered (filter p ones)
kept_numbered p [] h = tt
kept_numbered p (a ∷ ones) h = by (p a) (kept_numbered p ones h.1)
  where
    by : (b : Bool) → AllNumbered (filter p ones) → AllNumbered (cond b (a ∷ filter p ones) (filter p ones))
    by true rest = (h.0, rest)
    by false rest = rest

module _ (plan : Plan) (barrier : ℕ → Sight → Result Bool Raise) (s : All Seen) where
  module _ (n : ℕ) where
    abbrev has : OpenAccept → Bool
    has a = has_queue plan barrier n s a

    no_calls : (a : OpenAccept) (ws : List Waiting) → queue n a.entry s.shared.calls ≡ ws → has a ≡ false → queue n a.entry s.shared.calls ≡ []
    no_calls a [] is h = is
    no_calls a (w ∷ ws) is h = let some : has a ≡ true = rw is refl in absurd (true≢false (sym some ∙ h))

    all_unqueued : (ones : List OpenAccept) → filter has ones ≡ [] → AllUnqueued n s.shared.calls ones
    all_unqueued [] h = tt
    all_unqueued (a ∷ ones) h = by (has a) refl h (all_unqueued ones)
      where
        by : (b : Bool) → has a ≡ b → cond b (a ∷ filter has ones) (filter has ones) ≡ [] → (filter has ones ≡ [] → AllUnqueued n s.shared.calls ones) → AllUnqueued n s.shared.calls (a ∷ ones)
        by true e g rest = absurd (not_empty a (filter has ones) g)
        by false e g rest = (no_calls a (queue n a.entry s.shared.calls) refl e, rest g)

    picked_fit : (ones xs : List OpenAccept) → (AllNumbered ones → AllNumbered xs) → AllMoves (λ m. FitsNext (selecting ones) n s.shared.calls m) (map (picks n) (alternatives_of plan barrier xs))
    picked_fit ones [] g = tt
    picked_fit ones (a ∷ xs) g = (λ h none. absurd (picked_one n a.alternative (g h).0 none), picked_fit ones xs (λ h. (g h).1))

    selecting_fit : (ones : List OpenAccept) → AllMoves (λ m. FitsNext (selecting ones) n s.shared.calls m) (each_or_one plan barrier (alternatives_of plan barrier (filter has ones)) n)
    selecting_fit ones = by (filter has ones) refl
      where
        by : (xs : List OpenAccept) → filter has ones ≡ xs → AllMoves (λ m. FitsNext (selecting ones) n s.shared.calls m) (each_or_one plan barrier (alternatives_of plan barrier xs) n)
        by [] e = (λ h none. all_unqueued ones e, tt)
        by (a ∷ xs) e = picked_fit ones (a ∷ xs) (λ h. subst AllNumbered e (kept_numbered has ones h))

    next_fit : (next : Coming) → AllMoves (λ m. FitsNext next n s.shared.calls m) (acting_moves plan barrier next n s)
    next_fit (simply w) = (tt, tt)
    next_fit ending = each_move _ (λ m. tt) _
    next_fit (selecting ones) = selecting_fit ones
    next_fit (calling task entry) = each_move _ (λ m. tt) _
    next_fit (starting object reading) = each_move _ (λ m. tt) _

    turn_fit : (u : Turn) → AllMoves (λ m. FitsTurn u n s.shared.calls m) (turn_moves plan barrier u n s)
    turn_fit resting = tt
    turn_fit closing = each_move _ (λ m. tt) _
    turn_fit completing = (tt, tt)
    turn_fit (withdrawing object) = each_move _ (λ m. tt) _
    turn_fit (serving v) = each_move _ (λ m. tt) _
    turn_fit (restarting r) = each_move _ (λ m. tt) _
    turn_fit (expiring ds) = each_move _ (λ m. tt) _
    turn_fit (cancelling id) = each_move _ (λ m. tt) _
    turn_fit (acting next) = next_fit next

  -- what an enabled move tells
  abbrev pub Chosen : Move → Type 0
  Chosen m = FitsTurn (turn_at plan barrier (slice_get s.tasks m.task) m.task s) m.task s.shared.calls m

  task_fit : (n : ℕ) (u : Turn) (ms : List Move) → turn_at plan barrier (slice_get s.tasks n) n s ≡ u → Of n ms → AllMoves (λ m. FitsTurn u n s.shared.calls m) ms → AllMoves Chosen ms
  task_fit n u [] e o h = tt
  task_fit n u (m ∷ ms) e o h =
      (subst (λ i. FitsTurn (turn_at plan barrier (slice_get s.tasks i) i s) i s.shared.calls m) (sym o.0) (subst (λ v. FitsTurn v n s.shared.calls m) (sym e) h.0), task_fit n u ms e o.1 h.1)

  -- the tasks are found from this number on
  abbrev Found : ℕ → List (TaskAt Seen) → (ℕ → Option (TaskAt Seen)) → Type 0
  Found n [] look = Unit {0}
  Found n (t ∷ ts) look = (look n ≡ Some t) × Found (suc n) ts look

  found_on : (n : ℕ) (ts : List (TaskAt Seen)) (look : ℕ → Option (TaskAt Seen)) → Found n ts (λ i. look (suc i)) → Found (suc n) ts look
  found_on n [] look h = tt
  found_on n (t ∷ ts) look h = (h.0, found_on (suc n) ts look h.1)

  found_all : (ts : List (TaskAt Seen)) → Found 0 ts (λ i. slice_get ts i)
  found_all [] = tt
  found_all (t ∷ ts) = (refl, found_on 0 ts (λ i. slice_get (t ∷ ts) i) (found_all ts))

  from_fit : (n : ℕ) (ts : List (TaskAt Seen)) → Found n ts (λ i. slice_get s.tasks i) → AllMoves Chosen (moves_from plan barrier n ts s)
  from_fit n [] h = tt
  from_fit n (t ∷ ts) h =
      let u : Turn = turn plan barrier n t s in
      joined Chosen (turn_moves plan barrier u n s) (moves_from plan barrier (suc n) ts s)
      (task_fit n u (turn_moves plan barrier u n s) (ap (λ o. turn_at plan barrier o n s) h.0) (turn_of plan barrier u n s) (turn_fit n u)) (from_fit (suc n) ts h.1)

  by_fit : (ended cut : Bool) → AllMoves Chosen (moves_by plan barrier ended cut s)
  by_fit true cut = tt
  by_fit false true = tt
  by_fit false false = from_fit 0 s.tasks (found_all s.tasks)

  pub all_chosen : AllMoves Chosen (moves plan barrier s)
  all_chosen = by_fit (has_ended plan barrier s.tasks) s.shared.cut

  turn_there : (choices : List ℕ) (t : Option (TaskAt Seen)) (n : ℕ) → turn_at plan barrier t n (record s { choices = choices }) ≡ turn_at plan barrier t n s
  turn_there choices None n = refl
  turn_there choices (Some t) n = turn_same plan barrier s choices s.clock n t

-- so it does whichever choices wait
pub chosen_still : (plan : Plan) (barrier : ℕ → Sight → Result Bool Raise) (s : All Seen) (choices : List ℕ) (m : Move) → Chosen plan barrier s m → Chosen plan barrier (record s { choices = choices }) m
chosen_still plan barrier s choices m h =
    subst (λ u. FitsTurn u m.task s.shared.calls m) (sym (turn_there plan barrier s choices (slice_get s.tasks m.task) m.task)) h
