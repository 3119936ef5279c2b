-- Moves that are enabled.
use Rattle.std.proofs.Common.{◌≡◌, ℕ, suc, List, [], ◌∷◌, ◌++◌, map, filter, Option, Some, None, Bool, true, false, Result, refl, sym, ap, ◌∙◌, subst, if◌then◌else◌, slice_get, slice_index_or}
use Rattle.std.proofs.lemmas.Option.{same_Some}
use Rattle.std.specs.Prelude.{◌&&◌, ◌||◌, not, nat_le}
use Rattle.aud_text.specs.declared.raise.Raise.{Raise}
use Rattle.aud_typed.specs.Tree.{Plan}
use Rattle.aud_meaning.specs.declared.state.Move.{Move}
use Rattle.aud_meaning.specs.declared.state.Owner.{Owner}
use Rattle.aud_meaning.specs.declared.state.Owner.TheVariants as owner
use Rattle.aud_meaning.specs.Configuration.{Own, Shared, TaskAt, All}
use Rattle.aud_meaning.specs.Evaluation.{Sight}
use Rattle.aud_meaning.specs.Control.{Coming, simply, ending, selecting, calling, starting, Seen, Controls}
use Rattle.aud_meaning.specs.Parts.{Closable, any, body_master, call_of, depends, in_the_way, is_idle, is_queued, may_terminate, nobody, object_of, own_of, owns}
use Rattle.aud_meaning.specs.Run.{Turn, resting, closing, completing, withdrawing, serving, restarting, expiring, cancelling, acting, acting_moves, again_left, call_time_by, construct_left, end_moves, ending_moves, has_ended, master_left_by, moves, moves_at, moves_by, moves_from, only, own_move, owner_idle, seen, seen_from, turn, turn_at, turn_moves}
use Rattle.aud_meaning.proofs.Counts.{Of, turn_of}
use Rattle.aud_meaning.proofs.Open.Picked.{AllMoves, at_number}
use Rattle.aud_code.specs.Places.{Spot}
use Rattle.aud_code.specs.Flat.{flat_controls}
use Rattle.aud_framed.specs.Enabled.{ComingTells, EnabledLaw, IsIdleOwner, TurnTells}
use Rattle.aud_framed.proofs.Stepping.Eligible.{serve_tells}

module _ (P : Move → Type 0) where
  each_move : ((m : Move) → P m) → (ms : List Move) → AllMoves P ms
  each_move g [] = tt
  each_move g (m ∷ ms) = (g m, each_move g ms)

  joined : (ms ns : List Move) → AllMoves P ms → AllMoves P ns → AllMoves P (ms ++ ns)
  joined [] ns h i = i
  joined (m ∷ ms) ns h i = (h.0, joined ms ns h.1 i)

not_so : (b : Bool) → not b ≡ true → b ≡ false
not_so false h = refl
not_so true h = absurd cc

module _ (plan : Plan) (barrier : ℕ → Sight → Result Bool Raise) (s : All Seen) where
  module _ (n : ℕ) where
    only_tells : (P : Type 0) (b : Bool) → (b ≡ true → P) → AllMoves (λ m. P) (only plan barrier b n)
    only_tells P true h = (h refl, tt)
    only_tells P false h = tt

    ends_tell : AllMoves (λ m. ComingTells n s ending) (ending_moves plan barrier (again_left (own_of n s).pending (own_of n s).again (construct_left (own_of n s))) n s)
    ends_tell = by (again_left (own_of n s).pending (own_of n s).again (construct_left (own_of n s))) refl
      where
        left : (y : Option ℕ) → master_left_by (construct_left (own_of n s)) ≡ y → AllMoves (λ m. ComingTells n s ending) (end_moves plan barrier y n s)
        left None e = (λ a master q. let wrong : None ≡ Some master = sym e ∙ q in absurd cc, tt)
        left (Some one) e = only_tells (ComingTells n s ending) (Closable one s) (λ h a master q. subst (λ k. Closable k s ≡ true) (same_Some one master (sym e ∙ q)) h)

        by : (x : Option (ℕ × ℕ)) → again_left (own_of n s).pending (own_of n s).again (construct_left (own_of n s)) ≡ x → AllMoves (λ m. ComingTells n s ending) (ending_moves plan barrier x n s)
        by None e = left (master_left_by (construct_left (own_of n s))) refl
        by (Some x) e = each_move _ (λ m a. let wrong : None ≡ Some x = sym a ∙ e in absurd cc) _

    next_tells : (next : Coming) → AllMoves (λ m. ComingTells n s next) (acting_moves plan barrier next n s)
    next_tells (simply w) = (tt, tt)
    next_tells ending = ends_tell
    next_tells (selecting ones) = each_move _ (λ m. tt) _
    next_tells (calling task entry) = each_move _ (λ m. tt) _
    next_tells (starting object reading) = only_tells _ (not (in_the_way n reading (object_of object s))) (λ h. not_so (in_the_way n reading (object_of object s)) h)

    idle_same : (o : Owner) → owner_idle plan barrier o s ≡ IsIdleOwner n s o
    idle_same (owner.Task m) = refl
    idle_same (owner.Object o) = refl

    call_tells : (id : ℕ) → AllMoves (λ m. TurnTells plan m.alternative n s (cancelling id)) (turn_moves plan barrier (cancelling id) n s)
    call_tells id = by (is_queued (call_of id s).state && not (call_of id s).stays && owner_idle plan barrier (call_of id s).owner s) refl
      where
        by : (b : Bool) → is_queued (call_of id s).state && not (call_of id s).stays && owner_idle plan barrier (call_of id s).owner s ≡ b → AllMoves (λ m. TurnTells plan m.alternative n s (cancelling id)) (map (λ time. own_move n) (filter (λ time. nat_le time s.clock) (if b then call_time_by (call_of id s).form else [])))
        by true e = each_move _ (λ m. ap (λ i. is_queued (call_of id s).state && not (call_of id s).stays && i) (sym (idle_same (call_of id s).owner)) ∙ e) _
        by false e = tt

    turn_tells : (u : Turn) → AllMoves (λ m. TurnTells plan m.alternative n s u) (turn_moves plan barrier u n s)
    turn_tells resting = tt
    turn_tells closing = only_tells _ (Closable (body_master (own_of n s)) s) (λ h. h)
    turn_tells completing = (tt, tt)
    turn_tells (withdrawing object) = only_tells _ (is_idle (object_of object s)) (λ h. h)
    turn_tells (serving v) = serve_tells plan barrier n v s
    turn_tells (restarting r) = only_tells _ (not (in_the_way n false (object_of r.object s))) (λ h. not_so (in_the_way n false (object_of r.object s)) h)
    turn_tells (expiring ds) = each_move _ (λ m. tt) _
    turn_tells (cancelling id) = call_tells id
    turn_tells (acting next) = next_tells next

  abbrev pub Told : Move → Type 0
  Told m = TurnTells plan m.alternative m.task s (turn_at plan barrier (slice_get s.tasks m.task) m.task s)

  task_told : (n : ℕ) (u : Turn) (ms : List Move) → turn_at plan barrier (slice_get s.tasks n) n s ≡ u → Of n ms → AllMoves (λ m. TurnTells plan m.alternative n s u) ms → AllMoves Told ms
  task_told n u [] e o h = tt
  task_told n u (m ∷ ms) e o h =
      (subst (λ i. TurnTells plan m.alternative i s (turn_at plan barrier (slice_get s.tasks i) i s)) (sym o.0) (subst (λ v. TurnTells plan m.alternative n s v) (sym e) h.0), task_told n u ms e o.1 h.1)

  abbrev Found : ℕ → List (TaskAt Seen) → (ℕ → Option (TaskAt Seen)) → Type 0
  Found n [] look = Unit {0}
  Found n (t ∷ ts) look = (look n ≡ Some t) × Found (suc n) ts look

  found_on : (n : ℕ) (ts : List (TaskAt Seen)) (look : ℕ → Option (TaskAt Seen)) → Found n ts (λ i. look (suc i)) → Found (suc n) ts look
  found_on n [] look h = tt
  found_on n (t ∷ ts) look h = (h.0, found_on (suc n) ts look h.1)

  found_all : (ts : List (TaskAt Seen)) → Found 0 ts (λ i. slice_get ts i)
  found_all [] = tt
  found_all (t ∷ ts) = (refl, found_on 0 ts (λ i. slice_get (t ∷ ts) i) (found_all ts))

  from_told : (n : ℕ) (ts : List (TaskAt Seen)) → Found n ts (λ i. slice_get s.tasks i) → AllMoves Told (moves_from plan barrier n ts s)
  from_told n [] h = tt
  from_told n (t ∷ ts) h =
      let u : Turn = turn plan barrier n t s in
      joined Told (turn_moves plan barrier u n s) (moves_from plan barrier (suc n) ts s)
      (task_told n u (turn_moves plan barrier u n s) (ap (λ o. turn_at plan barrier o n s) h.0) (turn_of plan barrier u n s) (turn_tells n u)) (from_told (suc n) ts h.1)

  by_told : (ended cut : Bool) → AllMoves Told (moves_by plan barrier ended cut s)
  by_told true cut = tt
  by_told false true = tt
  by_told false false = from_told 0 s.tasks (found_all s.tasks)

  pub all_told : AllMoves Told (moves plan barrier s)
  all_told = by_told (has_ended plan barrier s.tasks) s.shared.cut

-- What is seen has the tasks and what they share.
module _ (plan : Plan) (k : Controls Spot) (c : All Spot) where
  owns_from : (i : ℕ) (ts : List (TaskAt Spot)) (os : List Own) (shared : Shared) → owns (seen_from plan k i ts os shared) ≡ owns ts
  owns_from i [] os shared = refl
  owns_from i (t ∷ ts) os shared = ap (λ us. t.own ∷ us) (owns_from (suc i) ts os shared)

  any_from : (p : Own → Bool) (i : ℕ) (ts : List (TaskAt Spot)) (os : List Own) (shared : Shared) → any (λ (t : TaskAt Seen). p t.own) (seen_from plan k i ts os shared) ≡ any (λ (t : TaskAt Spot). p t.own) ts
  any_from p i [] os shared = refl
  any_from p i (t ∷ ts) os shared = ap (λ b. p t.own || b) (any_from p (suc i) ts os shared)

  pub own_seen : (n : ℕ) → own_of n (seen plan k c) ≡ own_of n c
  own_seen n = ap (λ os. slice_index_or os n nobody) (owns_from 0 c.tasks (owns c.tasks) c.shared)

  pub closable_seen : (master : ℕ) → Closable master (seen plan k c) ≡ Closable master c
  closable_seen master = ap (λ b. not b) (any_from (λ own. depends master own && not (may_terminate own)) 0 c.tasks (owns c.tasks) c.shared)

  coming_there : (n : ℕ) (next : Coming) → ComingTells n (seen plan k c) next → ComingTells n c next
  coming_there n (simply w) h = tt
  coming_there n ending h =
      λ a master q. sym (closable_seen master)
      ∙ h (ap (λ (o : Own). again_left o.pending o.again (construct_left o)) (own_seen n) ∙ a) master (ap (λ (o : Own). master_left_by (construct_left o)) (own_seen n) ∙ q)
  coming_there n (selecting ones) h = tt
  coming_there n (calling task entry) h = tt
  coming_there n (starting object reading) h = h

  idle_there : (n : ℕ) (o : Owner) → IsIdleOwner n (seen plan k c) o ≡ IsIdleOwner n c o
  idle_there n (owner.Task m) = refl
  idle_there n (owner.Object m) = refl

  pub tells_there : (alternative : Option ℕ) (n : ℕ) (u : Turn) → TurnTells plan alternative n (seen plan k c) u → TurnTells plan alternative n c u
  tells_there alternative n resting h = tt
  tells_there alternative n closing h =
      sym (closable_seen (body_master (own_of n c)))
      ∙ (ap (λ (o : Own). Closable (body_master o) (seen plan k c)) (sym (own_seen n)) ∙ h)
  tells_there alternative n completing h = tt
  tells_there alternative n (withdrawing object) h = h
  tells_there alternative n (serving s) h = h
  tells_there alternative n (restarting r) h = h
  tells_there alternative n (expiring ds) h = tt
  tells_there alternative n (cancelling id) h = ap (λ i. is_queued (call_of id c).state && not (call_of id c).stays && i) (sym (idle_there n (call_of id c).owner)) ∙ h
  tells_there alternative n (acting next) h = coming_there n next h

pub enabled_tells : EnabledLaw
enabled_tells plan code c number m is =
    let k = flat_controls plan code in
    tells_there plan k c m.alternative m.task _
    (at_number (Told plan k.barrier (seen plan k c)) (moves_at plan k c) number m is (all_told plan k.barrier (seen plan k c)))
