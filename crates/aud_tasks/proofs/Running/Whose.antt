-- Whose a move is.
use Rattle.std.proofs.Common.{◌≡◌, ℕ, zero, suc, List, [], ◌∷◌, Option, Some, None, Result, Ok, Err, Bool, true, false, not, map, refl}
use Rattle.std.specs.Prelude.{filter, nat_le}
use Rattle.aud_text.specs.declared.raise.Raise.{Raise}
use Rattle.aud_typed.specs.Tree.{Plan}
use Rattle.aud_meaning.specs.declared.state.Move.{Move}
use Rattle.aud_meaning.specs.declared.state.OpenDelay.{OpenDelay}
use Rattle.aud_meaning.specs.Configuration.{All}
use Rattle.aud_meaning.specs.Evaluation.{Sight}
use Rattle.aud_meaning.specs.Control.{Seen, Coming, simply, ending, selecting, calling, starting}
use Rattle.aud_meaning.specs.Parts.{Closable, body_master, own_of, call_of, object_of, is_idle, in_the_way, open_alternatives}
use Rattle.aud_meaning.specs.Tasks.{eligible}
use Rattle.aud_meaning.specs.Run.{Turn, resting, closing, completing, withdrawing, serving, restarting, expiring, cancelling, acting, own_move, picks, only, each_or_one, serve_moves, end_moves, call_moves, call_time, ending_moves, acting_moves, again_left, master_left_by, construct_left, alternatives_of, has_queue, turn_moves}

abbrev pub AreOf : ℕ → List Move → Type 0
AreOf n [] = Unit {0}
AreOf n (m ∷ ms) = (m.task ≡ n) × AreOf n ms

picks_of : (n a : ℕ) → (picks n a).task ≡ n
picks_of n zero = refl
picks_of n (suc a) = refl

map_of : {A : Type 0} (n : ℕ) (f : A → Move) → ((x : A) → (f x).task ≡ n) → (xs : List A) → AreOf n (map f xs)
map_of n f h [] = tt
map_of n f h (x ∷ xs) = (h x, map_of n f h xs)

module _ (plan : Plan) (barrier : ℕ → Sight → Result Bool Raise) where
  only_of : (b : Bool) (n : ℕ) → AreOf n (only plan barrier b n)
  only_of true n = (refl, tt)
  only_of false n = tt

  each_of : (ns : List ℕ) (n : ℕ) → AreOf n (each_or_one plan barrier ns n)
  each_of [] n = (refl, tt)
  each_of (a ∷ more) n = map_of n (picks n) (picks_of n) (a ∷ more)

  serve_of : (r : Result (List ℕ) Raise) (n : ℕ) → AreOf n (serve_moves plan barrier r n)
  serve_of (Err x) n = (refl, tt)
  serve_of (Ok places) n = each_of places n

  end_of : (master : Option ℕ) (n : ℕ) (c : All Seen) → AreOf n (end_moves plan barrier master n c)
  end_of None n c = (refl, tt)
  end_of (Some master) n c = only_of (Closable master c) n

  call_of_task : (task : Option ℕ) (entry n : ℕ) (c : All Seen) → AreOf n (call_moves plan barrier task entry n c)
  call_of_task None entry n c = (refl, tt)
  call_of_task (Some task) entry n c = each_of (alternatives_of plan barrier (open_alternatives (own_of task c) entry)) n

  ending_of : (again : Option (ℕ × ℕ)) (n : ℕ) (c : All Seen) → AreOf n (ending_moves plan barrier again n c)
  ending_of None n c = end_of (master_left_by (construct_left (own_of n c))) n c
  ending_of (Some x) n c = call_of_task (Some x.0) x.1 n c

  acting_of : (x : Coming) (n : ℕ) (c : All Seen) → AreOf n (acting_moves plan barrier x n c)
  acting_of (simply w) n c = (refl, tt)
  acting_of ending n c = ending_of (again_left (own_of n c).pending (own_of n c).again (construct_left (own_of n c))) n c
  acting_of (selecting ones) n c = each_of (alternatives_of plan barrier (filter (has_queue plan barrier n c) ones)) n
  acting_of (calling task entry) n c = call_of_task task entry n c
  acting_of (starting object reading) n c = only_of (not (in_the_way n reading (object_of object c))) n

  pub moves_of : (u : Turn) (n : ℕ) (c : All Seen) → AreOf n (turn_moves plan barrier u n c)
  moves_of resting n c = tt
  moves_of closing n c = only_of (Closable (body_master (own_of n c)) c) n
  moves_of completing n c = (refl, tt)
  moves_of (withdrawing object) n c = only_of (is_idle (object_of object c)) n
  moves_of (restarting r) n c = only_of (not (in_the_way n false (object_of r.object c))) n
  moves_of (serving s) n c = serve_of (eligible plan barrier s.object c) n
  moves_of (expiring delays) n c = map_of n (λ (d : OpenDelay). picks n d.alternative) (λ d. picks_of n d.alternative) (filter (λ (d : OpenDelay). nat_le d.time c.clock) delays)
  moves_of (cancelling id) n c = map_of n (λ (time : ℕ). own_move n) (λ time. refl) (filter (λ time. nat_le time c.clock) (call_time plan barrier (call_of id c) c))
  moves_of (acting next) n c = acting_of next n c
