-- The cells of the frames that there were before a step.
use Rattle.std.proofs.Common.{ℕ, zero, suc, ◌+◌, ◌<◌, ◌≤◌, ℤ, pos, nat_le, List, [], ◌∷◌, ◌++◌, length, replicate, Option, Some, None, Bool, true, false, Result, Ok, Err, if◌then◌else◌, slice_index_or, slice_set, ap, arith}
use Rattle.std.specs.Prelude.{int_le}
use Rattle.std.proofs.lemmas.Bool.{leb-true}
use Rattle.std.proofs.lemmas.List.{get_or_append_left, length-append, length-replicate, length-set}
use Rattle.aud_text.specs.declared.raise.Raise.{Raise}
use Rattle.aud_text.specs.declared.limits.Limits.{Limits}
use Rattle.aud_text.specs.declared.limits.TheConstants.{OUTPUT, ELEMENTS}
use Rattle.aud_typed.specs.Tree.{Plan}
use Rattle.aud_meaning.specs.Configuration.{Frame, Target, Back, Returning, Shared, All, Acting}
use Rattle.aud_meaning.specs.Control.{Asked, declares, declares_array, assigns, puts, enters_loop, next_of_loop, goes_out, enters_block, calls_procedure}
use Rattle.aud_meaning.specs.Evaluation.{Sight, in_range, nearest_zero}
use Rattle.aud_meaning.specs.Effects.{CopiedBack, assigned, back_by, copied_back, has_room, innermost, with_result}
use Rattle.aud_meaning.specs.Orders.{Orders}
use Rattle.aud_meaning.specs.Step.{has_next, loop_cell}
use Rattle.aud_meaning.specs.Why.Alone.{IsAlone, acts}
use Rattle.aud_meaning.specs.Why.Limits.{IsWithin}

-- each frame is still there, with at most so many cells more
pub record KeepsCells (more : ℕ) (old new : List Frame) : Type 0 where
  pub there : length old ≤ length new
  pub cells : (frame : ℕ) → frame < length old → length (slice_index_or new frame []) ≤ length (slice_index_or old frame []) + more

-- what a step has kept so far: the limits if they were kept at its start, and the cells of the frames that there were
pub record IsKept (C : Type 0) (limits : Limits) (start c : All C) : Type 0 where
  pub within : IsWithin C limits start → IsWithin C limits c
  pub cells : KeepsCells ELEMENTS start.shared.frames c.shared.frames

written : (more : ℕ) (frames : List Frame) (at frame : ℕ) (new : Frame) → length new ≤ length (slice_index_or frames at []) + more → length (slice_index_or (slice_set frames at new) frame []) ≤ length (slice_index_or frames frame []) + more
written more [] at frame new h = omega arith
written more (f ∷ fs) zero zero new h = h
written more (f ∷ fs) zero (suc frame) new h = omega arith
written more (f ∷ fs) (suc at) zero new h = omega arith
written more (f ∷ fs) (suc at) (suc frame) new h = written more fs at frame new h

pub all_kept : {more : ℕ} {old : List Frame} → KeepsCells more old old
all_kept = record { there = omega arith; cells = λ frame h. omega arith }

module _ {more : ℕ} {old new : List Frame} where
  pub opened : (added : Frame) → KeepsCells more old new → KeepsCells more old (new ++ added ∷ [])
  opened added k = record {
    there = omega (arith, length-append new (added ∷ []), k.there);
    cells = λ frame h. omega (arith, ap length (get_or_append_left new (added ∷ []) [] frame (omega (arith, h, k.there))), k.cells frame h);
  }

  -- a frame is written anew
  anew_kept : {few : ℕ} (slack frame : ℕ) (cells : Frame) → length cells ≤ length (slice_index_or new frame []) + slack → few + slack ≤ more → KeepsCells few old new → KeepsCells more old (slice_set new frame cells)
  anew_kept slack frame cells long room k = record {
    there = omega (arith, length-set new frame cells, k.there);
    cells = λ i h. omega (arith, written slack new frame i cells long, k.cells i h, room);
  }

  assigned_kept : (frame index : ℕ) (z : ℤ) → KeepsCells more old new → KeepsCells more old (assigned frame index z new)
  assigned_kept frame index z k = anew_kept 0 frame _ (omega (arith, length-set (slice_index_or new frame []) index z)) (omega arith) k

  pub declared : (frame : ℕ) (cells : List ℤ) → length cells ≤ more → KeepsCells 0 old new → KeepsCells more old (slice_set new frame (slice_index_or new frame [] ++ cells))
  declared frame cells room k = anew_kept (length cells) frame _ (omega (arith, length-append (slice_index_or new frame []) cells)) (omega (arith, room)) k

-- What a call gives back.

abbrev result_by : Returning → Option Raise → CopiedBack → CopiedBack
result_by r None b = with_result r.into r.value b
result_by r (Some raise) b = b

module _ {more : ℕ} {old : List Frame} where
  backed : {new : List Frame} (r : Result ℤ Raise) (target : Target) (go : List Frame → CopiedBack) → ((frames : List Frame) → KeepsCells more old frames → KeepsCells more old (go frames).frames) → KeepsCells more old new → KeepsCells more old (back_by r target new go).frames
  backed {new} (Ok z) target go g k = g (assigned target.frame target.index z new) (assigned_kept target.frame target.index z k)
  backed (Err raise) target go g k = k

  pub copied : {new : List Frame} (values : List ℤ) (bs : List Back) → KeepsCells more old new → KeepsCells more old (copied_back values bs new).frames
  copied values [] k = k
  copied values (b ∷ bs) k = backed (in_range b.target.subtype (slice_index_or values b.formal (pos 0))) b.target (λ fs. copied_back values bs fs) (λ fs l. copied values bs l) k

  into_kept : (into : Option Target) (value : Option ℤ) (b : CopiedBack) → KeepsCells more old b.frames → KeepsCells more old (with_result into value b).frames
  into_kept None value b k = k
  into_kept (Some target) None b k = k
  into_kept (Some target) (Some z) b k = backed (in_range target.subtype z) target (λ fs. record { frames = fs; raised = None }) (λ fs l. l) k

  pub resulted : (r : Returning) (raised : Option Raise) (b : CopiedBack) → KeepsCells more old b.frames → KeepsCells more old (result_by r raised b).frames
  resulted r None b k = into_kept r.into r.value b k
  resulted r (Some raise) b k = k

  either_kept : {A : Type 0} (frames : A → List Frame) (b : Bool) (x y : A) → KeepsCells more old (frames x) → KeepsCells more old (frames y) → KeepsCells more old (frames (if b then x else y))
  either_kept frames true x y h i = h
  either_kept frames false x y h i = i

-- What a task does alone.
module _ {C : Type 0} (go : Orders C) (plan : Plan) (barrier : ℕ → Sight → Result Bool Raise) where
  abbrev frames : Acting C → List Frame
  frames t = t.shared.frames

  pub acts_kept : (a : Asked) → IsAlone a → (t : Acting C) → KeepsCells ELEMENTS t.shared.frames (acts go plan barrier a t).shared.frames
  acts_kept (declares up_to z) is t = declared (innermost t.own.opened) (z ∷ []) (omega arith) all_kept
  acts_kept (declares_array at s n) is t = declared (innermost t.own.opened) (replicate n (nearest_zero s)) (omega (arith, length-replicate n (nearest_zero s), leb-true n ELEMENTS is)) all_kept
  acts_kept (assigns target z) is t = assigned_kept target.frame target.index z all_kept
  acts_kept (puts text) is t = either_kept (λ (s : Shared). s.frames) (nat_le (length (t.shared.output ++ text)) OUTPUT) _ _ all_kept all_kept
  acts_kept (enters_loop f a b) is t = either_kept frames (int_le a b) _ _ (either_kept frames (has_room t.own) _ _ (opened _ all_kept) all_kept) all_kept
  acts_kept (next_of_loop f) is t =
      either_kept frames (has_next f.backward (loop_cell go plan barrier 0 t) (loop_cell go plan barrier 1 t)) _ _ (assigned_kept (innermost t.own.opened) 0 _ all_kept) all_kept
  acts_kept (goes_out loops None) is t = all_kept
  acts_kept (goes_out loops (Some z)) is t = all_kept
  acts_kept (enters_block at region) is t = either_kept frames (has_room t.own) _ _ (opened _ all_kept) all_kept
  acts_kept (calls_procedure at unit p into) is t = either_kept frames (has_room t.own) _ _ (opened _ all_kept) all_kept
  acts_kept a is t = all_kept
