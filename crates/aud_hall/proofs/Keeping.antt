-- What stays right at a place of the hall.
use Rattle.std.proofs.Common.{◌≡◌, ℕ, Option, Some, None, Bool, sym, ap, ◌∙◌, subst}
use Rattle.std.proofs.Math.Logic.{∥∥₁_elim, ∥∥₁_map}
use native.Mathlib.Bridge.{le_prop}
use Rattle.aud_text.specs.declared.limits.Limits.{Limits}
use Rattle.aud_bench.specs.declared.request.Request.{Request}
use Rattle.aud_bench.specs.Seen.{Seen as Bench}
use Rattle.aud_hall.specs.Replies.{Reply, Then}
use Rattle.aud_hall.specs.Seats.{Seat, Sending, claimed, submitted, sent, taken_in}
use Rattle.aud_hall.specs.CheckIns.{judged, checked}
use Rattle.aud_hall.specs.Ties.Right.{IsTrue, IsRight, IsRightSeat}
use Rattle.aud_hall.proofs.Seats.{IsGone, claimed_right, submitted_right, sent_right}
use Rattle.aud_hall.proofs.CheckIns.{checked_right}

pub claimed_kept : (limits : Limits) (s : Seat) → s ≡ claimed limits → ∥ IsRightSeat limits (Some s) ∥₁
claimed_kept limits s is = ∣ subst (IsRight limits) (sym is) (claimed_right limits) ∣₁

module _ (limits : Limits) (o : Option Seat) (s : Seat) (is : o ≡ Some s) (right : ∥ IsRightSeat limits o ∥₁) where
  pub right_there : ∥ IsRight limits s ∥₁
  right_there = subst (λ (p : Option Seat). ∥ IsRightSeat limits p ∥₁) is right

  module _ (after : Seat) where
    pub submitted_kept : (r : Request) (refused : Bool) (reply : Reply) → submitted r refused s ≡ record { now = after; reply = reply } → ∥ IsRightSeat limits (Some after) ∥₁
    submitted_kept r refused reply e = ∥∥₁_map right_there (λ (h : IsRight limits s). subst (λ (t : Then Seat). IsRight limits t.now) e (submitted_right limits r refused s h))

    module _ (gone : Option Bench) (e : (refused : Option ℕ) × (sent refused s ≡ record { seat = after; gone = gone })) where
      pub sent_kept : ∥ IsRightSeat limits (Some after) ∥₁
      sent_kept = ∥∥₁_map right_there (λ (h : IsRight limits s). subst (λ (t : Sending). IsRight limits t.seat) e.1 (sent_right limits e.0 s h).0)

      -- the bench that went out is right by itself
      pub gone_true : (b : Bench) → gone ≡ Some b → IsTrue b
      gone_true b some =
          let at : IsRight limits s → IsTrue b = λ h. subst IsGone some (subst (λ (t : Sending). IsGone t.gone) e.1 (sent_right limits e.0 s h).1) in
          record {
            within = ∥∥₁_elim right_there le_prop (λ h. (at h).within);
            taken = ∥∥₁_elim right_there le_prop (λ h. (at h).taken);
            short = λ closed. ∥∥₁_elim right_there le_prop (λ h. (at h).short closed);
          }

    pub taken_kept : (b : Bench) → IsTrue b → judged limits b s ≡ None → after ≡ taken_in b s → ∥ IsRightSeat limits (Some after) ∥₁
    taken_kept b holds none e =
        ∥∥₁_map right_there
        (λ (h : IsRight limits s). subst (IsRight limits) (ap (λ why. (checked why b s).now) none ∙ sym e) (checked_right limits b s h holds))
