-- Why a place hands a bench back, as it is tested.
use Rattle.std.specs.Prelude.{◌==◌, ◌&&◌, not, if◌then◌else◌}
use Rattle.std.proofs.Common.{◌≡◌, List, [], ◌∷◌, length, Option, Some, None, Bool, true, false, refl, sym, ap, ◌∙◌, arith}
use Rattle.std.proofs.lemmas.Bool.Decides.{nat_tests}
use Rattle.aud_text.specs.declared.limits.Limits.{Limits}
use Rattle.aud_bench.specs.declared.request.Request.{Request}
use Rattle.aud_bench.specs.Same.{same_limits}
use Rattle.aud_bench.specs.Seen.{Seen as Bench}
use Rattle.aud_hall.specs.declared.why.Why.{Why}
use Rattle.aud_hall.specs.declared.why.Why.TheVariants.{OtherLimits, Differs, NotOut}
use Rattle.aud_hall.specs.Seats.{Seat}
use Rattle.aud_hall.specs.CheckIns.{first_difference, not_awaited, or_differs, at_nobodys}
use Rattle.aud_hall.specs.Halls.{Place}
use Rattle.aud_hall.specs.Ties.Places.{judged_at}
use Rattle.aud_hall.proofs.Truths.{not_false}

not_true : (b : Bool) → not b ≡ true → b ≡ false
not_true false e = refl
not_true true e = absurd (cc)

pub other_limits : (a b : Limits) → not ((a.tasks == b.tasks) && (a.source == b.source)) ≡ true → same_limits a b ≡ false
unfolding same_limits
other_limits a b e = not_true ((a.tasks == b.tasks) && (a.source == b.source)) e

pub own_limits : (a b : Limits) → not ((a.tasks == b.tasks) && (a.source == b.source)) ≡ false → same_limits a b ≡ true
unfolding same_limits
own_limits a b e = not_false ((a.tasks == b.tasks) && (a.source == b.source)) e

none_asked : (journal : List Request) → (length journal == 0) ≡ true → at_nobodys journal ≡ NotOut
none_asked [] e = refl
none_asked (x ∷ journal) e = absurd (grind (arith, nat_tests, e))

some_asked : (journal : List Request) → (length journal == 0) ≡ false → at_nobodys journal ≡ Differs 0
some_asked [] e = absurd (grind (arith, nat_tests, e))
some_asked (x ∷ journal) e = refl

-- the limits of a bench are read and compared with those of the place
module _ (limits : Limits) (o : Option Seat) (now : Place) (view : record { limits = limits; seat = o } ≡ now) (b : Bench) (own : Limits) (own_is : own ≡ b.limits) (ne : Bool)
    (ne_is : ne ≡ not ((own.tasks == limits.tasks) && (own.source == limits.source))) where
  seen_at : judged_at now now.seat b ≡ judged_at (record { limits = limits; seat = o }) o b
  seen_at = ap (λ (p : Place). judged_at p p.seat b) (sym view)

  pub other_is : ne ≡ true → Some OtherLimits ≡ judged_at now now.seat b
  other_is e = sym (seen_at ∙ by o)
    where
      same : same_limits b.limits limits ≡ false
      same = ap (λ l. same_limits l limits) (sym own_is) ∙ other_limits own limits (sym ne_is ∙ e)

      by : (p : Option Seat) → judged_at (record { limits = limits; seat = o }) p b ≡ Some OtherLimits
      by None = ap (λ c. Some (if c then at_nobodys b.journal else OtherLimits)) same
      by (Some s) = ap (λ c. if c then or_differs (first_difference b.journal s.requests) (not_awaited b s.outbox s.home) else Some OtherLimits) same

  module _ (e : ne ≡ false) where
    same : same_limits b.limits limits ≡ true
    same = ap (λ l. same_limits l limits) (sym own_is) ∙ own_limits own limits (sym ne_is ∙ e)

    pub claimed_is : (s : Seat) → o ≡ Some s → or_differs (first_difference b.journal s.requests) (not_awaited b s.outbox s.home) ≡ judged_at now now.seat b
    claimed_is s is =
        sym
        (seen_at ∙ ap (λ (p : Option Seat). judged_at (record { limits = limits; seat = o }) p b) is
        ∙ ap (λ c. if c then or_differs (first_difference b.journal s.requests) (not_awaited b s.outbox s.home) else Some OtherLimits) same)

    vacant_is : o ≡ None → judged_at now now.seat b ≡ Some (at_nobodys b.journal)
    vacant_is is =
        seen_at ∙ ap (λ (p : Option Seat). judged_at (record { limits = limits; seat = o }) p b) is ∙ ap (λ c. Some (if c then at_nobodys b.journal else OtherLimits)) same

    module _ (journal : List Request) (journal_is : journal ≡ b.journal) (is : o ≡ None) where
      pub not_out : (length journal == 0) ≡ true → Some NotOut ≡ judged_at now now.seat b
      not_out none = sym (vacant_is is ∙ ap (λ (w : Why). Some w) (ap at_nobodys (sym journal_is) ∙ none_asked journal none))

      pub differs : (length journal == 0) ≡ false → Some (Differs 0) ≡ judged_at now now.seat b
      differs some = sym (vacant_is is ∙ ap (λ (w : Why). Some w) (ap at_nobodys (sym journal_is) ∙ some_asked journal some))
