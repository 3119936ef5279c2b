-- The answers at a seat that is right are those of a private server.
use Rattle.std.proofs.Common.{◌≡◌, ◌-◌, List, ◌++◌, length, take, Option, Some, None, Bool, true, false, sym, ap, ◌∙◌, arith, append-nil, length-append}
use Rattle.std.proofs.Math.Logic.{∥∥₁_elim}
use Rattle.std.specs.Coded.{Coded-set, Unit-prop, coded_list}
use Rattle.aud_text.specs.declared.limits.Limits.{Limits}
use Rattle.aud_bench.specs.declared.request.Request.{Request}
use Rattle.aud_bench.specs.declared.request.Answer.{Answer}
use Rattle.aud_bench.specs.contracts.request.Request as asked
use Rattle.aud_bench.specs.contracts.request.Answer as answered
use Rattle.aud_bench.specs.Alone.{alone, made}
use Rattle.aud_bench.specs.Ties.Kept.{is_kept}
use Rattle.aud_bench.specs.Seen.{Seen as Bench, told}
use Rattle.aud_hall.specs.Numbered.{IsPrefix}
use Rattle.aud_hall.specs.Seats.{Seat, has_closed}
use Rattle.aud_hall.specs.Told.{AreAnswers, IsFrontAtHome, IsToldIn}
use Rattle.aud_hall.specs.Ties.Right.{IsMade, IsRight, IsRightSeat}
use Rattle.aud_hall.proofs.Lists.{begins_front, front_begins}
use Rattle.aud_hall.proofs.Seats.{front_of_alone, away_front}

-- some of the answers, and perhaps that memory was refused
front_told : (answers some all : List Answer) (closed : Bool) → answers ≡ some ++ told closed → IsPrefix some all → answers ≡ take (length answers - length (told closed)) all ++ told closed
front_told answers some all closed is f =
    let n : length answers - length (told closed) ≡ length some = omega (arith, ap length is, length-append some (told closed)) in
    is ∙ ap (λ xs. xs ++ told closed) (sym (front_begins some all f)) ∙ ap (λ k. take k all ++ told closed) (sym n)

module _ (limits : Limits) (s : Seat) where
  told_by : (home : Option Bench) → is_kept s.requests ≡ true → IsMade limits s home → AreAnswers limits s.requests (has_closed home) s.outbox
  told_by None kept m = front_told s.outbox s.outbox (alone limits s.requests) false (sym (append-nil s.outbox)) (away_front limits s kept m)
  told_by (Some b) kept m =
      front_told s.outbox (made limits b.journal b.units) (alone limits s.requests) b.spent m.outbox
      (front_of_alone limits b.journal s.requests b.units (begins_front b.journal s.requests m.front) m.within kept)

  home_by : (home : Option Bench) → IsMade limits s home → IsFrontAtHome s.requests home
  home_by None m = tt
  home_by (Some b) m = m.front

home_prop : (requests : List Request) (home : Option Bench) → IsProp (IsFrontAtHome requests home)
home_prop requests None = Unit-prop
home_prop requests (Some b) = Coded-set (coded_list asked.the_row.coded) _ _

pub told_in : (limits : Limits) (o : Option Seat) → ∥ IsRightSeat limits o ∥₁ → IsToldIn limits o
told_in limits None right = tt
told_in limits (Some s) right = record {
  outbox = ∥∥₁_elim right (Coded-set (coded_list answered.the_row.coded) _ _) (λ (h : IsRight limits s). told_by limits s s.home h.kept h.bench);
  home = ∥∥₁_elim right (home_prop s.requests s.home) (λ (h : IsRight limits s). home_by limits s s.home h.bench);
}
