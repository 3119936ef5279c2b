-- A slice that does nothing, and after which the bench is open, finds nothing left to do.
use Rattle.std.specs.Prelude.{◌||◌, if◌then◌else◌}
use Rattle.std.proofs.Common.{◌≡◌, ℕ, ◌+◌, ◌<◌, ◌≤◌, length, None, Bool, true, false, refl, sym, ap, ◌∙◌, arith, length-append}
use Rattle.aud_bench.specs.Alone.{cost, made}
use Rattle.aud_bench.specs.Seen.{Seen as Bench, unanswered}
use Rattle.aud_bench.proofs.Made.{made_all, made_grows}
use Rattle.aud_hall.specs.Slices.{done, lesser, sliced}
use Rattle.aud_hall.specs.Ties.Said.{cut_in}

pub idle : (units : ℕ) (b after : Bench) (d : ℕ) → 0 < units → after ≡ sliced units (cut_in after.spent d) b → d ≡ done units (cut_in after.spent d) b → d ≡ 0 → after.spent ≡ false → unanswered after ≡ 0
idle units b after d some sliced_is done_is none is_open =
    by b.spent refl (sliced_is ∙ ap (λ c. sliced units (cut_in c d) b) is_open) (done_is ∙ ap (λ c. done units (cut_in c d) b) is_open)
  where
    by : (c : Bool) → b.spent ≡ c → after ≡ sliced units None b → d ≡ done units None b → unanswered after ≡ 0
    by true e whole exact =
        let closed : true ≡ false = sym (ap (λ c. c || false) e) ∙ sym (ap (λ x. x.spent) whole) ∙ is_open in
        absurd (cc)
    by false e whole exact =
        let nothing : lesser units b ≡ 0 = sym (ap (λ c. if c then 0 else lesser units b) e) ∙ sym exact ∙ none in
        let all : cost b.limits b.journal ≤ b.units + done units None b = omega (arith, nothing, some) in
        let more = made_grows b.limits b.journal (cost b.limits b.journal) (b.units + done units None b) all in
        let count = made_all b.limits b.journal in
        ap unanswered whole ∙ omega (arith, ap length more.1, length-append (made b.limits b.journal (cost b.limits b.journal)) more.0, count)
