-- A collect that finds something.
use Rattle.std.specs.Prelude.{nat_lt, ◌==◌, if◌then◌else◌}
use Rattle.std.proofs.Common.{◌≡◌, ℕ, ◌+◌, ◌-◌, ◌<◌, List, ◌++◌, length, drop, Option, None, Ok, Err, false, sym, ap, ◌∙◌, subst, arith, length-append, length-drop}
use Rattle.std.proofs.lemmas.Bool.Decides.{nat_tests}
use Rattle.aud_bench.specs.declared.request.Answer.{Answer}
use Rattle.aud_hall.specs.Numbered.{IsPrefix}
use Rattle.aud_hall.specs.Halls.{Place}
use Rattle.aud_hall.specs.Told.{IsToldAt}
use Rattle.aud_hall.specs.Ties.Places.{outbox_at}
use Rattle.aud_hall.proofs.Lists.{front_rest}
use Rattle.aud_hall.proofs.Truths.{lt_true}
use Rattle.aud_pass.specs.declared.got.Got.TheVariants.{Idle, New, Busy}
use Rattle.aud_pass.specs.declared.fault.DeskFault.TheVariants.{Memory}
use Rattle.aud_pass.specs.Passed.{Passed, is_over, IsGot}
use Rattle.aud_pass.specs.Replies.{IsWhole, IsAwaited}
use Rattle.aud_pass.specs.Sections.{not_there, Collected, leaves, takes, collected_by}
use Rattle.aud_pass.proofs.Overs.{answers_got, fewer, whole, front_longer}
use Rattle.aud_pass.proofs.Places.{answers_there}

abbrev pub with_got : List Answer → Passed → Passed
with_got got p = record { seat = p.seat; limits = p.limits; sent = p.sent; got = got }

-- what a collect that finds so many answers more leaves
abbrev pub after : List Answer → Passed → Collected
after new p = record { reply = Ok (New (length new)); pass = with_got (p.got ++ new) p }

module _ (p : Passed) (right : IsGot p.limits p.sent p.got) (over : is_over p.got ≡ false) where
  pub is_whole : length p.got ≡ length p.sent → IsWhole p
  is_whole same = record { over = over; count = same; all = whole p.limits p.sent p.got right over same }

  module _ (apart : (length p.got == length p.sent) ≡ false) where
    pub awaited : IsAwaited p
    awaited = record { over = over; fewer = fewer p.limits p.sent p.got right over (λ same. unlike (length p.got) (length p.sent) apart same) }
      where
        unlike : (n m : ℕ) → (n == m) ≡ false → n ≡ m → ⊥
        unlike n m differ same = absurd (grind (arith, nat_tests, differ, same))

    module _ (o : Option Place) (there : not_there p o ≡ None) (t : IsToldAt o) (new : List Answer) (new_is : new ≡ drop (length p.got) (outbox_at o)) (some : 0 < length new) where
      longer : length p.got < length (outbox_at o)
      longer = omega (arith, ap length new_is, length-drop (length p.got) (outbox_at o), some)

      begins : IsPrefix p.got (outbox_at o)
      begins =
          let is = answers_there p o there t in
          front_longer p.limits p.sent p.got right over is.0 (outbox_at o) is.1 longer

      outbox_is : p.got ++ new ≡ outbox_at o
      outbox_is = ap (λ xs. p.got ++ xs) new_is ∙ front_rest p.got (outbox_at o) begins

      pub got_new : IsGot p.limits p.sent (p.got ++ new)
      got_new =
          let is = answers_there p o there t in
          subst (λ xs. IsGot p.limits p.sent xs) (sym outbox_is) (answers_got p.limits p.sent is.0 (outbox_at o) is.1)

      here : collected_by None (outbox_at o) p ≡ takes (outbox_at o) p
      here =
          ap (λ c. if c then leaves (Err Memory) p else if length p.got == length p.sent then leaves (Ok Idle) p else if nat_lt (length p.got) (length (outbox_at o)) then takes (outbox_at o) p else leaves (Ok Busy) p) over
          ∙ ap (λ c. if c then leaves (Ok Idle) p else if nat_lt (length p.got) (length (outbox_at o)) then takes (outbox_at o) p else leaves (Ok Busy) p) apart
          ∙ ap (λ c. if c then takes (outbox_at o) p else leaves (Ok Busy) p) (lt_true (length p.got) (length (outbox_at o)) longer)

      pub collected_new : collected_by (not_there p o) (outbox_at o) p ≡ after new p
      collected_new =
          let count : length (outbox_at o) - length p.got ≡ length new = omega (arith, ap length outbox_is, length-append p.got new) in
          ap (λ f. collected_by f (outbox_at o) p) there ∙ here
          ∙ ap (λ n. record { reply = Ok (New n); pass = with_got (outbox_at o) p }) count
          ∙ ap (λ xs. record { reply = Ok (New (length new)); pass = with_got xs p }) (sym outbox_is)
