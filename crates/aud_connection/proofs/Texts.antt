-- One thing more is told.
use Rattle.std.proofs.Common.{◌≡◌, ◌||◌, ℕ, List, [], ◌∷◌, ◌++◌, Bool, true, false, refl, sym, ap, ◌∙◌, subst, append-nil, append_assoc}
use Rattle.std.specs.List.{list_any}
use Rattle.aud_text.specs.declared.limits.Limits.{Limits}
use Rattle.aud_bench.specs.declared.request.Request.{Request}
use Rattle.aud_bench.specs.declared.request.Request.TheVariants as request
use Rattle.aud_bench.specs.declared.request.Answer.{Answer}
use Rattle.aud_bench.specs.Alone.{is_quit}
use Rattle.aud_pass.specs.declared.fault.DeskFault.{DeskFault}
use Rattle.aud_pass.specs.declared.fault.DeskFault.TheVariants.{NotClaimed}
use Rattle.aud_connection.specs.Told.{Told, Answered, Faulted, told_text, told_texts, all_answered, are_answers, IsRefused, AreRefused, IsTold, AreTold}

pub texts_more : (told : List Told) (t : Told) → told_texts (told ++ t ∷ []) ≡ told_texts told ++ told_text t
texts_more [] t = append-nil (told_text t)
texts_more (x ∷ told) t = ap (λ rest. told_text x ++ rest) (texts_more told t) ∙ sym (append_assoc (told_text x) (told_texts told) (told_text t))

pub answered_more : (answers : List Answer) (a : Answer) → all_answered (answers ++ a ∷ []) ≡ all_answered answers ++ Answered a ∷ []
answered_more [] a = refl
answered_more (x ∷ answers) a = ap (λ rest. Answered x ∷ rest) (answered_more answers a)

pub answer_more : (told : List Told) (a : Answer) → are_answers (told ++ Answered a ∷ []) ≡ are_answers told
answer_more [] a = refl
answer_more (Answered x ∷ told) a = answer_more told a
answer_more (Faulted f ∷ told) a = refl

pub fault_more : (told : List Told) (f : DeskFault) → are_answers (told ++ Faulted f ∷ []) ≡ false
fault_more [] f = refl
fault_more (Answered x ∷ told) f = fault_more told f
fault_more (Faulted g ∷ told) f = refl

module _ (seats : List Limits) where
  pub refused_more : (asked : List Request) (told : List Told) (r : Request) (t : Told) → AreRefused seats asked told → IsRefused seats r t → AreRefused seats (asked ++ r ∷ []) (told ++ t ∷ [])
  refused_more [] [] r t h k = (k, tt)
  refused_more [] (u ∷ told) r t h k = absurd h
  refused_more (x ∷ asked) [] r t h k = absurd h
  refused_more (x ∷ asked) (u ∷ told) r t (h, hs) k = (h, refused_more asked told r t hs k)

  -- what is no SEAT is refused so
  pub other_refused : (r : Request) → ((number : ℕ) → r ≡ request.Seat number → ⊥) → IsRefused seats r (Faulted NotClaimed)
  other_refused (request.Load source) other = refl
  other_refused request.Reset other = refl
  other_refused (request.Run steps) other = refl
  other_refused (request.Step n) other = refl
  other_refused (request.Choose choices) other = refl
  other_refused (request.Advance milliseconds) other = refl
  other_refused request.Clock other = refl
  other_refused (request.List listing) other = refl
  other_refused request.Output other = refl
  other_refused (request.Seat number) other = absurd (other number refl)
  other_refused request.Quit other = refl
  other_refused (request.Bad why) other = refl

-- ---- with a seat

module _ (limits : Limits) where
  pub told_more : (sent asked : List Request) (told : List Told) (stored : List Request) (r : Request) (t : Told) (next : List Request)
      → list_any is_quit asked ≡ false → AreTold limits sent asked told stored → IsTold limits stored r t next → AreTold limits sent (asked ++ r ∷ []) (told ++ t ∷ []) next
  told_more sent [] [] stored r t next going h k = (next, subst (λ s. IsTold limits s r t next) h k, (λ _. (refl, refl)), (λ _. refl))
  told_more sent [] (u ∷ told) stored r t next going h k = absurd h
  told_more sent (x ∷ asked) [] stored r t next going h k = absurd h
  told_more sent (x ∷ asked) (u ∷ told) stored r t next going (middle, is, quit, on) k = (
    middle,
    is,
    (λ q. absurd (goes_on (is_quit x) q going)),
    (λ q. told_more middle asked told stored r t next (rest (is_quit x) going) (on q) k),
  )
    where
      goes_on : (b : Bool) → b ≡ true → (b || list_any is_quit asked) ≡ false → ⊥
      goes_on true h none = absurd (cc)
      goes_on false h none = absurd (cc)

      rest : (b : Bool) → (b || list_any is_quit asked) ≡ false → list_any is_quit asked ≡ false
      rest true none = absurd (cc)
      rest false none = none

  -- behind a QUIT nothing is
  pub told_behind : (sent asked more : List Request) (told : List Told) (stored : List Request) → list_any is_quit asked ≡ true → AreTold limits sent asked told stored → AreTold limits sent (asked ++ more) told stored
  told_behind sent [] more told stored over h = absurd (cc)
  told_behind sent (x ∷ asked) more [] stored over h = absurd h
  told_behind sent (x ∷ asked) more (u ∷ told) stored over (middle, is, quit, on) = (middle, is, quit, (λ q. told_behind middle asked more told stored (rest (is_quit x) q over) (on q)))
    where
      rest : (b : Bool) → b ≡ false → (b || list_any is_quit asked) ≡ true → list_any is_quit asked ≡ true
      rest true h e = absurd (cc)
      rest false h e = e
