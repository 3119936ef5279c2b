-- Whether the last of some answers tells that memory is out.
use Rattle.std.proofs.Common.{◌≡◌, ℕ, zero, suc, ◌+◌, ◌-◌, ◌<◌, ◌≤◌, List, [], ◌∷◌, ◌++◌, ◌||◌, length, take, drop, Option, Some, None, Bool, true, false, refl, sym, ap, ◌∙◌, subst, arith, append-nil, append_assoc, length-append, take-append-drop}
use Rattle.std.specs.Prelude.{slice_get}
use Rattle.std.specs.List.{list_any}
use Rattle.aud_text.specs.declared.limits.Limits.{Limits}
use Rattle.aud_bench.specs.declared.request.Request.{Request}
use Rattle.aud_bench.specs.declared.request.Answer.{Answer}
use Rattle.aud_bench.specs.Alone.{alone}
use Rattle.aud_bench.specs.Seen.{tells_memory, told}
use Rattle.aud_bench.proofs.Truths.{or_left, or_right}
use Rattle.aud_bench.proofs.Told.{alone_never, alone_count}
use Rattle.aud_bench.proofs.Sessions.{alone_front}
use Rattle.aud_hall.specs.Numbered.{IsPrefix}
use Rattle.aud_hall.specs.Told.{AreAnswers}
use Rattle.aud_hall.proofs.Lists.{two_fronts}
pub use Rattle.aud_hall.proofs.Seats.{front_more}
use Rattle.aud_pass.specs.Passed.{is_over, IsGot}

last_at : (answers : List Answer) (n : ℕ) (a : Answer) → n + 1 ≡ length answers → slice_get answers n ≡ Some a → is_over answers ≡ tells_memory a
last_at [] n a count is = absurd (cc)
last_at (x ∷ []) zero a count is = ap (λ o. told_by o) is
  where
    told_by : Option Answer → Bool
    told_by None = false
    told_by (Some y) = tells_memory y
last_at (x ∷ []) (suc n) a count is = absurd (omega (arith, count))
last_at (x ∷ y ∷ answers) zero a count is = absurd (omega (arith, count))
last_at (x ∷ y ∷ answers) (suc n) a count is = last_at (y ∷ answers) n a (omega (arith, count)) is

-- it is what the last one says
pub last_is : (answers : List Answer) (a : Answer) → slice_get answers (length answers - 1) ≡ Some a → is_over answers ≡ tells_memory a
last_is [] a is = absurd (cc)
last_is (x ∷ answers) a is =
    let n : length (x ∷ answers) - 1 ≡ length answers = omega arith in
    last_at (x ∷ answers) (length answers) a (omega arith) (ap (slice_get (x ∷ answers)) (sym n) ∙ is)

over_none : (answers : List Answer) → list_any tells_memory answers ≡ false → is_over answers ≡ false
over_none [] h = refl
over_none (a ∷ []) h = or_left (tells_memory a) false h
over_none (a ∷ b ∷ answers) h = over_none (b ∷ answers) (or_right (tells_memory a) (list_any tells_memory (b ∷ answers)) h)

over_last : (answers : List Answer) → is_over (answers ++ told true) ≡ true
over_last [] = refl
over_last (a ∷ []) = refl
over_last (a ∷ b ∷ answers) = over_last (b ∷ answers)

any_front : (some rest : List Answer) → list_any tells_memory (some ++ rest) ≡ false → list_any tells_memory some ≡ false
any_front [] rest h = refl
any_front (a ∷ some) rest h =
    let here = or_left (tells_memory a) (list_any tells_memory (some ++ rest)) h in
    ap (λ b. b || list_any tells_memory some) here ∙ any_front some rest (or_right (tells_memory a) (list_any tells_memory (some ++ rest)) h)

told_over : (some : List Answer) (closed : Bool) → list_any tells_memory some ≡ false → is_over (some ++ told closed) ≡ closed
told_over some false none = ap is_over (append-nil some) ∙ over_none some none
told_over some true none = over_last some

-- so many of the first answers of a private server, and perhaps that memory is out
pub answers_got : (limits : Limits) (requests : List Request) (closed : Bool) (answers : List Answer) → AreAnswers limits requests closed answers → IsGot limits requests answers
answers_got limits requests closed answers is =
    let all = alone limits requests in
    let n = length answers - length (told closed) in
    let some = take n all in
    let split : all ≡ some ++ drop n all = sym (take-append-drop n all) in
    let none : list_any tells_memory some ≡ false = any_front some (drop n all) (sym (ap (list_any tells_memory) split) ∙ alone_never limits requests) in
    let over : is_over answers ≡ closed = ap is_over is ∙ told_over some closed none in
    (some, is ∙ ap (λ c. some ++ told c) (sym over), (drop n all, split))

-- more is sent
pub got_more : (limits : Limits) (sent more : List Request) (got : List Answer) → IsGot limits sent got → IsGot limits (sent ++ more) got
got_more limits sent more got (front, is, f) = (front, is, front_more front (alone limits sent) (alone limits (sent ++ more)) f (alone_front limits sent more))

-- nothing was sent
pub got_none : (limits : Limits) → IsGot limits [] []
got_none limits = ([], refl, (alone limits [], refl))

module _ (limits : Limits) (sent : List Request) (got : List Answer) (right : IsGot limits sent got) (over : is_over got ≡ false) where
  -- the answers are a prefix of those of a private server
  pub front_got : IsPrefix got (alone limits sent)
  front_got =
      let is : got ≡ right.0 = right.1 ∙ ap (λ c. right.0 ++ told c) over ∙ append-nil right.0 in
      subst (λ xs. IsPrefix xs (alone limits sent)) (sym is) right.2

  within : length got ≤ length sent
  within = omega (arith, ap length front_got.1, length-append got front_got.0, alone_count limits sent)

  pub fewer : (length got ≡ length sent → ⊥) → length got < length sent
  fewer other = by (length got) (length sent) within other
    where
      by : (n m : ℕ) → n ≤ m → (n ≡ m → ⊥) → n < m
      by n m h k = omega (arith, h, k)

  -- and all of them, where there are as many as requests
  pub whole : length got ≡ length sent → got ≡ alone limits sent
  whole same = by front_got.0 front_got.1
    where
      by : (rest : List Answer) → alone limits sent ≡ got ++ rest → got ≡ alone limits sent
      by [] is = sym (is ∙ append-nil got)
      by (a ∷ rest) is = absurd (omega (arith, ap length is, length-append got (a ∷ rest), alone_count limits sent, same))

  -- longer answers of the same server begin with them
  module _ (closed : Bool) (answers : List Answer) (is : AreAnswers limits sent closed answers) (longer : length got < length answers) where
    pub front_longer : IsPrefix got answers
    front_longer =
        let all = alone limits sent in
        let n = length answers - length (told closed) in
        let some = take n all in
        let split : all ≡ some ++ drop n all = sym (take-append-drop n all) in
        let one : length (told closed) ≤ 1 = told_few closed in
        let ahead : length got ≤ length some = omega (arith, ap length is, length-append some (told closed), one, longer) in
        let rest = two_fronts got some all front_got (drop n all, split) ahead in
        (drop (length got) some ++ told closed, is ∙ ap (λ xs. xs ++ told closed) rest ∙ append_assoc got (drop (length got) some) (told closed))
      where
        told_few : (c : Bool) → length (told c) ≤ 1
        told_few false = omega arith
        told_few true = omega arith
