-- The lines of a greeting, one seat more.
use Rattle.std.proofs.Common.{◌≡◌, ℕ, zero, suc, ◌+◌, ◌<◌, List, [], ◌∷◌, ◌++◌, length, take, get_or, sym, ap, ◌∙◌, append_assoc, append-nil, arith}
use Rattle.aud_text.specs.declared.limits.Limits.{Limits}
use Rattle.aud_connection.specs.Greeting.{seat_line, seat_lines}

pub lines_up_to : (number : ℕ) (seats : List Limits) (i : ℕ) (none : Limits) → i < length seats → seat_lines number (take i seats) ++ seat_line (i + number) (get_or seats i none) ≡ seat_lines number (take (i + 1) seats)
lines_up_to number [] i none here = absurd (omega (arith, here))
lines_up_to number (x ∷ seats) zero none here =
    let first : zero + number ≡ number = omega arith in
    ap (λ n. seat_line n x) first ∙ sym (append-nil (seat_line number x))
lines_up_to number (x ∷ seats) (suc i) none here =
    let on : suc i + number ≡ i + suc number = omega arith in
    let one_more : suc (i + 1) ≡ suc i + 1 = omega arith in
    append_assoc (seat_line number x) (seat_lines (suc number) (take i seats)) (seat_line (suc i + number) (get_or seats i none))
    ∙ ap (λ n. seat_line number x ++ (seat_lines (suc number) (take i seats) ++ seat_line n (get_or seats i none))) on
    ∙ ap (λ t. seat_line number x ++ t) (lines_up_to (suc number) seats i none (omega (arith, here)))
    ∙ ap (λ m. seat_lines number (take m (x ∷ seats))) one_more
