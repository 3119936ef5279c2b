use Rattle.std.proofs.Common.{◌+◌, ◌++◌, List, ℕ, ap, ◌∙◌, append_assoc, get_or, take, arith}
use Rattle.aud_text.specs.declared.limits.Limits.{Limits}
use Rattle.aud_connection.specs.Greeting.{seat_line, seat_lines}
use Rattle.aud_connection.proofs.Greeted.{lines_up_to}
use Rattle.aud_connection.proofs.greeting.push_seats.Goals as goal

pub loop-index-preserved : goal.loop-index-preserved
loop-index-preserved c =
    let seats = c.args.seats.now in
    let out = c.args.out.now.items in
    let i = c.loop-index.index in
    let none : Limits = record { tasks = 0; source = 0 } in
    let limits = get_or seats i none in
    c.in_ok-push_seat.ensures
    ∙ ap (λ (x : List ℕ). x ++ seat_line (i + 1) limits) c.loop-index.invariant
    ∙ append_assoc out (seat_lines 1 (take i seats)) (seat_line (i + 1) limits)
    ∙ ap (λ (x : List ℕ). out ++ x) (lines_up_to 1 seats i none (omega arith))
