-- What a journal grows by.
use Rattle.std.specs.Prelude.{nat_lt, nat_le, ◌||◌}
use Rattle.std.proofs.Common.{◌≡◌, ℕ, ◌+◌, ◌≤◌, List, [], ◌∷◌, ◌++◌, Bool, true, false, refl, sym, ap, ◌∙◌, arith}
use Rattle.aud_text.specs.declared.limits.TheConstants.{REQUESTS, REQUEST_BYTES}
use Rattle.aud_bench.specs.declared.request.Request.{Request}
use Rattle.aud_bench.specs.Alone.{is_quit, has_room, fits}
use Rattle.aud_bench.specs.Seen.{has_quit}
use Rattle.aud_bench.specs.Size.{size, bytes_of}
use Rattle.aud_bench.proofs.Truths.{and_right, true_le}

pub bytes_append : (journal : List Request) (r : Request) → bytes_of (journal ++ r ∷ []) ≡ bytes_of journal + size r
bytes_append [] r = omega arith
bytes_append (x ∷ journal) r = omega (arith, bytes_append journal r)

pub or_assoc : (a b c : Bool) → (a || (b || c)) ≡ ((a || b) || c)
or_assoc true b c = refl
or_assoc false b c = refl

or_false : (a : Bool) → (a || false) ≡ a
or_false true = refl
or_false false = refl

quit_append : (journal : List Request) (r : Request) → has_quit (journal ++ r ∷ []) ≡ (has_quit journal || is_quit r)
quit_append [] r = or_false (is_quit r)
quit_append (x ∷ journal) r = ap (λ b. is_quit x || b) (quit_append journal r) ∙ or_assoc (is_quit x) (has_quit journal) (is_quit r)

-- a request behind others none of which ends the session
pub last_quits : (journal : List Request) (r : Request) → has_quit journal ≡ false → has_quit (journal ++ r ∷ []) ≡ is_quit r
last_quits journal r h = quit_append journal r ∙ ap (λ b. b || is_quit r) h

pub room_left : (requests bytes : ℕ) (r : Request) → fits requests bytes r ≡ true → is_quit r ≡ false → bytes + size r ≤ REQUEST_BYTES
room_left requests bytes r fitting other =
    let room : has_room requests bytes (size r) ≡ true = sym (ap (λ b. b || has_room requests bytes (size r)) other) ∙ fitting in
    true_le (bytes + size r) REQUEST_BYTES (and_right (nat_lt requests REQUESTS) (nat_le (bytes + size r) REQUEST_BYTES) room)
