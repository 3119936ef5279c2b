-- Open frames that are left one after the other.
use Rattle.std.proofs.Common.{◌≡◌, ℕ, zero, suc, ◌+◌, ◌<◌, true, false, List, [], ◌∷◌, length, refl, arith, add-one}
use Rattle.aud_meaning.specs.Configuration.{Opened}
use Rattle.aud_meaning.specs.Ties.Stack.{Stack, closed, closed_times, out_of_loops}
use Rattle.aud_store.specs.Ties.Stored.{is_in_loop}

closed_last : (n : ℕ) (s : Stack) → closed_times (suc n) s ≡ closed (closed_times n s)
closed_last zero s = refl
closed_last (suc n) s = closed_last n (closed s)

-- the one after n
pub closed_more : (n : ℕ) (s : Stack) → closed_times (n + 1) s ≡ closed (closed_times n s)
closed_more n s = rw (add-one n) (closed_last n s)

out_inner_by : (display : List ℕ) (os : List Opened) → is_in_loop os ≡ true → out_of_loops (closed (record { display = display; opened = os })) ≡ out_of_loops (record { display = display; opened = os })
out_inner_by display [] h = cc
out_inner_by display (o ∷ os) h = rw h refl

-- out of a loop, and then out of those around it
pub out_inner : (s : Stack) → is_in_loop s.opened ≡ true → out_of_loops (closed s) ≡ out_of_loops s
out_inner s h = out_inner_by s.display s.opened h

out_done_by : (display : List ℕ) (os : List Opened) → is_in_loop os ≡ false → out_of_loops (record { display = display; opened = os }) ≡ record { display = display; opened = os }
out_done_by display [] h = refl
out_done_by display (o ∷ os) h = rw h refl

-- where it is no loop, nothing is left
pub out_done : (s : Stack) → is_in_loop s.opened ≡ false → out_of_loops s ≡ s
out_done s h = out_done_by s.display s.opened h

fewer_by : (display : List ℕ) (os : List Opened) → is_in_loop os ≡ true → length (closed (record { display = display; opened = os })).opened < length os
fewer_by display [] h = absurd (cc)
fewer_by display (o ∷ os) h = omega arith

pub fewer : (s : Stack) → is_in_loop s.opened ≡ true → length (closed s).opened < length s.opened
fewer s h = fewer_by s.display s.opened h
