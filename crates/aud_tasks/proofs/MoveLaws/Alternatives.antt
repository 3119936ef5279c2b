-- One move for each alternative.
use Rattle.std.proofs.Common.{◌≡◌, ◌<◌, ◌≤◌, ◌+◌, ℕ, zero, suc, List, [], ◌∷◌, length, drop, get_or, map, Some, None, slice_get, true, false, refl, ap, sym, ◌∙◌, arith}
use Rattle.std.specs.Prelude.{nat_eq}
use Rattle.std.proofs.lemmas.Bool.{eqb-true}
use Rattle.std.proofs.lemmas.List.{at_drop_more, length-map}
use Rattle.aud_meaning.specs.Run.{picks}
use Rattle.aud_tasks.specs.Enabled.{each_or_one}

pub no_number : (ns : List ℕ) → nat_eq (length ns) 0 ≡ true → ns ≡ []
no_number [] h = refl
no_number (n ∷ ns) h = absurd (omega (arith, eqb-true (length (n ∷ ns)) 0 h))

pub each_picked : (task : ℕ) (ns : List ℕ) → nat_eq (length ns) 0 ≡ false → each_or_one task ns ≡ map (picks task) ns
each_picked task [] h = absurd cc
each_picked task (n ∷ ns) h = refl

pub next_picked : (task : ℕ) (ns : List ℕ) (i : ℕ) → i < length ns → map (picks task) (drop i ns) ≡ picks task (get_or ns i 0) ∷ map (picks task) (drop (i + 1) ns)
next_picked task ns i within = at_drop_more (map (picks task)) ns i 0 within

pub many_each : (task : ℕ) (ns : List ℕ) → nat_eq (length ns) 0 ≡ false → length (each_or_one task ns) ≡ length ns
many_each task ns some = ap length (each_picked task ns some) ∙ length-map ns (picks task)

pub picked_at : (task : ℕ) (ns : List ℕ) (i n : ℕ) → i < length ns → n ≡ get_or ns i n → slice_get (map (picks task) ns) i ≡ Some (picks task n)
picked_at task [] i n within is = absurd (omega (arith, within))
picked_at task (m ∷ ns) zero n within is = ap (λ k. Some (picks task k)) (sym is)
picked_at task (m ∷ ns) (suc i) n within is = picked_at task ns i n (omega (arith, within)) is

pub picked_past : (task : ℕ) (ns : List ℕ) (i : ℕ) → length ns ≤ i → slice_get (map (picks task) ns) i ≡ None
picked_past task [] i past = refl
picked_past task (m ∷ ns) zero past = absurd (omega (arith, past))
picked_past task (m ∷ ns) (suc i) past = picked_past task ns i (omega (arith, past))
