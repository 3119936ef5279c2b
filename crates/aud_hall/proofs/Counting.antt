-- How many answers a bench has.
use Rattle.std.proofs.Common.{◌≡◌, ◌+◌, ◌-◌, ◌≤◌, length, Bool, true, false, refl, arith, length-append, length-drop}
use Rattle.aud_bench.specs.Seen.{Seen as Bench, made_by, told, answers_of, untaken}
use Rattle.aud_hall.specs.Slices.{answered}

told_one : (c : Bool) → c ≡ true → length (told c) ≡ 1
told_one true e = refl
told_one false e = absurd (cc)

told_none : (c : Bool) → c ≡ false → length (told c) ≡ 0
told_none false e = refl
told_none true e = absurd (cc)

pub spent_count : (b : Bench) → b.spent ≡ true → length (answers_of b) ≡ answered b + 1
spent_count b e = omega (arith, length-append (made_by b) (told b.spent), told_one b.spent e)

pub open_count : (b : Bench) → b.spent ≡ false → length (answers_of b) ≡ answered b
open_count b e = omega (arith, length-append (made_by b) (told b.spent), told_none b.spent e)

-- those that were taken out are the others
pub taken_count : (b : Bench) → b.taken ≤ answered b → length (answers_of b) - length (untaken b) ≡ b.taken
taken_count b h = omega (arith, length-append (made_by b) (told b.spent), length-drop b.taken (answers_of b), h)
