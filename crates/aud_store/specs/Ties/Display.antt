-- The numbers of the frames that are seen, and of those before and behind them that are hidden.
use Rattle.std.specs.Prelude.{ℕ, suc, ◌+◌, ◌-◌, List, [], ◌∷◌, ◌++◌, take, drop, length, Option, Some, None, slice_get, slice_set}
use Rattle.aud_store.specs.declared.display.Replaced.{Replaced}
use Rattle.aud_store.specs.declared.display.Replaced.TheVariants.{Among, Apart}

-- behind those of a base, so many of the numbers are those of frames that are seen
pub record Display : Type 0 where
  pub numbers : List ℕ
  pub base : ℕ
  pub count : ℕ

abbrev pub seen : Display → List ℕ
seen d = take d.count (drop d.base d.numbers)

-- in the place of the number that stands there, or behind all
abbrev pub put_by : Option ℕ → ℕ → ℕ → List ℕ → List ℕ
put_by None n number numbers = numbers ++ number ∷ []
put_by (Some old) n number numbers = slice_set numbers n number

-- a frame is seen behind so many
abbrev pub placed : ℕ → ℕ → Display → Display
placed kept frame d = record d { numbers = put_by (slice_get d.numbers (d.base + kept)) (d.base + kept) frame d.numbers; count = suc kept }

-- what it stands in place of
abbrev pub stands : ℕ → Display → Replaced
stands kept d = Among (slice_get d.numbers (d.base + kept)) d.count

-- a frame is seen behind these alone
abbrev pub set_apart : List ℕ → ℕ → Display → Display
set_apart numbers frame d = record { numbers = d.numbers ++ (numbers ++ frame ∷ []); base = length d.numbers; count = suc (length numbers) }

abbrev pub stands_apart : Display → Replaced
stands_apart d = Apart d.base d.count

-- the last of so many is left; behind them there are others only where it stood in place of one
abbrev pub without_last : Option ℕ → ℕ → List ℕ → List ℕ
without_last None count numbers = take (length numbers - 1) numbers
without_last (Some number) count numbers = slice_set numbers (count - 1) number

-- what stood there is back
abbrev pub put_back : Replaced → Display → Display
put_back (Among number seen) d = record d { numbers = without_last number (d.base + d.count) d.numbers; count = seen }
put_back (Apart base seen) d = record { numbers = take d.base d.numbers; base = base; count = seen }

-- the number that it stands in place of
abbrev pub number_of : Replaced → Option ℕ
number_of (Among number seen) = number
number_of (Apart base seen) = None

-- there are as many numbers
abbrev pub end_of : Display → ℕ
end_of d = d.base + d.count
