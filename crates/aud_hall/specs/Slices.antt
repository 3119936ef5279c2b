-- What is done with a bench: requests are given to it, and it works in slices. Memory may be refused in either.
use Rattle.std.specs.Prelude.{ℕ, ◌+◌, ◌-◌, min, List, [], ◌++◌, length, take, drop, Option, Some, None, Bool, false, nat_lt, ◌||◌, if◌then◌else◌}
use Rattle.aud_text.specs.declared.limits.Limits.{Limits}
use Rattle.aud_bench.specs.declared.request.Request.{Request}
use Rattle.aud_bench.specs.Alone.{cost}
use Rattle.aud_bench.specs.Seen.{Seen as Bench, made_by}

-- a bench to which nothing is given yet
abbrev pub opened : Limits → Bench
opened limits = record { limits = limits; journal = []; units = 0; taken = 0; spent = false }

-- how many requests are answered
abbrev pub answered : Bench → ℕ
answered b = length (made_by b)

-- Memory is refused after so many units, or so many requests; or it is not refused. That counts where there was more to do.
abbrev pub until : (refused : Option ℕ) → ℕ → ℕ
until None n = n
until (Some m) n = min m n

abbrev pub is_cut : (refused : Option ℕ) → ℕ → Bool
is_cut None n = false
is_cut (Some m) n = nat_lt m n

-- what a slice of so many units comes to where no memory is refused: the lesser of them and of what is left of the cost
abbrev pub lesser : ℕ → Bench → ℕ
lesser units b = min units (cost b.limits b.journal - b.units)

-- the units that a slice does; none where the bench has closed
abbrev pub done : (units : ℕ) (refused : Option ℕ) → Bench → ℕ
done units refused b = if b.spent then 0 else until refused (lesser units b)

abbrev pub sliced : (units : ℕ) (refused : Option ℕ) → Bench → Bench
sliced units refused b = record b {
  units = b.units + done units refused b;
  spent = b.spent || is_cut refused (lesser units b);
}

-- an open bench, with all the requests that it has not got yet; it closes where memory is refused before the last of them
abbrev pub given : List Request → (refused : Option ℕ) → Bench → Bench
given requests refused b =
    let missing = drop (length b.journal) requests in
    record b {
      journal = b.journal ++ take (until refused (length missing)) missing;
      spent = is_cut refused (length missing);
    }
