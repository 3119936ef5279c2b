-- Lines, each ended by a line feed.
use Rattle.std.specs.Prelude.{ℕ, List, ◌==◌, count_by}

abbrev pub line_count : List ℕ → ℕ
line_count text = count_by (λ byte. byte == 10) text
