-- Readers and writers of which one call fails.
use Rattle.std.specs.Prelude.{◌≡◌, ℕ, ◌-◌, ◌≤◌, Option, None, SomeIff, MatchOption}

-- behind a call: it was the one that fails, or one of those before it
abbrev pub IsOneCallOn : Option ℕ → Option ℕ → Type 0
IsOneCallOn old new = MatchOption old (new ≡ None) (λ before. SomeIff new (1 ≤ before) (before - 1))
